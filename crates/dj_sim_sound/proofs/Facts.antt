-- What the law asks of a program: the deterministic library has it, and without it the law doesn't hold.
use Rattle.std.proofs.Common.{◌≡◌, [], Some, None, refl, subst, ◌∙◌, arith}
use Rattle.dj_names.specs.trusted.Types.{Name}
use Rattle.dj_names.specs.Types.{in_sandbox, sandbox_prefix}
use Rattle.dj_names.specs.Library.{accounter_class}
use Rattle.dj_model.specs.trusted.Types.{object_name}
use Rattle.dj_model.specs.trusted.Program.{class_at, has_initialiser, code_of}
use Rattle.dj_model.specs.Libraries.{metered_program}
use Rattle.dj_model.specs.Sound.{ReachesTop, top, below, IsSound}
use Rattle.dj_model.proofs.SoundPrograms.{libraries_are_sound}
use Rattle.dj_groups.specs.Rewritten.{rewritten}
use Rattle.dj_sim.specs.Simulation.{HasObject}
use Rattle.dj_sim_sound.proofs.Programs.{accounter, sound_now}

library_has_object : HasObject (metered_program [])
unfolding metered_program has_initialiser code_of
library_has_object = record { object = _; there = refl; top = refl; fields = refl; quiet = refl }

library_stays_sound : IsSound (rewritten (metered_program [])) sandbox_prefix
unfolding rewritten
library_stays_sound = sound_now (metered_program []) library_has_object libraries_are_sound.deterministic

-- a program without classes is sound
nothing_is_sound : IsSound [] []
nothing_is_sound = record {
  formed = record { names = refl; classes = λ c there. absurd (omega (arith, there.1)) };
  classes = λ c there. absurd (omega (arith, there.1));
}

-- but the accounter needs a class above it
no_object : (name : Name) → name ≡ in_sandbox (object_name []) → ReachesTop (rewritten []) name → ⊥
unfolding rewritten
no_object name is (top class c there none) = absurd (let no : None ≡ Some c = subst (λ (n : Name). class_at (rewritten []) n ≡ Some c) is there in cc)
no_object name is (below class above c there next more) = absurd (let no : None ≡ Some c = subst (λ (n : Name). class_at (rewritten []) n ≡ Some c) is there in cc)

no_accounter : (name : Name) → name ≡ accounter_class → ReachesTop (rewritten []) name → ⊥
unfolding rewritten
no_accounter name is (top class c there none) =
    let found : Some accounter ≡ Some c = subst (λ (n : Name). class_at (rewritten []) n ≡ Some c) is there in
    let same : Some (in_sandbox (object_name [])) ≡ c.superclass = cc in
    let no : Some (in_sandbox (object_name [])) ≡ None = same ∙ none in absurd cc
no_accounter name is (below class above c there next more) =
    let found : Some accounter ≡ Some c = subst (λ (n : Name). class_at (rewritten []) n ≡ Some c) is there in
    let same : Some (in_sandbox (object_name [])) ≡ c.superclass = cc in
    let up : Some (in_sandbox (object_name [])) ≡ Some above = same ∙ next in
    let name_is : above ≡ in_sandbox (object_name []) = cc in no_object above name_is more

nothing_rewritten : IsSound (rewritten []) sandbox_prefix → ⊥
unfolding rewritten
nothing_rewritten sound = no_accounter accounter_class refl (sound.formed.classes accounter (0, omega arith, refl)).ends
