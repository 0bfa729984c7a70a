-- One act of the metered run is one step of the plain run, on the same terms.
use Rattle.std.proofs.Common.{◌≡◌, ℕ, Bool, List, [], ◌∷◌, Option, Some, None, refl, sym, ap, subst, ◌∙◌}
use Rattle.std.specs.Prelude.{IfSome}
use Rattle.std.specs.Option.{option_map}
use Rattle.dj_names.specs.trusted.Types.{Name}
use Rattle.dj_names.specs.declared.run.Thresholds.{Thresholds}
use Rattle.dj_names.specs.Types.{in_sandbox, sandbox_prefix}
use Rattle.dj_model.specs.trusted.Instructions.{Instruction, Nop, Branch, Goto, Switch, GetStatic, Monitor}
use Rattle.dj_model.specs.trusted.Program.{Program, code_of}
use Rattle.dj_model.specs.trusted.State.{Frame, State, instruction_at, Effect}
use Rattle.dj_model.specs.trusted.Types.{Declared}
use Rattle.dj_model.specs.trusted.Effects.{effect, used_class}
use Rattle.dj_model.specs.trusted.Initialisation.{Initialised, Ready, Waits, Fails, initialise}
use Rattle.dj_model.specs.trusted.Step.{part_of, with_part, frame_with, settled, prepared, done, act, step_of, step}
use Rattle.dj_model.specs.Runs.{metered_terms}
use Rattle.dj_model.proofs.MappedEffects as effects
use Rattle.dj_model.proofs.NameMaps.{sandbox_map}
use Rattle.dj_model.proofs.Flows.{KeepsFlow, flows_kept}
use Rattle.dj_groups.specs.Groups.{start}
use Rattle.dj_groups.specs.Rewritten.{rewritten_code}
use Rattle.dj_sim.specs.Simulation.{groups_in, frame_image, state_image, AreActing, HasEffect, answer_image, initialised_image}
use Rattle.dj_sim.proofs.Acts.{moved_to, regrouped_instruction, other, at, statics, frames_image, paid_instruction, settle_image}
use Rattle.dj_sim.proofs.Effects.{effect_at}

module _ (program : Program) (touched : Bool) where
  used_at : (place : ℕ → ℕ) (i : Instruction)
      → used_class (other program) sandbox_prefix (moved_to place i) ≡ option_map in_sandbox (used_class program [] i)
  unfolding used_class
  used_at place (Branch test target) = refl
  used_at place (Goto target) = refl
  used_at place (Switch pairs default) = refl
  used_at place Monitor = refl
  used_at place Nop = refl
  used_at place (GetStatic m) = effects.used_mapped in_sandbox (rewritten_code program) [] sandbox_prefix sandbox_map program (other program) (at program) (statics program) (GetStatic m)
  used_at place i = effects.used_mapped in_sandbox (rewritten_code program) [] sandbox_prefix sandbox_map program (other program) (at program) (statics program) i

  module _ (most : Thresholds)
      -- initialisation commutes: proved apart
      (initialises : (class : Name) (s : State) → initialise (other program) sandbox_prefix (metered_terms most) (in_sandbox class) (state_image program touched s)
      ≡ initialised_image program touched (initialise program [] (metered_terms most) class s)) where
    prepared_image : (class : Option Name) (s : State)
        → prepared (other program) sandbox_prefix (metered_terms most) (option_map in_sandbox class) (state_image program touched s)
        ≡ initialised_image program touched (prepared program [] (metered_terms most) class s)
    prepared_image None s = refl
    prepared_image (Some class) s = initialises class s

    settled_image : (s : State) (x : Frame Declared) (below : List (Frame Declared)) (i : Instruction) → AreActing (x ∷ below) → HasEffect program most x i s
        → settled (other program) sandbox_prefix (metered_terms most) (state_image program touched s) (frame_image program x) (frames_image program below)
        (effect (other program) sandbox_prefix (metered_terms most) (in_sandbox x.method.class) (regrouped_instruction (groups_in program (code_of program x.method)) i)
        (part_of (frame_image program x) (state_image program touched s)))
        ≡ answer_image program touched (settled program [] (metered_terms most) s x below (effect program [] (metered_terms most) x.method.class i (part_of x s)))
    settled_image s x below i acting h =
        let place : ℕ → ℕ = λ n. start (groups_in program (code_of program x.method)) n in
        let keeps : IfSome (effect program [] (metered_terms most) x.method.class i (part_of x s)) (λ e. KeepsFlow in_sandbox e.flow) =
        flows_kept in_sandbox program [] (metered_terms most) tt x.method.class i (part_of x s) in
        ap (settled (other program) sandbox_prefix (metered_terms most) (state_image program touched s) (frame_image program x) (frames_image program below))
        (effect_at program place (metered_terms most) x.method.class i (part_of x s) h.does h.has h.jumps)
        ∙ (settle_image program touched (metered_terms most) (with_part s h.does.part) (frame_with x h.does.part) below h.does.flow
        (subst (λ (e : Option Effect). IfSome e (λ e. KeepsFlow in_sandbox e.flow)) h.has keeps) acting
        ∙ sym (ap (λ (e : Option Effect). answer_image program touched (settled program [] (metered_terms most) s x below e)) h.has))

    done_image : (x : Frame Declared) (below : List (Frame Declared)) (i : Instruction) (prep : Initialised) → AreActing (x ∷ below)
        → ((s : State) → prep ≡ Ready s → HasEffect program most x i s)
        → done (other program) sandbox_prefix (metered_terms most) (frame_image program x) (frames_image program below)
        (regrouped_instruction (groups_in program (code_of program x.method)) i) (initialised_image program touched prep)
        ≡ answer_image program touched (done program [] (metered_terms most) x below i prep)
    done_image x below i (Ready s) acting h = settled_image s x below i acting (h s refl)
    done_image x below i (Waits s) acting h = refl
    done_image x below i (Fails outcome s) acting h = refl

    pub step_image : (s : State) (x : Frame Declared) (below : List (Frame Declared)) (i : Instruction) → s.frames ≡ x ∷ below → AreActing (x ∷ below)
        → instruction_at program x ≡ Some i → ((t : State) → prepared program [] (metered_terms most) (used_class program [] i) s ≡ Ready t → HasEffect program most x i t)
        → step (other program) sandbox_prefix (metered_terms most) (state_image program touched s) ≡ answer_image program touched (step program [] (metered_terms most) s)
    unfolding step
    step_image s x below i frames acting there h =
        ap (λ fs. step_of (other program) sandbox_prefix (metered_terms most) (state_image program touched s) (frames_image program fs)) frames
        ∙ (ap (act (other program) sandbox_prefix (metered_terms most) (state_image program touched s) (frame_image program x) (frames_image program below))
        (paid_instruction program x acting.0 ∙ ap (option_map (regrouped_instruction (groups_in program (code_of program x.method)))) there)
        ∙ (ap (done (other program) sandbox_prefix (metered_terms most) (frame_image program x) (frames_image program below) (regrouped_instruction (groups_in program (code_of program x.method)) i))
        (ap (λ class. prepared (other program) sandbox_prefix (metered_terms most) class (state_image program touched s)) (used_at (start (groups_in program (code_of program x.method))) i)
        ∙ prepared_image (used_class program [] i) s)
        ∙ (done_image x below i (prepared program [] (metered_terms most) (used_class program [] i) s) acting h
        ∙ sym (ap (answer_image program touched)
        (ap (step_of program [] (metered_terms most) s) frames ∙ ap (act program [] (metered_terms most) s x below) there)))))
