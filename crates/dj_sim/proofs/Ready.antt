-- Inserted calls initialise nothing but the accounter and Object, which have nothing to initialise.
use Rattle.std.proofs.Common.{◌≡◌, Bool, true, false, List, [], ◌∷◌, ◌++◌, map, reverse, Option, Some, refl, sym, ap, subst, ◌∙◌, if◌then◌else◌}
use Rattle.std.specs.Prelude.{⊤}
use Rattle.std.specs.Option.{option_map}
use Rattle.dj_names.specs.trusted.Types.{Name}
use Rattle.dj_names.specs.Library.{accounter_class}
use Rattle.dj_names.specs.Types.{in_sandbox, sandbox_prefix}
use Rattle.dj_model.specs.trusted.Types.{object_name}
use Rattle.dj_model.specs.trusted.Program.{Program, Class, class_at, fields_of, superclass_of, has_initialiser}
use Rattle.dj_model.specs.Program.{class_map, field_map}
use Rattle.dj_model.specs.trusted.Linking.{most_classes, chain_of, chain}
use Rattle.dj_model.specs.trusted.State.{Terms, State}
use Rattle.dj_model.specs.trusted.Initialisation.{is_initialised, mark, mark_all, not_initialised, Ready, then_ready, with_constants, constants_of, initialiser_frames, initialise_all, initialise}
use Rattle.dj_model.proofs.MappedNames as names
use Rattle.dj_model.proofs.NameMaps.{sandbox_map}
use Rattle.dj_groups.specs.Rewritten.{rewritten_code}
use Rattle.dj_sim.specs.Simulation.{HasObject}
use Rattle.dj_sim.proofs.Acts.{other, at}

module _ (program : Program) (base : HasObject program) (terms : Terms) where
  mapped : Class
  mapped = class_map in_sandbox (rewritten_code program) base.object

  object_there : class_at (other program) (object_name sandbox_prefix) ≡ Some mapped
  unfolding mapped
  object_there = at program (object_name []) ∙ ap (option_map (class_map in_sandbox (rewritten_code program))) base.there

  pub two : chain (other program) accounter_class ≡ accounter_class ∷ object_name sandbox_prefix ∷ []
  unfolding chain_of most_classes mapped
  two = ap (λ (c : Option Class). accounter_class ∷ object_name sandbox_prefix ∷ chain_of 4294967294 (other program) (superclass_of c)) object_there
      ∙ ap (λ (above : Option Name). accounter_class ∷ object_name sandbox_prefix ∷ chain_of 4294967294 (other program) (option_map in_sandbox above)) base.top

  abbrev IsQuiet : Name → Type 0
  IsQuiet class = (fields_of (class_at (other program) class) ≡ []) × (has_initialiser (other program) class ≡ false)

  accounter_quiet : IsQuiet accounter_class
  unfolding has_initialiser
  accounter_quiet = (refl, refl)

  object_quiet : IsQuiet (object_name sandbox_prefix)
  unfolding mapped
  object_quiet = (
    ap fields_of object_there ∙ ap (λ fields. map (field_map in_sandbox) fields) base.fields,
    names.has_initialiser_alike in_sandbox (rewritten_code program) [] sandbox_prefix sandbox_map program (other program) (at program) (object_name []) ∙ base.quiet,
  )

  -- ---- classes with nothing to initialise

  abbrev AreQuiet : List Name → Type 0
  AreQuiet [] = ⊤
  AreQuiet (class ∷ classes) = IsQuiet class × AreQuiet classes

  no_constants : (classes : List Name) → AreQuiet classes → (s : State) → constants_of (other program) sandbox_prefix terms classes s ≡ Ready s
  unfolding constants_of with_constants
  no_constants [] quiet s = refl
  no_constants (class ∷ classes) quiet s =
      ap (λ fields. then_ready (constants_of (other program) sandbox_prefix terms classes) (with_constants (other program) sandbox_prefix terms class fields s)) quiet.0.0
      ∙ no_constants classes quiet.1 s

  no_frames : (classes : List Name) → AreQuiet classes → initialiser_frames (other program) classes ≡ []
  no_frames [] quiet = refl
  no_frames (class ∷ classes) quiet = rw (quiet.0.1) (no_frames classes quiet.1)

  all_ready : (classes : List Name) → AreQuiet classes → (s : State)
      → initialise_all (other program) sandbox_prefix terms classes s ≡ Ready (record s { initialised = mark_all (other program) classes s.initialised })
  all_ready classes quiet s = rw (no_constants classes quiet (record s { initialised = mark_all (other program) classes s.initialised }), no_frames classes quiet) refl

  some_quiet : (a b : Bool) → AreQuiet (reverse ((if a then [] else accounter_class ∷ []) ++ ((if b then [] else object_name sandbox_prefix ∷ []) ++ [])))
  some_quiet true true = tt
  some_quiet true false = (object_quiet, tt)
  some_quiet false true = (accounter_quiet, tt)
  some_quiet false false = (object_quiet, (accounter_quiet, tt))

  unfoldable pub flags_after : State → List Bool
  flags_after r = mark_all (other program) (reverse (not_initialised (other program) r.initialised (chain (other program) accounter_class))) r.initialised

  pub ready : (r : State) → initialise (other program) sandbox_prefix terms accounter_class r ≡ Ready (record r { initialised = flags_after r })
  unfolding initialise flags_after
  ready r = all_ready (reverse (not_initialised (other program) r.initialised (chain (other program) accounter_class)))
      (subst (λ (classes : List Name). AreQuiet (reverse (not_initialised (other program) r.initialised classes))) (sym two)
      (some_quiet (is_initialised (other program) r.initialised accounter_class) (is_initialised (other program) (mark (other program) accounter_class r.initialised) (object_name sandbox_prefix)))) r
