-- What is reported after an effect doesn't depend on what it does away with: the operands of a frame that is left, and what stands in the state in place of the frames.
use Rattle.std.proofs.Common.{◌≡◌, ℕ, ◌+◌, Bool, true, false, List, [], ◌∷◌, Option, Some, None, refl, sym, ◌∙◌, if◌then◌else◌}
use Rattle.std.specs.Prelude.{⊤}
use Rattle.dj_names.specs.declared.descriptor.Ty.{Ty}
use Rattle.dj_names.specs.declared.run.Value.{Value}
use Rattle.dj_names.specs.declared.run.Outcome.TheVariants as outcomes
use Rattle.dj_names.specs.trusted.Heaps.{Object, object_size, with_new, next_number}
use Rattle.dj_model.specs.trusted.Types.{Declared, Prefix}
use Rattle.dj_model.specs.trusted.Program.{Program, code_of, is_initialiser}
use Rattle.dj_model.specs.trusted.Linking.{member_class}
use Rattle.dj_model.specs.trusted.State.{Terms, State, Frame, Flow, Way, Next, To, Raise, Back, Goes, Catch, Stop, Call, End}
use Rattle.dj_model.specs.trusted.Arrays.{passes_limit}
use Rattle.dj_model.specs.trusted.Performing.{class_at_number}
use Rattle.dj_model.specs.trusted.Step.{StepAnswer, Ended, ends_with, message_of, handler_of, at_handler, unwound, throw, throw_new, new_exception, new_stop, stop_from, throw_stop_or, settle}
use Rattle.dj_settling.specs.Reported.{reported_of}
use Rattle.dj_settling.specs.Settling.{top_settled}

module _ (program : Program) (prefix : Prefix) where
  -- ---- an exception on its way up

  either_reported : (b : Bool) (a c d e : StepAnswer) → reported_of a ≡ reported_of d → reported_of c ≡ reported_of e → reported_of (if b then a else c) ≡ reported_of (if b then d else e)
  either_reported true a c d e first second = first
  either_reported false a c d e first second = second

  unwound_alike : (s : State) (stand : List (Frame Declared)) (class : Ty) (exception : ℕ) (frames : List (Frame Declared))
      → reported_of (unwound program prefix (record s { frames = stand }) class exception frames) ≡ reported_of (unwound program prefix s class exception frames)
  unfolding unwound
  unwound_alike s stand class exception [] = refl
  unwound_alike s stand class exception (f ∷ below) = by (handler_of program prefix class f.number (code_of program f.method)) (unwound_alike s stand class exception below) where
    by : (handler : Option ℕ)
        → reported_of (unwound program prefix (record s { frames = stand }) class exception below) ≡ reported_of (unwound program prefix s class exception below)
        → reported_of (at_handler prefix (record s { frames = stand }) class exception f below handler (unwound program prefix (record s { frames = stand }) class exception below))
        ≡ reported_of (at_handler prefix s class exception f below handler (unwound program prefix s class exception below))
    by (Some handler) above = refl
    by None above = either_reported (is_initialiser f.method) (ends_with prefix (record s { frames = stand }) class (outcomes.Init f.method.class (member_class prefix class) (message_of s.heap exception)))
        (unwound program prefix (record s { frames = stand }) class exception below) (ends_with prefix s class (outcomes.Init f.method.class (member_class prefix class) (message_of s.heap exception)))
        (unwound program prefix s class exception below) refl above

  module _ (f : Frame Declared) (operands : List Value) (below : List (Frame Declared)) where
    abbrev g : Frame Declared
    g = record f { operands = operands }

    thrown_alike : (s : State) (class : Ty) (exception : ℕ)
        → reported_of (unwound program prefix (record s { frames = g ∷ below }) class exception (g ∷ below)) ≡ reported_of (unwound program prefix (record s { frames = f ∷ below }) class exception (f ∷ below))
    unfolding unwound
    thrown_alike s class exception = by (handler_of program prefix class f.number (code_of program f.method)) where
      by : (handler : Option ℕ)
          → reported_of (at_handler prefix (record s { frames = g ∷ below }) class exception g below handler (unwound program prefix (record s { frames = g ∷ below }) class exception below))
          ≡ reported_of (at_handler prefix (record s { frames = f ∷ below }) class exception f below handler (unwound program prefix (record s { frames = f ∷ below }) class exception below))
      by (Some handler) = refl
      by None =
          either_reported (is_initialiser f.method)
          (ends_with prefix (record s { frames = g ∷ below }) class (outcomes.Init f.method.class (member_class prefix class) (message_of s.heap exception)))
          (unwound program prefix (record s { frames = g ∷ below }) class exception below)
          (ends_with prefix (record s { frames = f ∷ below }) class (outcomes.Init f.method.class (member_class prefix class) (message_of s.heap exception)))
          (unwound program prefix (record s { frames = f ∷ below }) class exception below) refl
          (unwound_alike s (g ∷ below) class exception below ∙ sym (unwound_alike s (f ∷ below) class exception below))

    new_alike : (terms : Terms) (s : State) (object : Object Ty)
        → reported_of (throw_new program prefix terms (record s { frames = g ∷ below }) object) ≡ reported_of (throw_new program prefix terms (record s { frames = f ∷ below }) object)
    new_alike terms s object =
        either_reported (passes_limit terms.limit (s.heap.used + object_size object))
        (Ended (outcomes.HeapFull s.heap.used (object_size object)) (record s { frames = g ∷ below }))
        (throw program prefix (record s { frames = g ∷ below; heap = with_new s.heap object }) (next_number s.heap))
        (Ended (outcomes.HeapFull s.heap.used (object_size object)) (record s { frames = f ∷ below }))
        (throw program prefix (record s { frames = f ∷ below; heap = with_new s.heap object }) (next_number s.heap)) refl
        (thrown_alike (record s { heap = with_new s.heap object }) (class_at_number (with_new s.heap object) (next_number s.heap)) (next_number s.heap))

    -- ---- whatever leaves the top frame

    abbrev pub Leaves : Flow → Type 0
    Leaves (Goes Next) = ⊥
    Leaves (Goes (To number)) = ⊥
    Leaves (Call method arguments) = ⊥
    Leaves flow = ⊤

    pub flow_alike : (terms : Terms) (s : State) (flow : Flow) → Leaves flow
        → reported_of (top_settled program prefix flow terms (record s { frames = g ∷ below })) ≡ reported_of (top_settled program prefix flow terms (record s { frames = f ∷ below }))
    unfolding settle
    flow_alike terms s (Goes Next) leaves = absurd leaves
    flow_alike terms s (Goes (To number)) leaves = absurd leaves
    flow_alike terms s (Goes (Raise raised)) leaves = new_alike terms s (new_exception prefix raised)
    flow_alike terms s (Goes (Back result)) leaves = back below where
      back : (rest : List (Frame Declared))
          → reported_of (top_settled program prefix (Goes (Back result)) terms (record s { frames = g ∷ rest })) ≡ reported_of (top_settled program prefix (Goes (Back result)) terms (record s { frames = f ∷ rest }))
      back [] = refl
      back (caller ∷ rest) = refl
    flow_alike terms s (Catch exception) leaves = thrown_alike s (class_at_number s.heap exception) exception
    flow_alike terms s Stop leaves = by (stop_from prefix 1 s.heap.objects) where
      by : (r : Option ℕ) → reported_of (throw_stop_or program prefix terms (record s { frames = g ∷ below }) r) ≡ reported_of (throw_stop_or program prefix terms (record s { frames = f ∷ below }) r)
      by None = new_alike terms s new_stop
      by (Some r) = thrown_alike s (class_at_number s.heap r) r
    flow_alike terms s (Call method arguments) leaves = absurd leaves
    flow_alike terms s (End outcome) leaves = refl
