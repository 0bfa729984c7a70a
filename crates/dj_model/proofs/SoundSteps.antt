-- A step of a sound program is made, but for an answer that the host doesn't give.
use Rattle.std.proofs.Common.{◌≡◌, ℕ, ◌+◌, List, [], ◌∷◌, length, Option, Some, None, nat_le, refl, sym, subst, inl, inr, IsTrue}
use Rattle.std.specs.Prelude.{◌⊎◌}
use Rattle.dj_names.specs.declared.descriptor.Ty.{Ty}
use Rattle.dj_names.specs.trusted.Heaps.{Object, object_size, with_new, next_number}
use Rattle.dj_model.specs.trusted.Types.{Prefix, Declared}
use Rattle.dj_model.specs.trusted.Instructions.{Instruction}
use Rattle.dj_model.specs.trusted.Program.{Program, Code, is_initialiser, code_of}
use Rattle.dj_model.specs.trusted.State.{Terms, Frame, State, instruction_at, Next, To, Raise, Back, Flow, Goes, Catch, Stop, Call, End}
use Rattle.dj_model.specs.trusted.Arrays.{passes_limit}
use Rattle.dj_model.specs.trusted.Performing.{class_at_number}
use Rattle.dj_model.specs.trusted.Effects.{used_class}
use Rattle.dj_model.specs.trusted.Initialisation.{most_frames, Initialised, Ready, Waits, Fails}
use Rattle.dj_model.specs.trusted.Step.{handler_of, at_handler, unwound, throw_new, new_exception, new_stop, stop_from, throw_stop_or, returned, settle, part_of, with_part, frame_with, prepared, done, act, step_of, step}
use Rattle.dj_model.specs.trusted.Kinds.{Signature, Kinds}
use Rattle.dj_model.specs.trusted.Shape.{after}
use Rattle.dj_model.specs.Sound.{is_linked, IsSound}
use Rattle.dj_model.specs.Standing.{HasKinds, IsStarved, IsFormed, IsStarvedAt}
use Rattle.dj_model.proofs.Flows.{either_way}
use Rattle.dj_model.proofs.SoundCalls.{kinds_kept}

-- ---- what follows an effect is formed

unwound_formed : (program : Program) (prefix : Prefix) (s : State) (class : Ty) (exception : ℕ) (frames : List (Frame Declared)) → IsFormed (unwound program prefix s class exception frames)
unfolding unwound
unwound_formed program prefix s class exception [] = tt
unwound_formed program prefix s class exception (f ∷ below) = at (handler_of program prefix class f.number (code_of program f.method)) (unwound_formed program prefix s class exception below) where
  at : (handler : Option ℕ) → IsFormed (unwound program prefix s class exception below) → IsFormed (at_handler prefix s class exception f below handler (unwound program prefix s class exception below))
  at (Some handler) more = tt
  at None more = either_way IsFormed (is_initialiser f.method) _ _ tt more

thrown_formed : (program : Program) (prefix : Prefix) (terms : Terms) (s : State) (object : Object Ty) → IsFormed (throw_new program prefix terms s object)
thrown_formed program prefix terms s object = either_way IsFormed (passes_limit terms.limit (s.heap.used + object_size object)) _ _ tt
    (unwound_formed program prefix (record s { heap = with_new s.heap object }) (class_at_number (with_new s.heap object) (next_number s.heap)) (next_number s.heap) s.frames)

settle_formed : (program : Program) (prefix : Prefix) (terms : Terms) (s : State) (f : Frame Declared) (below : List (Frame Declared)) (flow : Flow) → IsFormed (settle program prefix terms s f below flow)
unfolding settle
settle_formed program prefix terms s f below (Goes Next) = tt
settle_formed program prefix terms s f below (Goes (To number)) = tt
settle_formed program prefix terms s f below (Goes (Raise raised)) = thrown_formed program prefix terms (record s { frames = f ∷ below }) (new_exception prefix raised)
settle_formed program prefix terms s f below (Goes (Back result)) = back below where
  back : (below : List (Frame Declared)) → IsFormed (returned s f result below)
  back [] = tt
  back (caller ∷ below) = tt
settle_formed program prefix terms s f below (Catch exception) = unwound_formed program prefix (record s { frames = f ∷ below }) (class_at_number s.heap exception) exception (f ∷ below)
settle_formed program prefix terms s f below Stop = stopped (stop_from prefix 1 s.heap.objects) where
  stopped : (r : Option ℕ) → IsFormed (throw_stop_or program prefix terms (record s { frames = f ∷ below }) r)
  stopped None = thrown_formed program prefix terms (record s { frames = f ∷ below }) new_stop
  stopped (Some r) = unwound_formed program prefix (record s { frames = f ∷ below }) (class_at_number s.heap r) r (f ∷ below)
settle_formed program prefix terms s f below (Call method arguments) = either_way IsFormed (nat_le most_frames (length (f ∷ below))) _ _ tt tt
settle_formed program prefix terms s f below (End outcome) = tt

-- ---- the step

module _ (program : Program) (prefix : Prefix) (terms : Terms) (s : State) (f : Frame Declared) (below : List (Frame Declared)) (i : Instruction) (signature : Signature) (code : Code) (k left : Kinds)
    (is : IsSound program prefix) (linked : IsTrue (is_linked program prefix i)) (h : HasKinds f.locals f.operands k) (room : length f.locals ≡ code.max_locals)
    (reported : after signature code i k ≡ Some left) where
  starved_at : s.frames ≡ f ∷ below → instruction_at program f ≡ Some i → (t : State) → prepared program prefix terms (used_class program prefix i) s ≡ Ready t
      → IsStarved program prefix terms f.method.class i (part_of f t) → IsStarvedAt program prefix terms s
  starved_at stands at t ready starved = record { top = f; below = below; frames = stands; instruction = i; at = at; ready = t; prepared = ready; starved = starved }

  act_formed : s.frames ≡ f ∷ below → instruction_at program f ≡ Some i → (r : Initialised) → prepared program prefix terms (used_class program prefix i) s ≡ r
      → IsFormed (done program prefix terms f below i r) ⊎ IsStarvedAt program prefix terms s
  act_formed stands at (Ready t) ready = elim (kinds_kept program prefix terms f.method.class signature code i k left (part_of f t) is linked h room reported) [
    | inl e ↦ inl (rw e.has (settle_formed program prefix terms (with_part t e.does.part) (frame_with f e.does.part) below e.does.flow))
    | inr starved ↦ inr (starved_at stands at t ready starved)
  ]
  act_formed stands at (Waits t) ready = inl tt
  act_formed stands at (Fails outcome t) ready = inl tt

  pub step_made : s.frames ≡ f ∷ below → instruction_at program f ≡ Some i → IsFormed (step program prefix terms s) ⊎ IsStarvedAt program prefix terms s
  unfolding step
  step_made stands at =
      subst (λ (frames : List (Frame Declared)). IsFormed (step_of program prefix terms s frames) ⊎ IsStarvedAt program prefix terms s) (sym stands)
      (subst (λ (o : Option Instruction). IsFormed (act program prefix terms s f below o) ⊎ IsStarvedAt program prefix terms s) (sym at)
      (act_formed stands at (prepared program prefix terms (used_class program prefix i) s) refl))
