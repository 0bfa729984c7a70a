-- Each instruction is paid by the way on which it is.
use Rattle.std.proofs.Common.{◌≡◌, ℕ, suc, ◌+◌, ◌*◌, ◌<◌, ◌≤◌, ◌&&◌, ◌||◌, Bool, true, false, List, [], ◌∷◌, length, Option, Some, None, nat_eq, nat_le, nat_lt, refl, inl, inr, arith, if◌then◌else◌}
use Rattle.std.specs.Prelude.{⊤}
use Rattle.std.specs.List.{list_any}
use Rattle.std.proofs.lemmas.Option.{none-some}
use Rattle.std.proofs.lemmas.Bool.Decides.{nat_tests}
use Rattle.dj_names.specs.declared.descriptor.Ty.{Ty}
use Rattle.dj_names.specs.declared.run.Value.{Value}
use Rattle.dj_names.specs.declared.run.Thresholds.{Thresholds}
use Rattle.dj_names.specs.trusted.Heaps.{Object, next_number, with_new}
use Rattle.dj_model.specs.trusted.Types.{Declared}
use Rattle.dj_model.specs.trusted.Instructions.{Instruction, Branch, Goto, Switch, Invoke, targets}
use Rattle.dj_model.specs.Instructions.{calls}
use Rattle.dj_model.specs.trusted.Program.{Program, Code, Range, code_of, is_initialiser}
use Rattle.dj_model.specs.trusted.State.{Frame, State, instruction_at, Part, Next, To, Raise, Back, Flow, Goes, Catch, Stop, Call, End}
use Rattle.dj_model.specs.trusted.Kinds.{Signature, Kinds}
use Rattle.dj_model.specs.trusted.Initialisation.{most_frames, new_frame}
use Rattle.dj_model.specs.trusted.Step.{StepAnswer, Went, Ended, IllFormed, catches, handler_in, handler_of, at_handler, unwound, throw_new, new_exception, new_stop, stop_from, throw_stop_or, at_number, resumed, returned, settle, with_part, frame_with}
use Rattle.dj_model.specs.Runs.{metered_terms, starts_handler}
use Rattle.dj_model.specs.Standing.{IsAmong, IsSoundFlow}
use Rattle.dj_model.proofs.Flows.{either_way}
use Rattle.dj_sim.proofs.Places.{either}
use Rattle.dj_bounds.specs.Acts.{way, code_length, AreShort, left_in, goes_elsewhere, is_pending, weight, spent, begun, arrived}

-- ---- handlers

pub handler_starts : (program : Program) (class : Ty) (number : ℕ) (ranges : List Range) (h : ℕ) → handler_in program [] class number ranges ≡ Some h
    → list_any (λ (range : Range). nat_eq h range.handler) ranges ≡ true
handler_starts program class number [] h e = absurd (none-some h e)
handler_starts program class number (range ∷ ranges) h e = go (nat_le range.start number && nat_lt number range.end && catches program [] class range.catches) e (λ rest. handler_starts program class number ranges h rest) where
  or_true : (b : Bool) → b || true ≡ true
  or_true true = refl
  or_true false = refl

  go : (b : Bool) → (if b then Some range.handler else handler_in program [] class number ranges) ≡ Some h
      → (handler_in program [] class number ranges ≡ Some h → list_any (λ (range : Range). nat_eq h range.handler) ranges ≡ true)
      → (nat_eq h range.handler || list_any (λ (range : Range). nat_eq h range.handler) ranges) ≡ true
  go true e more = let same : range.handler ≡ h = cc in let here : nat_eq h range.handler ≡ true = grind (arith, nat_tests, same) in rw here refl
  go false e more = rw (more e) (or_true (nat_eq h range.handler))

pub code_starts : (program : Program) (class : Ty) (number : ℕ) (code : Option Code) (h : ℕ) → handler_of program [] class number code ≡ Some h → starts_handler code h ≡ true
code_starts program class number None h e = absurd (none-some h e)
code_starts program class number (Some code) h e = handler_starts program class number code.ranges h e

-- ---- which instructions go elsewhere

pub targets_elsewhere : (i : Instruction) (n : ℕ) → IsAmong (targets i) n → goes_elsewhere (Some i) ≡ true
targets_elsewhere (Branch test target) n k = refl
targets_elsewhere (Goto target) n k = refl
targets_elsewhere (Switch pairs default) n k = refl
targets_elsewhere i n k = absurd k

pub calls_elsewhere : (i : Instruction) → calls i ≡ true → goes_elsewhere (Some i) ≡ true
calls_elsewhere (Invoke mode m) k = refl
calls_elsewhere i k = absurd (let no : false ≡ true = k in cc)

module _ (program : Program) (short : AreShort program) where
  -- the state after an instruction is paid by the state before
  abbrev pub Spends : ℕ → List Bool → StepAnswer → Type 0
  Spends before flags (Went t) = suc (spent program true t.frames) + way * begun program program flags ≤ before + way * (begun program program t.initialised + arrived program t.frames)
  Spends before flags (Ended outcome t) = ⊤
  Spends before flags IllFormed = ⊤

  -- at the next instruction
  next_pays : (x : Frame Declared) (below : List (Frame Declared)) → x.number < code_length (code_of program x.method)
      → suc (spent program true (at_number x (x.number + 1) ∷ below)) ≤ spent program true (x ∷ below)
  next_pays x below l = omega (arith, l)

  -- elsewhere in the code: a way is used up
  to_pays : (x : Frame Declared) (below : List (Frame Declared)) (n : ℕ) → is_pending program x ≡ true
      → suc (spent program true (at_number x n ∷ below)) ≤ spent program true (x ∷ below)
  to_pays x below n pending = rw pending omega (arith, short x.method)

  -- in another method: the way is the callee's
  call_pays : (x : Frame Declared) (below : List (Frame Declared)) (m : Declared) (arguments : List Value) → is_pending program x ≡ true → is_initialiser m ≡ false
      → suc (spent program true (new_frame program m arguments ∷ (x ∷ below))) ≤ spent program true (x ∷ below)
  call_pays x below m arguments pending plain = rw (pending, plain) omega (arith, short m)

  left_over : (a b c : ℕ) → 1 ≤ a → suc c ≤ a + b + c
  left_over a b c l = omega (arith, l)

  -- back in the caller, whose call is made
  return_pays : (x : Frame Declared) (result : Option Value) (caller : Frame Declared) (below : List (Frame Declared)) → x.number < code_length (code_of program x.method)
      → suc (spent program true (resumed x result caller ∷ below)) ≤ spent program true (x ∷ (caller ∷ below))
  return_pays x result caller below l = elim (either (is_initialiser x.method)) [
    | inl i ↦ rw i (left_over (left_in program x) (weight (is_pending program x)) (left_in program caller + weight (is_pending program caller) + spent program (is_initialiser caller.method) below) (omega (arith, l)))
    | inr i ↦ rw i omega (arith, l)
  ]

  -- at a handler: the way is the arrival's
  pub unwound_pays : (s : State) (class : Ty) (exception : ℕ) (frames : List (Frame Declared)) (ready : Bool) → Spends (spent program ready frames) s.initialised (unwound program [] s class exception frames)
  unfolding unwound
  unwound_pays s class exception [] ready = tt
  unwound_pays s class exception (x ∷ below) ready =
      by (handler_of program [] class x.number (code_of program x.method)) refl (unwound program [] s class exception below) (unwound_pays s class exception below (is_initialiser x.method)) where
        more : (n : ℕ) (a : StepAnswer) → Spends n s.initialised a → Spends (left_in program x + weight (ready && is_pending program x) + n) s.initialised a
        more n (Went t) p = omega (arith, p)
        more n (Ended outcome t) p = tt
        more n IllFormed p = tt

        by : (h : Option ℕ) → handler_of program [] class x.number (code_of program x.method) ≡ h → (a : StepAnswer) → Spends (spent program (is_initialiser x.method) below) s.initialised a
            → Spends (spent program ready (x ∷ below)) s.initialised (at_handler [] s class exception x below h a)
        by (Some h) e a p = rw (code_starts program class x.number (code_of program x.method) h e) omega (arith, short x.method)
        by None e a p = either_way (Spends (spent program ready (x ∷ below)) s.initialised) (is_initialiser x.method) _ _ tt (more (spent program (is_initialiser x.method) below) a p)

  -- ---- what follows an effect

  thrown_pays : (most : Thresholds) (s : State) (object : Object Ty) → Spends (spent program true s.frames) s.initialised (throw_new program [] (metered_terms most) s object)
  thrown_pays most s object = unwound_pays (record s { heap = with_new s.heap object }) _ (next_number s.heap) s.frames true

  stop_pays : (most : Thresholds) (s : State) (r : Option ℕ) → Spends (spent program true s.frames) s.initialised (throw_stop_or program [] (metered_terms most) s r)
  stop_pays most s None = thrown_pays most s new_stop
  stop_pays most s (Some r) = unwound_pays s _ r s.frames true

  returned_pays : (s : State) (x : Frame Declared) (result : Option Value) (below : List (Frame Declared)) → x.number < code_length (code_of program x.method)
      → Spends (spent program true (x ∷ below)) s.initialised (returned s x result below)
  returned_pays s x result [] l = tt
  returned_pays s x result (caller ∷ below) l = omega (arith, return_pays x result caller below l)

  pub settle_pays : (most : Thresholds) (s : State) (x : Frame Declared) (below : List (Frame Declared)) (signature : Signature) (code : Code) (i : Instruction) (before left : Kinds) (p : Part) (flow : Flow)
      → x.number < code_length (code_of program x.method) → x.paid ≡ true → instruction_at program x ≡ Some i → IsSoundFlow program signature code i before left p flow
      → Spends (spent program true (x ∷ below)) s.initialised (settle program [] (metered_terms most) (with_part s p) (frame_with x p) below flow)
  unfolding settle
  settle_pays most s x below signature code i before left p (Goes Next) l paid at sound = omega (arith, next_pays (frame_with x p) below l)
  settle_pays most s x below signature code i before left p (Goes (To n)) l paid at sound =
      let pending : is_pending program (frame_with x p) ≡ true = rw (paid, at) (targets_elsewhere i n sound.1) in
      omega (arith, to_pays (frame_with x p) below n pending)
  settle_pays most s x below signature code i before left p (Goes (Raise raised)) l paid at sound = thrown_pays most (record (with_part s p) { frames = frame_with x p ∷ below }) (new_exception [] raised)
  settle_pays most s x below signature code i before left p (Goes (Back result)) l paid at sound = returned_pays (with_part s p) (frame_with x p) result below l
  settle_pays most s x below signature code i before left p (Catch exception) l paid at sound = unwound_pays (record (with_part s p) { frames = frame_with x p ∷ below }) _ exception (frame_with x p ∷ below) true
  settle_pays most s x below signature code i before left p Stop l paid at sound = stop_pays most (record (with_part s p) { frames = frame_with x p ∷ below }) (stop_from [] 1 p.heap.objects)
  settle_pays most s x below signature code i before left p (Call m arguments) l paid at sound =
      let pending : is_pending program (frame_with x p) ≡ true = rw (paid, at) (calls_elsewhere i sound.calls) in
      either_way (Spends (spent program true (x ∷ below)) s.initialised) (nat_le most_frames (length (frame_with x p ∷ below))) _ _ tt
      (omega (arith, call_pays (frame_with x p) below m arguments pending sound.no_initialiser))
  settle_pays most s x below signature code i before left p (End outcome) l paid at sound = tt
