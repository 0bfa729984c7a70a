-- The shape of small codes, and where they have none (JVMS 4.10.1).
use Rattle.std.proofs.Common.{◌≡◌, ℕ, zero, suc, ◌<◌, ◌≤◌, true, false, pos, List, [], ◌∷◌, map, Option, Some, None, slice_get, codes, refl, sym, ◌∙◌, subst, ◌⊎◌, inl, inr, eq-or-lt_of_le, le_of_suc-le-suc, IsTrue, IsFalse, Contains, length, arith}
use Rattle.dj_names.specs.declared.descriptor.Kind.{Kind}
use Rattle.dj_names.specs.declared.descriptor.Kind.TheVariants as kinds
use Rattle.dj_names.specs.declared.run.Value.TheVariants as values
use Rattle.dj_straight.specs.trusted.Program.{Code, Range}
use Rattle.dj_straight.specs.trusted.Instructions.{Instruction, Nop, Push, Load, Store, Move, Return, Pop, ends}
use Rattle.dj_straight.specs.trusted.StackMaps.{Integer, Long, Null, FrameForm, Same, Stack1, Chop, Append, Full}
use Rattle.dj_straight.specs.trusted.FrameKinds.{Signature, Kinds, Placed, Frames, Read, Faulty, frames_after, frames_of, placed_at}
use Rattle.dj_straight.specs.trusted.Shape.{ParametersFit, first_kinds, after, LocalsFlow, FlowsTo, StateBefore, IsHandlerFrame, LocalsFlowTo, Holds, IsFrameOrFault, IsNumberedFault, IsShapeFault}
use Rattle.dj_straight.specs.Shape.{AllHold, HasShape}
use Rattle.dj_straight.proofs.Shapes.{one_state, one_number, no_fault_with_shape}
use Rattle.dj_straight.proofs.FrameFacts.{code_with, any_object, kinds_of, at, placed, reference_in}

-- ---- instructions that hold, and that don't

-- the kinds before an instruction, the instruction, and what it leaves
record Reported (signature : Signature) (code : Code) (placed : List Placed) (number : ℕ) (k : Kinds) (i : Instruction) (left : Kinds) : Type 0 where
  state : StateBefore signature code placed number k
  at : slice_get code.instructions number ≡ Some i
  found : after signature code i k ≡ Some left

-- handlers that ask nothing of an instruction
record Handled (code : Code) (placed : List Placed) (number : ℕ) (k : Kinds) : Type 0 where
  handles : (range : Range) → Contains code.ranges range → number ≡ range.handler → IsHandlerFrame (placed_at placed number)
  handled : (range : Range) → Contains code.ranges range → range.start ≤ number → number < range.end → LocalsFlowTo k (placed_at placed range.handler)

no_range : {A : Type 0} (code : Code) → code.ranges ≡ [] → (range : Range) → Contains code.ranges range → A
no_range code none range contains =
    let below : contains.0 < length code.ranges = contains.1 in
    let at_none : contains.0 < 0 = rw none at below in
    absurd (omega arith)

no_ranges : (code : Code) (placed : List Placed) (number : ℕ) (k : Kinds) → code.ranges ≡ [] → Handled code placed number k
no_ranges code placed number k none =
    record { handles = λ range contains e. no_range code none range contains; handled = λ range contains low high. no_range code none range contains }

the_only : (r range : Range) → Contains (r ∷ []) range → r ≡ range
the_only r range (zero, below, same) = same
the_only r range (suc k, below, same) = absurd (omega arith)

one_range : (code : Code) (placed : List Placed) (number : ℕ) (k : Kinds) (r : Range) → code.ranges ≡ r ∷ []
    → (number ≡ r.handler → IsHandlerFrame (placed_at placed number))
    → (r.start ≤ number → number < r.end → LocalsFlowTo k (placed_at placed r.handler)) → Handled code placed number k
one_range code placed number k r is handles handled = record {
  handles = λ range contains. subst (λ (other : Range). number ≡ other.handler → IsHandlerFrame (placed_at placed number)) (the_only r range (rw is at contains)) handles;
  handled = λ range contains.
      subst (λ (other : Range). other.start ≤ number → number < other.end → LocalsFlowTo k (placed_at placed other.handler)) (the_only r range (rw is at contains)) handled;
}

module _ (signature : Signature) (code : Code) (placed : List Placed) where
  abbrev FirstFlows : Type 0
  FirstFlows = FlowsTo (first_kinds signature code) (placed_at placed 0)

  -- an instruction that isn't the last
  goes_on_with : (number : ℕ) (k : Kinds) (i : Instruction) (left : Kinds) → Reported signature code placed number k i left → Handled code placed number k
      → FirstFlows → suc number < length code.instructions → FlowsTo left (placed_at placed (suc number)) → Holds signature code placed number
  goes_on_with number k i left t handled first more flows = record {
    before = k;
    left = left;
    instruction = i;
    state = t.state;
    at = t.at;
    found = t.found;
    last = λ e. absurd (omega arith);
    begins = λ e. first;
    goes_on = λ e. flows;
    jumps = tt;
    handles = handled.handles;
    handled = handled.handled;
  }

  -- an instruction after which the run doesn't go on
  ended_with : (number : ℕ) (k : Kinds) (i : Instruction) (left : Kinds) → Reported signature code placed number k i left → Handled code placed number k
      → FirstFlows → IsTrue (ends i) → Holds signature code placed number
  ended_with number k i left t handled first ended = record {
    before = k;
    left = left;
    instruction = i;
    state = t.state;
    at = t.at;
    found = t.found;
    last = λ e. ended;
    begins = λ e. first;
    goes_on = λ e. let both : true ≡ false = sym ended ∙ e in absurd cc;
    jumps = tt;
    handles = handled.handles;
    handled = handled.handled;
  }

  -- what is known of an instruction that holds
  are : (number : ℕ) (k : Kinds) (i : Instruction) (left : Kinds) → Reported signature code placed number k i left → (h : Holds signature code placed number)
      → (h.before ≡ k) × (h.instruction ≡ i) × (h.left ≡ left)
  are number k i left t h =
      let before : h.before ≡ k = one_state signature code placed number h.before k h.state t.state in
      let instructions : Some h.instruction ≡ Some i = sym h.at ∙ t.at in
      let instruction : h.instruction ≡ i = cc in
      let same : after signature code h.instruction h.before ≡ after signature code i k = rw (before, instruction) refl in
      let lefts : Some h.left ≡ Some left = sym h.found ∙ (same ∙ t.found) in
      (before, instruction, cc)

  -- it doesn't find what it takes, or what it gives doesn't fit
  stuck : (number : ℕ) (k : Kinds) (i : Instruction) → StateBefore signature code placed number k → slice_get code.instructions number ≡ Some i
      → after signature code i k ≡ None → Holds signature code placed number → ⊥
  stuck number k i state at none h =
      let before : h.before ≡ k = one_state signature code placed number h.before k h.state state in
      let instructions : Some h.instruction ≡ Some i = sym h.at ∙ at in
      let instruction : h.instruction ≡ i = cc in
      let same : after signature code h.instruction h.before ≡ after signature code i k = rw (before, instruction) refl in
      let both : Some h.left ≡ None = sym h.found ∙ (same ∙ none) in
      absurd cc

  -- what it leaves doesn't flow into the frame after it
  refused : (number : ℕ) (k : Kinds) (i : Instruction) (left : Kinds) → Reported signature code placed number k i left → IsFalse (ends i)
      → (FlowsTo left (placed_at placed (suc number)) → ⊥) → Holds signature code placed number → ⊥
  refused number k i left t goes_on refuse h =
      let known = are number k i left t h in
      let same : ends h.instruction ≡ false = rw known.1 goes_on in
      refuse (subst (λ (k : Kinds). FlowsTo k (placed_at placed (suc number))) known.2 (h.goes_on same))

  -- it has no frame, and the run doesn't come there
  unreached : (number : ℕ) (i : Instruction) → slice_get code.instructions number ≡ Some i → IsTrue (ends i)
      → placed_at placed (suc number) ≡ None → Holds signature code placed (suc number) → ⊥
  unreached number i at ended none h =
      let state = rw none at h.state in
      let instructions : Some state.1 ≡ Some i = sym state.3 ∙ at in
      let instruction : state.1 ≡ i = cc in
      let same : ends state.1 ≡ true = rw instruction ended in
      let both : true ≡ false = sym same ∙ state.4 in
      absurd cc

  -- it is the last, and the run goes on
  goes_past : (number : ℕ) (i : Instruction) → slice_get code.instructions number ≡ Some i → IsFalse (ends i) → suc number ≡ length code.instructions
      → Holds signature code placed number → ⊥
  goes_past number i at goes_on end h =
      let instructions : Some h.instruction ≡ Some i = sym h.at ∙ at in
      let instruction : h.instruction ≡ i = cc in
      let same : ends h.instruction ≡ false = rw instruction goes_on in
      let both : true ≡ false = sym (h.last end) ∙ same in
      absurd cc

  -- a handler begins there, without its frame
  no_handler : (r : Range) → Contains code.ranges r → (IsHandlerFrame (placed_at placed r.handler) → ⊥) → Holds signature code placed r.handler → ⊥
  no_handler r contains refuse h = refuse (h.handles r contains refl)

  -- it stands in the range of a handler that it has not the local variables of
  not_handled : (number : ℕ) (k : Kinds) (i : Instruction) (left : Kinds) → Reported signature code placed number k i left → (r : Range) → Contains code.ranges r
      → r.start ≤ number → number < r.end → (LocalsFlowTo k (placed_at placed r.handler) → ⊥) → Holds signature code placed number → ⊥
  not_handled number k i left t r contains low high refuse h =
      refuse (subst (λ (k : Kinds). LocalsFlowTo k (placed_at placed r.handler)) (are number k i left t h).0 (h.handled r contains low high))

  -- the parameters don't flow into the first frame
  not_begun : (FirstFlows → ⊥) → Holds signature code placed 0 → ⊥
  not_begun refuse h = refuse (h.begins refl)

  has_shape : ParametersFit signature code → frames_of signature code ≡ Read placed
      → ((number : ℕ) → number < length code.instructions → Holds signature code placed number) → HasShape signature code
  has_shape fit read each = record { parameters = fit; each = subst (AllHold signature code) (sym read) each }

  fault_at : (number : ℕ) → ParametersFit signature code → frames_of signature code ≡ Read placed → number < length code.instructions
      → ((other : ℕ) → other < number → Holds signature code placed other) → (Holds signature code placed number → ⊥) → IsNumberedFault signature code number
  fault_at number fit read within before fault =
      inr (fit, subst (λ (frames : Frames). IsFrameOrFault signature code frames number) (sym read) (record { within = within; before = before; fault = fault }))

faulty_frame : (signature : Signature) (code : Code) (number : ℕ) → ParametersFit signature code → frames_of signature code ≡ Faulty number → IsNumberedFault signature code number
faulty_frame signature code number fit read = inr (fit, subst (λ (frames : Frames). IsFrameOrFault signature code frames number) (sym read) refl)

no_fault_but : (signature : Signature) (code : Code) (a b : ℕ) → IsNumberedFault signature code a → (a ≡ b → ⊥) → IsNumberedFault signature code b → ⊥
no_fault_but signature code a b fault other h = other (one_number signature code a b fault h)

-- ---- the first n

one_more : (P : ℕ → Type 0) (n : ℕ) → ((number : ℕ) → number < n → P number) → P n → (number : ℕ) → number < suc n → P number
one_more P n before at number below = elim (le_or number n below) [
  | inl less ↦ before number less
  | inr same ↦ subst P (sym same) at
] where
  le_or : (number n : ℕ) → number < suc n → (number < n) ⊎ (number ≡ n)
  le_or number n below = elim (eq-or-lt_of_le (le_of_suc-le-suc below)) [
    | inl same ↦ inr same
    | inr less ↦ inl less
  ]

-- ---- worked codes: a reference comes in, and nothing is returned

abbrev alone : List (Option Kind)
alone = Some kinds.Ref ∷ None ∷ None ∷ []

abbrev with_int : List (Option Kind)
with_int = Some kinds.Ref ∷ Some kinds.Int ∷ None ∷ []

abbrev push_int : Instruction
push_int = Push (values.Int (pos 5))

abbrev push_null : Instruction
push_null = Push (values.Ref 0)

abbrev Says : Code → List Placed → ℕ → Kinds → Instruction → Kinds → Type 0
Says code p number k i left = Reported reference_in code p number k i left

-- the instruction after it, where that has no frame
then_reported : {code : Code} {p : List Placed} {number : ℕ} {k left after_it : Kinds} {i j : Instruction} → Says code p number k i left → IsFalse (ends i)
    → placed_at p (suc number) ≡ None → slice_get code.instructions (suc number) ≡ Some j → after reference_in code j left ≡ Some after_it
    → Says code p (suc number) left j after_it
then_reported t goes_on none at found = record { state = rw none (_, _, t.state, t.at, goes_on, t.found); at = at; found = found }

module _ (code : Code) (p : List Placed) where
  abbrev At : ℕ → Type 0
  At number = Holds reference_in code p number

  -- an instruction that isn't the last
  next : (number : ℕ) (k : Kinds) (i : Instruction) (left : Kinds) → Reported reference_in code p number k i left → code.ranges ≡ []
      → FlowsTo (first_kinds reference_in code) (placed_at p 0) → suc number < length code.instructions → FlowsTo left (placed_at p (suc number)) → At number
  next number k i left t none first more flows = goes_on_with reference_in code p number k i left t (no_ranges code p number k none) first more flows

  -- a return
  end : (number : ℕ) (k left : Kinds) → Reported reference_in code p number k (Return None) left → code.ranges ≡ []
      → FlowsTo (first_kinds reference_in code) (placed_at p 0) → At number
  end number k left t none first = ended_with reference_in code p number k (Return None) left t (no_ranges code p number k none) first refl

  -- the first n
  none_yet : (number : ℕ) → number < 0 → At number
  none_yet number below = absurd (omega arith)

  first_1 : At 0 → (number : ℕ) → number < 1 → At number
  first_1 h0 = one_more At 0 none_yet h0

  first_2 : At 0 → At 1 → (number : ℕ) → number < 2 → At number
  first_2 h0 h1 = one_more At 1 (first_1 h0) h1

  first_3 : At 0 → At 1 → At 2 → (number : ℕ) → number < 3 → At number
  first_3 h0 h1 h2 = one_more At 2 (first_2 h0 h1) h2

  first_4 : At 0 → At 1 → At 2 → At 3 → (number : ℕ) → number < 4 → At number
  first_4 h0 h1 h2 h3 = one_more At 3 (first_3 h0 h1 h2) h3

  first_5 : At 0 → At 1 → At 2 → At 3 → At 4 → (number : ℕ) → number < 5 → At number
  first_5 h0 h1 h2 h3 h4 = one_more At 4 (first_4 h0 h1 h2 h3) h4

  first_7 : At 0 → At 1 → At 2 → At 3 → At 4 → At 5 → At 6 → (number : ℕ) → number < 7 → At number
  first_7 h0 h1 h2 h3 h4 h5 h6 = one_more At 6 (one_more At 5 (first_5 h0 h1 h2 h3 h4) h5) h6

-- a frame that agrees: an int is stored, and the frame declares it

abbrev agrees : Code
agrees = code_with (push_int ∷ Store kinds.Int 1 ∷ Nop ∷ Load kinds.Int 1 ∷ Return None ∷ []) [] (at 2 (Append (Integer ∷ [])) ∷ [])

abbrev at_two : List Placed
at_two = placed 2 with_int [] ∷ []

abbrev Agrees : ℕ → Kinds → Instruction → Kinds → Type 0
Agrees number k i left = Reported reference_in agrees at_two number k i left

agrees_0 : Agrees 0 (kinds_of alone []) push_int (kinds_of alone (kinds.Int ∷ []))
unfolding after
agrees_0 = record { state = refl; at = refl; found = refl }

agrees_1 : Agrees 1 (kinds_of alone (kinds.Int ∷ [])) (Store kinds.Int 1) (kinds_of with_int [])
unfolding after
agrees_1 = record { state = (_, _, agrees_0.state, agrees_0.at, refl, agrees_0.found); at = refl; found = refl }

agrees_2 : Agrees 2 (kinds_of with_int []) Nop (kinds_of with_int [])
unfolding after
agrees_2 = record { state = refl; at = refl; found = refl }

agrees_3 : Agrees 3 (kinds_of with_int []) (Load kinds.Int 1) (kinds_of with_int (kinds.Int ∷ []))
unfolding after
agrees_3 = record { state = (_, _, agrees_2.state, agrees_2.at, refl, agrees_2.found); at = refl; found = refl }

agrees_4 : Agrees 4 (kinds_of with_int (kinds.Int ∷ [])) (Return None) (kinds_of with_int (kinds.Int ∷ []))
unfolding after
agrees_4 = record { state = (_, _, agrees_3.state, agrees_3.at, refl, agrees_3.found); at = refl; found = refl }

agrees_read : frames_of reference_in agrees ≡ Read at_two
unfolding frames_after
agrees_read = refl

agrees_shape : HasShape reference_in agrees
agrees_shape = has_shape reference_in agrees at_two (omega arith) agrees_read (first_5 agrees at_two
    (next agrees at_two 0 _ _ _ agrees_0 refl tt (omega arith) tt)
    (next agrees at_two 1 _ _ _ agrees_1 refl tt (omega arith) ((refl, (refl, tt)), refl))
    (next agrees at_two 2 _ _ _ agrees_2 refl tt (omega arith) tt)
    (next agrees at_two 3 _ _ _ agrees_3 refl tt (omega arith) tt)
    (end agrees at_two 4 _ _ agrees_4 refl tt))

-- ---- flows into a frame

-- an operand isn't there at the frame
abbrev operand_left : Code
operand_left = code_with (push_int ∷ Nop ∷ Return None ∷ []) [] (at 2 Same ∷ [])

operand_left_fault : IsNumberedFault reference_in operand_left 1
unfolding after frames_after
operand_left_fault =
    let p : List Placed = placed 2 alone [] ∷ [] in
    let t0 : Says operand_left p 0 (kinds_of alone []) push_int (kinds_of alone (kinds.Int ∷ [])) = record { state = refl; at = refl; found = refl } in
    let t1 : Says operand_left p 1 (kinds_of alone (kinds.Int ∷ [])) Nop (kinds_of alone (kinds.Int ∷ [])) = then_reported t0 refl refl refl refl in
    fault_at reference_in operand_left p 1 (omega arith) refl (omega arith) (first_1 operand_left p (next operand_left p 0 _ _ _ t0 refl tt (omega arith) tt))
    (refused reference_in operand_left p 1 _ _ _ t1 refl (λ h. let e : kinds.Int ∷ [] ≡ [] = h.1 in absurd cc))

-- and where it is
abbrev operand_reported : Code
operand_reported = code_with (push_int ∷ Nop ∷ Return None ∷ []) [] (at 2 (Stack1 Integer) ∷ [])

operand_reported_shape : HasShape reference_in operand_reported
unfolding after frames_after
operand_reported_shape =
    let p : List Placed = placed 2 alone (kinds.Int ∷ []) ∷ [] in
    let t0 : Says operand_reported p 0 (kinds_of alone []) push_int (kinds_of alone (kinds.Int ∷ [])) = record { state = refl; at = refl; found = refl } in
    let t1 : Says operand_reported p 1 (kinds_of alone (kinds.Int ∷ [])) Nop (kinds_of alone (kinds.Int ∷ [])) = then_reported t0 refl refl refl refl in
    let t2 : Says operand_reported p 2 (kinds_of alone (kinds.Int ∷ [])) (Return None) (kinds_of alone (kinds.Int ∷ [])) = record { state = refl; at = refl; found = refl } in
    has_shape reference_in operand_reported p (omega arith) refl (first_3 operand_reported p
    (next operand_reported p 0 _ _ _ t0 refl tt (omega arith) tt)
    (next operand_reported p 1 _ _ _ t1 refl tt (omega arith) ((refl, tt), refl))
    (end operand_reported p 2 _ _ t2 refl tt))

-- and where it is of another kind
abbrev operand_other : Code
operand_other = code_with (push_int ∷ Nop ∷ Return None ∷ []) [] (at 2 (Stack1 Null) ∷ [])

operand_other_fault : IsNumberedFault reference_in operand_other 1
unfolding after frames_after
operand_other_fault =
    let p : List Placed = placed 2 alone (kinds.Ref ∷ []) ∷ [] in
    let t0 : Says operand_other p 0 (kinds_of alone []) push_int (kinds_of alone (kinds.Int ∷ [])) = record { state = refl; at = refl; found = refl } in
    let t1 : Says operand_other p 1 (kinds_of alone (kinds.Int ∷ [])) Nop (kinds_of alone (kinds.Int ∷ [])) = then_reported t0 refl refl refl refl in
    fault_at reference_in operand_other p 1 (omega arith) refl (omega arith) (first_1 operand_other p (next operand_other p 0 _ _ _ t0 refl tt (omega arith) tt))
    (refused reference_in operand_other p 1 _ _ _ t1 refl (λ h. let e : kinds.Int ∷ [] ≡ kinds.Ref ∷ [] = h.1 in absurd cc))

-- two operands, of which the frame declares the bottom first
abbrev operands_turned : Code
operands_turned = code_with (push_int ∷ push_null ∷ Return None ∷ []) [] (at 2 (Full (Null ∷ []) (Integer ∷ Null ∷ [])) ∷ [])

operands_turned_shape : HasShape reference_in operands_turned
unfolding after frames_after
operands_turned_shape =
    let p : List Placed = placed 2 alone (kinds.Ref ∷ kinds.Int ∷ []) ∷ [] in
    let t0 : Says operands_turned p 0 (kinds_of alone []) push_int (kinds_of alone (kinds.Int ∷ [])) = record { state = refl; at = refl; found = refl } in
    let t1 : Says operands_turned p 1 (kinds_of alone (kinds.Int ∷ [])) push_null (kinds_of alone (kinds.Ref ∷ kinds.Int ∷ [])) = then_reported t0 refl refl refl refl in
    let t2 : Says operands_turned p 2 (kinds_of alone (kinds.Ref ∷ kinds.Int ∷ [])) (Return None) (kinds_of alone (kinds.Ref ∷ kinds.Int ∷ [])) = record { state = refl; at = refl; found = refl } in
    has_shape reference_in operands_turned p (omega arith) refl (first_3 operands_turned p
    (next operands_turned p 0 _ _ _ t0 refl tt (omega arith) tt)
    (next operands_turned p 1 _ _ _ t1 refl tt (omega arith) ((refl, tt), refl))
    (end operands_turned p 2 _ _ t2 refl tt))

-- the frame declares a local variable that has no value
abbrev local_lacks : Code
local_lacks = code_with (push_int ∷ Move Pop ∷ Return None ∷ []) [] (at 2 (Append (Integer ∷ [])) ∷ [])

local_lacks_fault : IsNumberedFault reference_in local_lacks 1
unfolding after frames_after
local_lacks_fault =
    let p : List Placed = placed 2 with_int [] ∷ [] in
    let t0 : Says local_lacks p 0 (kinds_of alone []) push_int (kinds_of alone (kinds.Int ∷ [])) = record { state = refl; at = refl; found = refl } in
    let t1 : Says local_lacks p 1 (kinds_of alone (kinds.Int ∷ [])) (Move Pop) (kinds_of alone []) = then_reported t0 refl refl refl refl in
    fault_at reference_in local_lacks p 1 (omega arith) refl (omega arith) (first_1 local_lacks p (next local_lacks p 0 _ _ _ t0 refl tt (omega arith) tt))
    (refused reference_in local_lacks p 1 _ _ _ t1 refl (λ h. let e : None ≡ Some kinds.Int = h.0.1.0 in absurd cc))

-- and one that has another kind
abbrev local_other : Code
local_other = code_with (push_null ∷ Store kinds.Ref 1 ∷ Return None ∷ []) [] (at 2 (Append (Integer ∷ [])) ∷ [])

local_other_fault : IsNumberedFault reference_in local_other 1
unfolding after frames_after
local_other_fault =
    let p : List Placed = placed 2 with_int [] ∷ [] in
    let t0 : Says local_other p 0 (kinds_of alone []) push_null (kinds_of alone (kinds.Ref ∷ [])) = record { state = refl; at = refl; found = refl } in
    let t1 : Says local_other p 1 (kinds_of alone (kinds.Ref ∷ [])) (Store kinds.Ref 1) (kinds_of (Some kinds.Ref ∷ Some kinds.Ref ∷ None ∷ []) []) = then_reported t0 refl refl refl refl in
    fault_at reference_in local_other p 1 (omega arith) refl (omega arith) (first_1 local_other p (next local_other p 0 _ _ _ t0 refl tt (omega arith) tt))
    (refused reference_in local_other p 1 _ _ _ t1 refl (λ h. let e : Some kinds.Ref ≡ Some kinds.Int = h.0.1.0 in absurd cc))

-- the frame declares less
abbrev forgets : Code
forgets = code_with (push_int ∷ Store kinds.Int 1 ∷ Nop ∷ Return None ∷ []) [] (at 2 Same ∷ [])

forgets_shape : HasShape reference_in forgets
unfolding after frames_after
forgets_shape =
    let p : List Placed = placed 2 alone [] ∷ [] in
    let t0 : Says forgets p 0 (kinds_of alone []) push_int (kinds_of alone (kinds.Int ∷ [])) = record { state = refl; at = refl; found = refl } in
    let t1 : Says forgets p 1 (kinds_of alone (kinds.Int ∷ [])) (Store kinds.Int 1) (kinds_of with_int []) = then_reported t0 refl refl refl refl in
    let t2 : Says forgets p 2 (kinds_of alone []) Nop (kinds_of alone []) = record { state = refl; at = refl; found = refl } in
    let t3 : Says forgets p 3 (kinds_of alone []) (Return None) (kinds_of alone []) = then_reported t2 refl refl refl refl in
    has_shape reference_in forgets p (omega arith) refl (first_4 forgets p
    (next forgets p 0 _ _ _ t0 refl tt (omega arith) tt)
    (next forgets p 1 _ _ _ t1 refl tt (omega arith) ((refl, tt), refl))
    (next forgets p 2 _ _ _ t2 refl tt (omega arith) tt)
    (end forgets p 3 _ _ t3 refl tt))

-- what it doesn't declare isn't found after it
abbrev forgotten : Code
forgotten = code_with (push_int ∷ Store kinds.Int 1 ∷ Nop ∷ Load kinds.Int 1 ∷ Return None ∷ []) [] (at 2 Same ∷ [])

forgotten_fault : IsNumberedFault reference_in forgotten 3
unfolding after frames_after
forgotten_fault =
    let p : List Placed = placed 2 alone [] ∷ [] in
    let t0 : Says forgotten p 0 (kinds_of alone []) push_int (kinds_of alone (kinds.Int ∷ [])) = record { state = refl; at = refl; found = refl } in
    let t1 : Says forgotten p 1 (kinds_of alone (kinds.Int ∷ [])) (Store kinds.Int 1) (kinds_of with_int []) = then_reported t0 refl refl refl refl in
    let t2 : Says forgotten p 2 (kinds_of alone []) Nop (kinds_of alone []) = record { state = refl; at = refl; found = refl } in
    fault_at reference_in forgotten p 3 (omega arith) refl (omega arith) (first_3 forgotten p
    (next forgotten p 0 _ _ _ t0 refl tt (omega arith) tt)
    (next forgotten p 1 _ _ _ t1 refl tt (omega arith) ((refl, tt), refl))
    (next forgotten p 2 _ _ _ t2 refl tt (omega arith) tt))
    (stuck reference_in forgotten p 3 (kinds_of alone []) (Load kinds.Int 1) (_, _, t2.state, t2.at, refl, t2.found) refl refl)

-- ---- after a return

-- with a frame, into which nothing flows
abbrev framed : Code
framed = code_with (Return None ∷ Return None ∷ []) [] (at 1 (Full (Integer ∷ Integer ∷ []) (Long ∷ [])) ∷ [])

framed_shape : HasShape reference_in framed
unfolding after frames_after
framed_shape =
    let p : List Placed = placed 1 (Some kinds.Int ∷ Some kinds.Int ∷ None ∷ []) (kinds.Long ∷ []) ∷ [] in
    let t0 : Says framed p 0 (kinds_of alone []) (Return None) (kinds_of alone []) = record { state = refl; at = refl; found = refl } in
    let t1 : Says framed p 1 (kinds_of (Some kinds.Int ∷ Some kinds.Int ∷ None ∷ []) (kinds.Long ∷ [])) (Return None) (kinds_of (Some kinds.Int ∷ Some kinds.Int ∷ None ∷ []) (kinds.Long ∷ [])) = record { state = refl; at = refl; found = refl } in
    has_shape reference_in framed p (omega arith) refl (first_2 framed p
    (end framed p 0 _ _ t0 refl tt)
    (end framed p 1 _ _ t1 refl tt))

-- without one
abbrev unframed : Code
unframed = code_with (Return None ∷ Return None ∷ []) [] []

unframed_fault : IsNumberedFault reference_in unframed 1
unfolding after frames_after
unframed_fault =
    let p : List Placed = [] in
    let t0 : Says unframed p 0 (kinds_of alone []) (Return None) (kinds_of alone []) = record { state = refl; at = refl; found = refl } in
    fault_at reference_in unframed p 1 (omega arith) refl (omega arith) (first_1 unframed p (end unframed p 0 _ _ t0 refl tt))
    (unreached reference_in unframed p 0 (Return None) refl refl refl)

-- ---- a frame of the first instruction

-- the parameters flow into it
abbrev begins_less : Code
begins_less = code_with (Return None ∷ []) [] (at 0 (Chop 1) ∷ [])

begins_less_shape : HasShape reference_in begins_less
unfolding after frames_after
begins_less_shape =
    let p : List Placed = placed 0 (None ∷ None ∷ None ∷ []) [] ∷ [] in
    let t0 : Says begins_less p 0 (kinds_of (None ∷ None ∷ None ∷ []) []) (Return None) (kinds_of (None ∷ None ∷ None ∷ []) []) = record { state = refl; at = refl; found = refl } in
    has_shape reference_in begins_less p (omega arith) refl (first_1 begins_less p (end begins_less p 0 _ _ t0 refl (tt, refl)))

-- it decides what is there
abbrev begins_forgets : Code
begins_forgets = code_with (Load kinds.Ref 0 ∷ Return None ∷ []) [] (at 0 (Chop 1) ∷ [])

begins_forgets_fault : IsNumberedFault reference_in begins_forgets 0
unfolding after frames_after
begins_forgets_fault =
    let p : List Placed = placed 0 (None ∷ None ∷ None ∷ []) [] ∷ [] in
    fault_at reference_in begins_forgets p 0 (omega arith) refl (omega arith) (none_yet begins_forgets p)
    (stuck reference_in begins_forgets p 0 (kinds_of (None ∷ None ∷ None ∷ []) []) (Load kinds.Ref 0) refl refl refl)

-- they don't: it declares another local variable
abbrev begins_more : Code
begins_more = code_with (Return None ∷ []) [] (at 0 (Append (Integer ∷ [])) ∷ [])

begins_more_fault : IsNumberedFault reference_in begins_more 0
unfolding after frames_after
begins_more_fault =
    let p : List Placed = placed 0 with_int [] ∷ [] in
    fault_at reference_in begins_more p 0 (omega arith) refl (omega arith) (none_yet begins_more p)
    (not_begun reference_in begins_more p (λ h. let e : None ≡ Some kinds.Int = h.0.1.0 in absurd cc))

-- and an operand
abbrev begins_operand : Code
begins_operand = code_with (Return None ∷ []) [] (at 0 (Stack1 Integer) ∷ [])

begins_operand_fault : IsNumberedFault reference_in begins_operand 0
unfolding after frames_after
begins_operand_fault =
    let p : List Placed = placed 0 alone (kinds.Int ∷ []) ∷ [] in
    fault_at reference_in begins_operand p 0 (omega arith) refl (omega arith) (none_yet begins_operand p)
    (not_begun reference_in begins_operand p (λ h. let e : [] ≡ kinds.Int ∷ [] = h.1 in absurd cc))

-- ---- the last instruction, and the first that doesn't hold

-- the run goes past the end
abbrev no_end : Code
no_end = code_with (push_int ∷ Nop ∷ []) [] []

no_end_fault : IsNumberedFault reference_in no_end 1
unfolding after frames_after
no_end_fault =
    let p : List Placed = [] in
    let t0 : Says no_end p 0 (kinds_of alone []) push_int (kinds_of alone (kinds.Int ∷ [])) = record { state = refl; at = refl; found = refl } in
    fault_at reference_in no_end p 1 (omega arith) refl (omega arith) (first_1 no_end p (next no_end p 0 _ _ _ t0 refl tt (omega arith) tt))
    (goes_past reference_in no_end p 1 Nop refl refl refl)

-- two don't find what they take
abbrev two_stuck : Code
two_stuck = code_with (Nop ∷ Load kinds.Int 1 ∷ Load kinds.Int 1 ∷ Return None ∷ []) [] []

two_stuck_fault : IsNumberedFault reference_in two_stuck 1
unfolding after frames_after
two_stuck_fault =
    let p : List Placed = [] in
    let t0 : Says two_stuck p 0 (kinds_of alone []) Nop (kinds_of alone []) = record { state = refl; at = refl; found = refl } in
    fault_at reference_in two_stuck p 1 (omega arith) refl (omega arith) (first_1 two_stuck p (next two_stuck p 0 _ _ _ t0 refl tt (omega arith) tt))
    (stuck reference_in two_stuck p 1 (kinds_of alone []) (Load kinds.Int 1) (_, _, t0.state, t0.at, refl, t0.found) refl refl)

not_the_second : IsNumberedFault reference_in two_stuck 2 → ⊥
not_the_second h = no_fault_but reference_in two_stuck 1 2 two_stuck_fault (λ e. omega arith) h

not_shaped : HasShape reference_in two_stuck → ⊥
not_shaped h = no_fault_with_shape reference_in two_stuck (Some 1) h (refl, two_stuck_fault)

-- ---- frames and parameters come first

-- the frame at the fourth has no kinds, and the second instruction doesn't find what it takes
abbrev faulty : Code
faulty = code_with (Nop ∷ Load kinds.Int 1 ∷ Nop ∷ Return None ∷ []) [] (at 3 (Chop 2) ∷ [])

faulty_fault : IsNumberedFault reference_in faulty 3
unfolding frames_after
faulty_fault = faulty_frame reference_in faulty 3 (omega arith) refl

not_the_stuck : IsNumberedFault reference_in faulty 1 → ⊥
not_the_stuck h = no_fault_but reference_in faulty 3 1 faulty_fault (λ e. omega arith) h

faulty_no_shape : HasShape reference_in faulty → ⊥
faulty_no_shape h = no_fault_with_shape reference_in faulty (Some 3) h (refl, faulty_fault)

-- four slots in three
abbrev four_slots : Signature
four_slots = record { parameters = kinds.Long ∷ kinds.Int ∷ kinds.Int ∷ []; result = None }

unfit : IsNumberedFault four_slots (code_with (Return None ∷ []) [] []) 0
unfit = inl ((λ fit. omega arith), refl)

unfit_and_faulty : IsNumberedFault four_slots faulty 0
unfit_and_faulty = inl ((λ fit. omega arith), refl)

unfit_not_faulty : IsNumberedFault four_slots faulty 3 → ⊥
unfit_not_faulty h = no_fault_but four_slots faulty 0 3 unfit_and_faulty (λ e. omega arith) h

unfit_no_shape : HasShape four_slots (code_with (Return None ∷ []) [] []) → ⊥
unfit_no_shape h = no_fault_with_shape four_slots (code_with (Return None ∷ []) [] []) (Some 0) h (refl, unfit)

-- three in three
abbrev three_slots : Signature
three_slots = record { parameters = kinds.Long ∷ kinds.Int ∷ []; result = Some kinds.Long }

abbrev returns_first : Code
returns_first = code_with (Load kinds.Long 0 ∷ Return (Some kinds.Long) ∷ []) [] []

fit_shape : HasShape three_slots returns_first
unfolding after frames_after
fit_shape =
    let p : List Placed = [] in
    let locals : List (Option Kind) = Some kinds.Long ∷ None ∷ Some kinds.Int ∷ [] in
    let t0 : Reported three_slots returns_first p 0 (kinds_of locals []) (Load kinds.Long 0) (kinds_of locals (kinds.Long ∷ [])) =
    record { state = refl; at = refl; found = refl } in
    let t1 : Reported three_slots returns_first p 1 (kinds_of locals (kinds.Long ∷ [])) (Return (Some kinds.Long)) (kinds_of locals []) =
    record { state = (_, _, t0.state, t0.at, refl, t0.found); at = refl; found = refl } in
    let h0 = goes_on_with three_slots returns_first p 0 _ _ _ t0 (no_ranges returns_first p 0 _ refl) tt (omega arith) tt in
    let h1 = ended_with three_slots returns_first p 1 _ _ _ t1 (no_ranges returns_first p 1 _ refl) tt refl in
    has_shape three_slots returns_first p (omega arith) refl
    (one_more (Holds three_slots returns_first p) 1 (one_more (Holds three_slots returns_first p) 0 (λ number below. absurd (omega arith)) h0) h1)

-- no stack map: no shape, and no number, whether the parameters fit or not
abbrev mapless : Code
mapless = record agrees { frames = None }

mapless_no_shape : HasShape reference_in mapless → ⊥
mapless_no_shape h = h.each

mapless_fault : IsShapeFault reference_in mapless None × IsShapeFault four_slots mapless None
mapless_fault = (refl, refl)

mapless_no_number : (number : ℕ) → IsShapeFault four_slots mapless (Some number) → ⊥
mapless_no_number number (some, fault) = absurd cc

-- and with a stack map there is a number
with_number : IsShapeFault reference_in faulty (Some 3) × IsShapeFault four_slots faulty (Some 0)
with_number = ((refl, faulty_fault), (refl, unfit_and_faulty))

not_without_number : IsShapeFault reference_in faulty None → ⊥
not_without_number none = absurd cc

not_another_number : IsShapeFault reference_in faulty (Some 1) → ⊥
not_another_number fault = not_the_stuck fault.1

-- ---- handlers

abbrev handler_at : ℕ → ℕ → ℕ → Range
handler_at start end handler = record { start = start; end = end; handler = handler; catches = Some (codes "E") }

-- the run comes to the handler's first instruction too: with its frame, without one, with no operand, with an int, and with two
abbrev handles_at : List FrameForm → Code
handles_at forms = code_with (push_null ∷ Return None ∷ []) (handler_at 0 1 1 ∷ []) (map (at 1) forms)

handled_shape : HasShape reference_in (handles_at (Stack1 Null ∷ []))
unfolding after frames_after
handled_shape =
    let p : List Placed = placed 1 alone (kinds.Ref ∷ []) ∷ [] in
    let code : Code = handles_at (Stack1 Null ∷ []) in
    let t0 : Says code p 0 (kinds_of alone []) push_null (kinds_of alone (kinds.Ref ∷ [])) = record { state = refl; at = refl; found = refl } in
    let t1 : Says code p 1 (kinds_of alone (kinds.Ref ∷ [])) (Return None) (kinds_of alone (kinds.Ref ∷ [])) = record { state = refl; at = refl; found = refl } in
    let r0 = one_range code p 0 (kinds_of alone []) (handler_at 0 1 1) refl (λ e. absurd (omega arith)) (λ low high. (refl, tt)) in
    let r1 = one_range code p 1 (kinds_of alone (kinds.Ref ∷ [])) (handler_at 0 1 1) refl (λ e. refl) (λ low high. absurd (omega arith)) in
    has_shape reference_in code p (omega arith) refl (first_2 code p
    (goes_on_with reference_in code p 0 _ _ _ t0 r0 tt (omega arith) ((refl, tt), refl))
    (ended_with reference_in code p 1 _ _ _ t1 r1 tt refl))

handler_unframed : IsNumberedFault reference_in (handles_at []) 1
unfolding after frames_after
handler_unframed =
    let p : List Placed = [] in
    let code : Code = handles_at [] in
    let t0 : Says code p 0 (kinds_of alone []) push_null (kinds_of alone (kinds.Ref ∷ [])) = record { state = refl; at = refl; found = refl } in
    let r0 = one_range code p 0 (kinds_of alone []) (handler_at 0 1 1) refl (λ e. absurd (omega arith)) (λ low high. tt) in
    fault_at reference_in code p 1 (omega arith) refl (omega arith) (first_1 code p (goes_on_with reference_in code p 0 _ _ _ t0 r0 tt (omega arith) tt))
    (no_handler reference_in code p (handler_at 0 1 1) (0, omega arith, refl) (λ h. h))

-- a handler after a return, with other operands
abbrev caught_at : FrameForm → Code
caught_at form = code_with (Return None ∷ Return None ∷ []) (handler_at 0 1 1 ∷ []) (at 1 form ∷ [])

caught_with : (form : FrameForm) (stack : List Kind) → frames_of reference_in (caught_at form) ≡ Read (placed 1 alone stack ∷ []) → (stack ≡ kinds.Ref ∷ [] → ⊥)
    → IsNumberedFault reference_in (caught_at form) 1
unfolding after
caught_with form stack read other =
    let p : List Placed = placed 1 alone stack ∷ [] in
    let code : Code = caught_at form in
    let t0 : Says code p 0 (kinds_of alone []) (Return None) (kinds_of alone []) = record { state = refl; at = refl; found = refl } in
    let r0 = one_range code p 0 (kinds_of alone []) (handler_at 0 1 1) refl (λ e. absurd (omega arith)) (λ low high. (refl, tt)) in
    fault_at reference_in code p 1 (omega arith) read (omega arith) (first_1 code p (ended_with reference_in code p 0 _ _ _ t0 r0 tt refl))
    (no_handler reference_in code p (handler_at 0 1 1) (0, omega arith, refl) other)

caught_without : IsNumberedFault reference_in (caught_at Same) 1
unfolding frames_after
caught_without = caught_with Same [] refl (λ e. absurd cc)

caught_int : IsNumberedFault reference_in (caught_at (Stack1 Integer)) 1
unfolding frames_after
caught_int = caught_with (Stack1 Integer) (kinds.Int ∷ []) refl (λ e. absurd cc)

caught_two : IsNumberedFault reference_in (caught_at (Full (Null ∷ []) (Null ∷ Null ∷ []))) 1
unfolding frames_after
caught_two = caught_with (Full (Null ∷ []) (Null ∷ Null ∷ [])) (kinds.Ref ∷ kinds.Ref ∷ []) refl (λ e. absurd cc)

abbrev catch_all : ℕ → ℕ → ℕ → Range
catch_all start end handler = record { start = start; end = end; handler = handler; catches = None }

-- the handler's frame declares an int, which stands there from the third instruction to the fifth
abbrev guarded : ℕ → ℕ → Code
guarded start end = code_with (push_int ∷ Store kinds.Int 1 ∷ Nop ∷ push_null ∷ Store kinds.Ref 1 ∷ Return None ∷ Return None ∷ [])
    (catch_all start end 6 ∷ []) (at 6 (Full (any_object ∷ Integer ∷ []) (Null ∷ [])) ∷ [])

abbrev with_two : List (Option Kind)
with_two = Some kinds.Ref ∷ Some kinds.Ref ∷ None ∷ []

abbrev at_six : List Placed
at_six = placed 6 with_int (kinds.Ref ∷ []) ∷ []

guarded_read : (start end : ℕ) → frames_of reference_in (guarded start end) ≡ Read at_six
unfolding frames_after
guarded_read start end = refl

module _ (start end : ℕ) where
  abbrev Guarded : ℕ → Kinds → Instruction → Kinds → Type 0
  Guarded number k i left = Says (guarded start end) at_six number k i left

  guarded_0 : Guarded 0 (kinds_of alone []) push_int (kinds_of alone (kinds.Int ∷ []))
  unfolding after
  guarded_0 = record { state = refl; at = refl; found = refl }

  guarded_1 : Guarded 1 (kinds_of alone (kinds.Int ∷ [])) (Store kinds.Int 1) (kinds_of with_int [])
  unfolding after
  guarded_1 = then_reported guarded_0 refl refl refl refl

  guarded_2 : Guarded 2 (kinds_of with_int []) Nop (kinds_of with_int [])
  unfolding after
  guarded_2 = then_reported guarded_1 refl refl refl refl

  guarded_3 : Guarded 3 (kinds_of with_int []) push_null (kinds_of with_int (kinds.Ref ∷ []))
  unfolding after
  guarded_3 = then_reported guarded_2 refl refl refl refl

  guarded_4 : Guarded 4 (kinds_of with_int (kinds.Ref ∷ [])) (Store kinds.Ref 1) (kinds_of with_two [])
  unfolding after
  guarded_4 = then_reported guarded_3 refl refl refl refl

  guarded_5 : Guarded 5 (kinds_of with_two []) (Return None) (kinds_of with_two [])
  unfolding after
  guarded_5 = then_reported guarded_4 refl refl refl refl

  guarded_6 : Guarded 6 (kinds_of with_int (kinds.Ref ∷ [])) (Return None) (kinds_of with_int (kinds.Ref ∷ []))
  unfolding after
  guarded_6 = record { state = refl; at = refl; found = refl }

  abbrev HeldAt : ℕ → Type 0
  HeldAt number = Holds reference_in (guarded start end) at_six number

  abbrev range : Range
  range = catch_all start end 6

  -- an instruction before the returns, which isn't in the range, or has an int
  held : (number : ℕ) (k : Kinds) (i : Instruction) (left : Kinds) → Guarded number k i left → suc number < 6 → FlowsTo left (placed_at at_six (suc number))
      → (start ≤ number → number < end → LocalsFlow k.locals with_int) → HeldAt number
  held number k i left t below goes_on flows = goes_on_with reference_in (guarded start end) at_six number k i left t
      (one_range (guarded start end) at_six number k range refl (λ e. absurd (omega arith)) flows) tt (omega arith) goes_on

  has_int : LocalsFlow with_int with_int
  has_int = (refl, (refl, tt))

  has_none : LocalsFlow alone with_int → ⊥
  has_none h = let e : None ≡ Some kinds.Int = h.1.0 in absurd cc

  has_other : LocalsFlow with_two with_int → ⊥
  has_other h = let e : Some kinds.Ref ≡ Some kinds.Int = h.1.0 in absurd cc

  held_0 : (start ≤ 0 → 0 < end → ⊥) → HeldAt 0
  held_0 outside = held 0 _ _ _ guarded_0 (omega arith) tt (λ low high. absurd (outside low high))

  held_1 : (start ≤ 1 → 1 < end → ⊥) → HeldAt 1
  held_1 outside = held 1 _ _ _ guarded_1 (omega arith) tt (λ low high. absurd (outside low high))

  held_2 : HeldAt 2
  held_2 = held 2 _ _ _ guarded_2 (omega arith) tt (λ low high. has_int)

  held_3 : HeldAt 3
  held_3 = held 3 _ _ _ guarded_3 (omega arith) tt (λ low high. has_int)

  held_4 : HeldAt 4
  held_4 = held 4 _ _ _ guarded_4 (omega arith) tt (λ low high. has_int)

  held_5 : (start ≤ 5 → 5 < end → ⊥) → HeldAt 5
  held_5 outside = ended_with reference_in (guarded start end) at_six 5 _ _ _ guarded_5
      (one_range (guarded start end) at_six 5 (kinds_of with_two []) range refl (λ e. absurd (omega arith)) (λ low high. absurd (outside low high))) tt refl

  held_6 : HeldAt 6
  held_6 = ended_with reference_in (guarded start end) at_six 6 _ _ _ guarded_6
      (one_range (guarded start end) at_six 6 (kinds_of with_int (kinds.Ref ∷ [])) range refl (λ e. refl) (λ low high. has_int)) tt refl

-- what the instruction in the range stores isn't lost for it
guarded_shape : HasShape reference_in (guarded 2 5)
guarded_shape = has_shape reference_in (guarded 2 5) at_six (omega arith) (guarded_read 2 5) (first_7 (guarded 2 5) at_six
    (held_0 2 5 (λ low high. omega arith)) (held_1 2 5 (λ low high. omega arith)) (held_2 2 5) (held_3 2 5) (held_4 2 5)
    (held_5 2 5 (λ low high. omega arith)) (held_6 2 5))

-- one instruction earlier there is no int yet; one later there is another kind
early_fault : IsNumberedFault reference_in (guarded 1 5) 1
early_fault = fault_at reference_in (guarded 1 5) at_six 1 (omega arith) (guarded_read 1 5) (omega arith) (first_1 (guarded 1 5) at_six (held_0 1 5 (λ low high. omega arith)))
    (not_handled reference_in (guarded 1 5) at_six 1 _ _ _ (guarded_1 1 5) (catch_all 1 5 6) (0, omega arith, refl) (omega arith) (omega arith) (has_none 1 5))

late_fault : IsNumberedFault reference_in (guarded 2 6) 5
late_fault = fault_at reference_in (guarded 2 6) at_six 5 (omega arith) (guarded_read 2 6) (omega arith) (first_5 (guarded 2 6) at_six
    (held_0 2 6 (λ low high. omega arith)) (held_1 2 6 (λ low high. omega arith)) (held_2 2 6) (held_3 2 6) (held_4 2 6))
    (not_handled reference_in (guarded 2 6) at_six 5 _ _ _ (guarded_5 2 6) (catch_all 2 6 6) (0, omega arith, refl) (omega arith) (omega arith) (has_other 2 6))

whole_fault : IsNumberedFault reference_in (guarded 0 7) 0
whole_fault = fault_at reference_in (guarded 0 7) at_six 0 (omega arith) (guarded_read 0 7) (omega arith) (none_yet (guarded 0 7) at_six)
    (not_handled reference_in (guarded 0 7) at_six 0 _ _ _ (guarded_0 0 7) (catch_all 0 7 6) (0, omega arith, refl) (omega arith) (omega arith) (has_none 0 7))

-- the second handler has no frame
abbrev second : Code
second = code_with (Return None ∷ Return None ∷ push_int ∷ Return None ∷ []) (handler_at 0 1 1 ∷ handler_at 2 3 3 ∷ []) (at 1 (Stack1 Null) ∷ at 2 Same ∷ [])

second_no_shape : HasShape reference_in second → ⊥
unfolding frames_after
second_no_shape h =
    let p : List Placed = placed 1 alone (kinds.Ref ∷ []) ∷ placed 2 alone [] ∷ [] in
    let read : frames_of reference_in second ≡ Read p = refl in
    let each : AllHold reference_in second (Read p) = subst (AllHold reference_in second) read h.each in
    no_handler reference_in second p (handler_at 2 3 3) (1, omega arith, refl) (λ e. e) (each 3 (omega arith))
