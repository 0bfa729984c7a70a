-- Code has shape or one fault, and which of them is decided.
use Rattle.std.proofs.Common.{◌≡◌, ◌⊎◌, ℕ, zero, suc, ◌<◌, ◌&&◌, ◌||◌, Bool, true, false, not, length, IsSome, IsNone, IsTrue, List, [], ◌∷◌, Option, Some, None, nat_eq, nat_lt, refl, sym, ap, subst, ◌∙◌, inl, inr, arith}
use Rattle.std.proofs.lemmas.Bool.{cases_lt}
use Rattle.std.specs.List.{list_all}
use Rattle.std.specs.Prelude.{slice_get}
use Rattle.dj_names.specs.declared.descriptor.Kind.{Kind}
use Rattle.dj_ops.specs.declared.frames.Frame.{Frame}
use Rattle.dj_model.specs.trusted.Program.{Code, Range}
use Rattle.dj_model.specs.trusted.Instructions.{Instruction, ends, targets}
use Rattle.dj_model.specs.trusted.Numbers.{is_wide}
use Rattle.dj_model.specs.trusted.Values.{in_slots}
use Rattle.dj_model.specs.trusted.Kinds.{Signature, Kinds, Entries, stack_of, form_entries, fitting, Placed, Map, Read, Faulty, NoMap, with_fitting, with_frame, parameter_entries, frames_after, frames_in, map_of, placed_at}
use Rattle.dj_model.specs.trusted.Shape.{first_kinds, after, flows_to, flows_to_frame, locals_flow_to, is_handler_frame, covers, state_before, HoldsAt, IsFirstFault, IsFrameOrFault, IsNumberedFault, IsShapeFault}
use Rattle.dj_model.specs.Shape.{HasShape, AllHold}
use Rattle.dj_model.proofs.MappedNames.{either}

-- ---- one fault

no_fault_in : (signature : Signature) (code : Code) (map : Map) (n : ℕ) → AllHold signature code map → IsFrameOrFault signature code map n → ⊥
no_fault_in signature code (Read placed) n all fault = fault.fault (all n fault.within)
no_fault_in signature code (Faulty at) n all fault = absurd all
no_fault_in signature code NoMap n all fault = absurd all

no_map : (signature : Signature) (code : Code) (frames : Option (List Frame)) → IsNone frames
    → AllHold signature code (frames_in code (parameter_entries signature) frames) → ⊥
no_map signature code None none all = all
no_map signature code (Some frames) none all = absurd cc

pub no_fault_with_shape : (signature : Signature) (code : Code) (n : Option ℕ) → HasShape signature code → IsShapeFault signature code n → ⊥
no_fault_with_shape signature code None shape none = no_map signature code code.frames none shape.each
no_fault_with_shape signature code (Some n) shape (some, inl unfit) = unfit.0 shape.parameters
no_fault_with_shape signature code (Some n) shape (some, inr fault) = no_fault_in signature code (map_of signature code) n shape.each fault.1

first_fault : (signature : Signature) (code : Code) (placed : List Placed) (a b : ℕ) → IsFirstFault signature code placed a
    → IsFirstFault signature code placed b → a < b → ⊥
first_fault signature code placed a b x y lt = x.fault (y.before a lt)

one_fault_in : (signature : Signature) (code : Code) (map : Map) (a b : ℕ) → IsFrameOrFault signature code map a
    → IsFrameOrFault signature code map b → a ≡ b
one_fault_in signature code (Read placed) a b x y =
    let not_below : a < b → ⊥ = first_fault signature code placed a b x y in
    let not_above : b < a → ⊥ = first_fault signature code placed b a y x in
    omega arith
one_fault_in signature code (Faulty at) a b x y = x ∙ sym y
one_fault_in signature code NoMap a b x y = absurd x

one_number : (signature : Signature) (code : Code) (a b : ℕ) → IsNumberedFault signature code a → IsNumberedFault signature code b → a ≡ b
one_number signature code a b (inl x) (inl y) = x.1 ∙ sym y.1
one_number signature code a b (inl x) (inr y) = absurd (x.0 y.0)
one_number signature code a b (inr x) (inl y) = absurd (y.0 x.0)
one_number signature code a b (inr x) (inr y) = one_fault_in signature code (map_of signature code) a b x.1 y.1

not_both : {A : Type 0} (x : Option A) → IsSome x → IsNone x → ⊥
not_both None some none = absurd cc
not_both (Some y) some none = absurd cc

pub one_shape_fault : (signature : Signature) (code : Code) (a b : Option ℕ) → IsShapeFault signature code a → IsShapeFault signature code b → a ≡ b
one_shape_fault signature code None None x y = refl
one_shape_fault signature code None (Some b) x y = absurd (not_both code.frames y.0 x)
one_shape_fault signature code (Some a) None x y = absurd (not_both code.frames x.0 y)
one_shape_fault signature code (Some a) (Some b) x y = ap Some (one_number signature code a b x.1 y.1)

-- ---- whether an instruction holds is decided

both : (a b : Bool) → IsTrue a → IsTrue b → IsTrue (a && b)
both true b x y = y
both false b x y = absurd cc

first_of_both : (a b : Bool) → IsTrue (a && b) → IsTrue a
first_of_both true b x = refl
first_of_both false b x = absurd cc

second_of_both : (a b : Bool) → IsTrue (a && b) → IsTrue b
second_of_both true b x = x
second_of_both false b x = absurd cc

module _ (signature : Signature) (code : Code) (placed : List Placed) (number : ℕ) where
  abbrev last_of : Instruction → Bool
  last_of i = ends i || nat_lt (suc number) (length code.instructions)

  abbrev begins_of : Bool
  begins_of = not (nat_eq number 0) || flows_to (first_kinds signature code) (placed_at placed 0)

  abbrev goes_on_of : Kinds → Instruction → Bool
  goes_on_of left i = ends i || flows_to left (placed_at placed (suc number))

  abbrev jumps_of : Kinds → Instruction → Bool
  jumps_of left i = list_all (λ target. flows_to_frame left (placed_at placed target)) (targets i)

  abbrev handles_of : Bool
  handles_of = list_all (λ (range : Range). not (nat_eq number range.handler) || is_handler_frame (placed_at placed number)) code.ranges

  abbrev handled_of : Kinds → Bool
  handled_of before = list_all (λ (range : Range). not (covers range number) || locals_flow_to before (placed_at placed range.handler)) code.ranges

  abbrev conditions : Kinds → Kinds → Instruction → Bool
  conditions before left i = last_of i && (begins_of && (goes_on_of left i && (jumps_of left i && (handles_of && handled_of before))))

  from_conditions : (before left : Kinds) (i : Instruction) → state_before signature code placed number ≡ Some before → slice_get code.instructions number ≡ Some i
      → after signature code i before ≡ Some left → IsTrue (conditions before left i) → HoldsAt signature code placed number
  from_conditions before left i state at found c =
      let c1 = second_of_both (last_of i) (begins_of && (goes_on_of left i && (jumps_of left i && (handles_of && handled_of before)))) c in
      let c2 = second_of_both begins_of (goes_on_of left i && (jumps_of left i && (handles_of && handled_of before))) c1 in
      let c3 = second_of_both (goes_on_of left i) (jumps_of left i && (handles_of && handled_of before)) c2 in
      let c4 = second_of_both (jumps_of left i) (handles_of && handled_of before) c3 in
      record {
        before = before;
        left = left;
        instruction = i;
        state = state;
        at = at;
        found = found;
        last = first_of_both (last_of i) _ c;
        begins = first_of_both begins_of _ c1;
        goes_on = first_of_both (goes_on_of left i) _ c2;
        jumps = first_of_both (jumps_of left i) _ c3;
        handles = first_of_both handles_of _ c4;
        handled = second_of_both handles_of (handled_of before) c4;
      }

  to_conditions : (h : HoldsAt signature code placed number) → IsTrue (conditions h.before h.left h.instruction)
  to_conditions h =
      both (last_of h.instruction) _ h.last (both begins_of _ h.begins (both (goes_on_of h.left h.instruction) _ h.goes_on
      (both (jumps_of h.left h.instruction) _ h.jumps (both handles_of (handled_of h.before) h.handles h.handled))))

  decide_left : (before : Kinds) (i : Instruction) (left : Option Kinds) → state_before signature code placed number ≡ Some before
      → slice_get code.instructions number ≡ Some i → after signature code i before ≡ left
      → HoldsAt signature code placed number ⊎ (HoldsAt signature code placed number → ⊥)
  decide_left before i None state at found = inr (λ h.
      let b : Some h.before ≡ Some before = sym h.state ∙ state in
      let j : Some h.instruction ≡ Some i = sym h.at ∙ at in
      let same_b : h.before ≡ before = cc in
      let same_i : h.instruction ≡ i = cc in
      let left : after signature code i before ≡ Some h.left = subst (λ k. after signature code i k ≡ Some h.left) same_b (subst (λ k. after signature code k h.before ≡ Some h.left) same_i h.found) in
      let none : None ≡ Some h.left = sym found ∙ left in
      absurd cc)
  decide_left before i (Some left) state at found = elim (either (conditions before left i)) [
    | inl c ↦ inl (from_conditions before left i state at found c)
    | inr c ↦ inr (λ h.
        let b : Some h.before ≡ Some before = sym h.state ∙ state in
        let j : Some h.instruction ≡ Some i = sym h.at ∙ at in
        let same_b : h.before ≡ before = cc in
        let same_i : h.instruction ≡ i = cc in
        let there : after signature code i before ≡ Some h.left = subst (λ k. after signature code i k ≡ Some h.left) same_b (subst (λ k. after signature code k h.before ≡ Some h.left) same_i h.found) in
        let l : Some h.left ≡ Some left = sym there ∙ found in
        let same_l : h.left ≡ left = cc in
        let holds : IsTrue (conditions before left i) = subst (λ k. IsTrue (conditions before k i)) same_l (subst (λ k. IsTrue (conditions k h.left i)) same_b
        (subst (λ k. IsTrue (conditions h.before h.left k)) same_i (to_conditions h))) in
        absurd cc)
  ]

  decide_at : (before : Kinds) (i : Option Instruction) → state_before signature code placed number ≡ Some before → slice_get code.instructions number ≡ i
      → HoldsAt signature code placed number ⊎ (HoldsAt signature code placed number → ⊥)
  decide_at before None state at = inr (λ h. let none : None ≡ Some h.instruction = sym at ∙ h.at in absurd cc)
  decide_at before (Some i) state at = decide_left before i (after signature code i before) state at refl

  decide_state : (before : Option Kinds) → state_before signature code placed number ≡ before
      → HoldsAt signature code placed number ⊎ (HoldsAt signature code placed number → ⊥)
  decide_state None state = inr (λ h. let none : None ≡ Some h.before = sym state ∙ h.state in absurd cc)
  decide_state (Some before) state = decide_at before (slice_get code.instructions number) state refl

  pub decide : HoldsAt signature code placed number ⊎ (HoldsAt signature code placed number → ⊥)
  decide = decide_state (state_before signature code placed number) refl

-- ---- the same as a test

abbrev pub holds_of_left : Signature → Code → List Placed → ℕ → Kinds → Instruction → Option Kinds → Bool
holds_of_left signature code placed number before i None = false
holds_of_left signature code placed number before i (Some left) = conditions signature code placed number before left i

abbrev pub holds_of : Signature → Code → List Placed → ℕ → Option Kinds → Option Instruction → Bool
holds_of signature code placed number (Some before) (Some i) = holds_of_left signature code placed number before i (after signature code i before)
holds_of signature code placed number before i = false

abbrev pub holds_test : Signature → Code → List Placed → ℕ → Bool
holds_test signature code placed number = holds_of signature code placed number (state_before signature code placed number) (slice_get code.instructions number)

-- what holds passes the test, and what passes it holds
pub test_from_holds : (signature : Signature) (code : Code) (placed : List Placed) (number : ℕ) → HoldsAt signature code placed number
    → IsTrue (holds_test signature code placed number)
test_from_holds signature code placed number h = rw (h.state, h.at, h.found) (to_conditions signature code placed number h)

pub holds_from_test : (signature : Signature) (code : Code) (placed : List Placed) (number : ℕ) → IsTrue (holds_test signature code placed number)
    → HoldsAt signature code placed number
holds_from_test signature code placed number t = at_state (state_before signature code placed number) refl where
  at_left : (before : Kinds) (i : Instruction) (left : Option Kinds) → state_before signature code placed number ≡ Some before
      → slice_get code.instructions number ≡ Some i → after signature code i before ≡ left → IsTrue (holds_of_left signature code placed number before i left)
      → HoldsAt signature code placed number
  at_left before i None state at found u = absurd cc
  at_left before i (Some left) state at found u = from_conditions signature code placed number before left i state at found u

  at_instruction : (before : Kinds) (i : Option Instruction) → state_before signature code placed number ≡ Some before → slice_get code.instructions number ≡ i
      → IsTrue (holds_of signature code placed number (Some before) i) → HoldsAt signature code placed number
  at_instruction before None state at u = absurd cc
  at_instruction before (Some i) state at u = at_left before i (after signature code i before) state at refl u

  at_state : (before : Option Kinds) → state_before signature code placed number ≡ before → HoldsAt signature code placed number
  at_state None state = absurd (let none : IsTrue false = subst (λ k. IsTrue (holds_of signature code placed number k (slice_get code.instructions number))) state t in cc)
  at_state (Some before) state = at_instruction before (slice_get code.instructions number) state refl
      (subst (λ k. IsTrue (holds_of signature code placed number k (slice_get code.instructions number))) state t)

-- ---- shape or a fault

fitting_map : (at : ℕ) (k : Option Kinds) (map : Map) → (map ≡ NoMap → ⊥) → with_fitting at k map ≡ NoMap → ⊥
fitting_map at None map is e = absurd cc
fitting_map at (Some k) (Read rest) is e = absurd cc
fitting_map at (Some k) (Faulty other) is e = absurd cc
fitting_map at (Some k) NoMap is e = is refl

frame_map : (code : Code) (at : ℕ) (entries : Option Entries) (rest : List (Option Kind) → Map) → ((locals : List (Option Kind)) → rest locals ≡ NoMap → ⊥)
    → with_frame code at entries rest ≡ NoMap → ⊥
frame_map code at None rest is e = absurd cc
frame_map code at (Some entries) rest is e =
    fitting_map at (fitting code entries.locals (stack_of entries.stack)) (rest entries.locals) (is entries.locals) e

has_map : (code : Code) (before : List (Option Kind)) (frames : List Frame) → frames_after code before frames ≡ NoMap → ⊥
unfolding frames_after
has_map code before [] e = absurd cc
has_map code before (f ∷ rest) e =
    frame_map code f.at (form_entries code before f.form) (λ locals. frames_after code locals rest) (λ locals. has_map code locals rest) e

-- this many instructions hold, or one of them is the first that doesn't
abbrev AllOrFirst : Signature → Code → List Placed → ℕ → Type 0
AllOrFirst signature code placed count =
    ((number : ℕ) → number < count → HoldsAt signature code placed number)
    ⊎ ((n : ℕ) × (n < count) × ((other : ℕ) → other < n → HoldsAt signature code placed other) × (HoldsAt signature code placed n → ⊥))

one_more : (P : ℕ → Type 0) (count : ℕ) → ((number : ℕ) → number < count → P number) → P count → (number : ℕ) → number < suc count → P number
one_more P count all last number lt = elim (cases_lt number count) [
  | inl below ↦ all number below
  | inr above ↦ let same : count ≡ number = omega arith in subst P same last
]

all_or_first : (signature : Signature) (code : Code) (placed : List Placed) (count : ℕ) → AllOrFirst signature code placed count
all_or_first signature code placed zero = inl (λ number lt. absurd (omega arith))
all_or_first signature code placed (suc count) = elim (all_or_first signature code placed count) [
  | inl all ↦ elim (decide signature code placed count) [
    | inl holds ↦ inl (one_more (HoldsAt signature code placed) count all holds)
    | inr fault ↦ inr (count, omega arith, all, fault)
  ]
  | inr (n, lt, before, fault) ↦ inr (n, omega arith, before, fault)
]

by_map : (signature : Signature) (code : Code) (map : Map) → (map ≡ NoMap → ⊥)
    → AllHold signature code map ⊎ ((n : ℕ) × IsFrameOrFault signature code map n)
by_map signature code (Read placed) some = elim (all_or_first signature code placed (length code.instructions)) [
  | inl all ↦ inl all
  | inr (n, lt, before, fault) ↦ inr (n, record { within = lt; before = before; fault = fault })
]
by_map signature code (Faulty at) some = inr (at, refl)
by_map signature code NoMap some = absurd (some refl)

pub shape_or_fault : (signature : Signature) (code : Code) → HasShape signature code ⊎ ((n : Option ℕ) × IsShapeFault signature code n)
shape_or_fault signature code = by code.frames refl where
  by : (frames : Option (List Frame)) → code.frames ≡ frames → HasShape signature code ⊎ ((n : Option ℕ) × IsShapeFault signature code n)
  by None e = inr (None, rw e refl)
  by (Some frames) e = elim (cases_lt code.max_locals (length (in_slots is_wide signature.parameters))) [
    | inl unfit ↦ inr (Some 0, (rw e refl, inl (λ fit. omega (arith, unfit, fit), refl)))
    | inr fit ↦ elim (by_map signature code (map_of signature code)
        (λ none. has_map code (parameter_entries signature) frames (sym (ap (frames_in code (parameter_entries signature)) e) ∙ none))) [
          | inl all ↦ inl (record { parameters = fit; each = all })
          | inr (n, fault) ↦ inr (Some n, (rw e refl, inr (fit, fault)))
        ]
  ]
