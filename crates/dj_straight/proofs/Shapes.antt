-- Code has one state before each instruction, and one number at most where it has no shape.
use Rattle.std.proofs.Common.{◌≡◌, ◌⊎◌, ℕ, zero, suc, ◌<◌, length, IsSome, IsNone, List, [], ◌∷◌, Option, Some, None, refl, sym, ap, subst, ◌∙◌, inl, inr, arith}
use Rattle.std.proofs.lemmas.Bool.{cases_lt}
use Rattle.dj_names.specs.declared.descriptor.Kind.{Kind}
use Rattle.dj_straight.specs.trusted.Program.{Code}
use Rattle.dj_straight.specs.trusted.StackMaps.{StackMapFrame}
use Rattle.dj_straight.specs.trusted.FrameKinds.{Signature, Kinds, kind_slots, Entries, stack_of, form_entries, fitting, Placed, Frames, Read, Faulty, NoMap, with_fitting, with_frame, parameter_entries, frames_after, frames_in, frames_of, placed_at}
use Rattle.dj_straight.specs.trusted.Shape.{ParametersFit, after, IsFrameOr, StateBefore, Holds, IsFirstFault, IsFrameOrFault, IsNumberedFault, IsShapeFault}
use Rattle.dj_straight.specs.Shape.{HasShape, AllHold}

-- an empty stack map has no kinds
pub no_frames : (signature : Signature) (code : Code) → code.frames ≡ Some [] → frames_of signature code ≡ Read []
unfolding frames_after
no_frames signature code e = ap (frames_in code (parameter_entries signature.parameters)) e

-- so all instructions of code with shape hold without frames
pub all_hold : (signature : Signature) (code : Code) → code.frames ≡ Some [] → HasShape signature code → AllHold signature code (Read [])
all_hold signature code e shape = subst (AllHold signature code) (no_frames signature code e) shape.each

pub has_shape : (signature : Signature) (code : Code) → code.frames ≡ Some [] → ParametersFit signature code
    → AllHold signature code (Read []) → HasShape signature code
has_shape signature code e fit all =
    record { parameters = fit; each = subst (AllHold signature code) (sym (no_frames signature code e)) all }

-- a number of a code with a stack map
pub is_numbered : (signature : Signature) (code : Code) (n : ℕ) (frames : List StackMapFrame) → code.frames ≡ Some frames
    → IsNumberedFault signature code n → IsShapeFault signature code (Some n)
is_numbered signature code n frames e fault = (rw e refl, fault)

pub is_fault : (signature : Signature) (code : Code) (n : ℕ) → code.frames ≡ Some [] → ParametersFit signature code
    → IsFirstFault signature code [] n → IsShapeFault signature code (Some n)
is_fault signature code n e fit fault =
    is_numbered signature code n [] e (inr (fit, subst (λ frames. IsFrameOrFault signature code frames n) (sym (no_frames signature code e)) fault))

says_one : (reported : Option Kinds) (a b : Kinds) (x y : Type 0) → IsFrameOr reported a x → IsFrameOr reported b y → (x → y → a ≡ b) → a ≡ b
says_one None a b x y p q same = same p q
says_one (Some k) a b x y p q same = p ∙ sym q

pub one_state : (signature : Signature) (code : Code) (placed : List Placed) (n : ℕ) (a b : Kinds) → StateBefore signature code placed n a
    → StateBefore signature code placed n b → a ≡ b
one_state signature code placed zero a b x y = says_one (placed_at placed zero) a b _ _ x y (λ p q. p ∙ sym q)
one_state signature code placed (suc n) a b x y = says_one (placed_at placed (suc n)) a b _ _ x y (λ p q.
    let before : p.0 ≡ q.0 = one_state signature code placed n p.0 q.0 p.2 q.2 in
    let instructions : Some p.1 ≡ Some q.1 = sym p.3 ∙ q.3 in
    let instruction : p.1 ≡ q.1 = cc in
    let left : after signature code p.1 p.0 ≡ after signature code q.1 q.0 = rw (before, instruction) refl in
    let both : Some a ≡ Some b = sym p.5 ∙ (left ∙ q.5) in
    cc)

no_fault_in : (signature : Signature) (code : Code) (frames : Frames) (n : ℕ) → AllHold signature code frames
    → IsFrameOrFault signature code frames n → ⊥
no_fault_in signature code (Read placed) n all fault = fault.fault (all n fault.within)
no_fault_in signature code (Faulty at) n all fault = absurd all
no_fault_in signature code NoMap n all fault = absurd all

-- code whose stack map is none has no shape
no_map : (signature : Signature) (code : Code) (frames : Option (List StackMapFrame)) → IsNone frames
    → AllHold signature code (frames_in code (parameter_entries signature.parameters) frames) → ⊥
no_map signature code None none all = all
no_map signature code (Some frames) none all = absurd cc

pub no_fault_with_shape : (signature : Signature) (code : Code) (n : Option ℕ) → HasShape signature code → IsShapeFault signature code n → ⊥
no_fault_with_shape signature code None shape none = no_map signature code code.frames none shape.each
no_fault_with_shape signature code (Some n) shape (some, inl unfit) = unfit.0 shape.parameters
no_fault_with_shape signature code (Some n) shape (some, inr fault) = no_fault_in signature code (frames_of signature code) n shape.each fault.1

first_fault : (signature : Signature) (code : Code) (placed : List Placed) (a b : ℕ) → IsFirstFault signature code placed a
    → IsFirstFault signature code placed b → a < b → ⊥
first_fault signature code placed a b x y lt = x.fault (y.before a lt)

one_fault_in : (signature : Signature) (code : Code) (frames : Frames) (a b : ℕ) → IsFrameOrFault signature code frames a
    → IsFrameOrFault signature code frames b → a ≡ b
one_fault_in signature code (Read placed) a b x y =
    let not_below : a < b → ⊥ = first_fault signature code placed a b x y in
    let not_above : b < a → ⊥ = first_fault signature code placed b a y x in
    omega arith
one_fault_in signature code (Faulty at) a b x y = x ∙ sym y
one_fault_in signature code NoMap a b x y = absurd x

pub one_number : (signature : Signature) (code : Code) (a b : ℕ) → IsNumberedFault signature code a → IsNumberedFault signature code b → a ≡ b
one_number signature code a b (inl x) (inl y) = x.1 ∙ sym y.1
one_number signature code a b (inl x) (inr y) = absurd (x.0 y.0)
one_number signature code a b (inr x) (inl y) = absurd (y.0 x.0)
one_number signature code a b (inr x) (inr y) = one_fault_in signature code (frames_of signature code) a b x.1 y.1

not_both : {A : Type 0} (x : Option A) → IsSome x → IsNone x → ⊥
not_both None some none = absurd cc
not_both (Some y) some none = absurd cc

pub one_shape_fault : (signature : Signature) (code : Code) (a b : Option ℕ) → IsShapeFault signature code a → IsShapeFault signature code b
    → a ≡ b
one_shape_fault signature code None None x y = refl
one_shape_fault signature code None (Some b) x y = absurd (not_both code.frames y.0 x)
one_shape_fault signature code (Some a) None x y = absurd (not_both code.frames x.0 y)
one_shape_fault signature code (Some a) (Some b) x y = ap Some (one_number signature code a b x.1 y.1)

-- ---- shape or a fault

fitting_map : (at : ℕ) (k : Option Kinds) (frames : Frames) → (frames ≡ NoMap → ⊥) → with_fitting at k frames ≡ NoMap → ⊥
fitting_map at None frames is e = absurd cc
fitting_map at (Some k) (Read rest) is e = absurd cc
fitting_map at (Some k) (Faulty other) is e = absurd cc
fitting_map at (Some k) NoMap is e = is refl

frame_map : (code : Code) (at : ℕ) (entries : Option Entries) (rest : List (Option Kind) → Frames) → ((locals : List (Option Kind)) → rest locals ≡ NoMap → ⊥)
    → with_frame code at entries rest ≡ NoMap → ⊥
frame_map code at None rest is e = absurd cc
frame_map code at (Some entries) rest is e =
    fitting_map at (fitting code entries.locals (stack_of entries.stack)) (rest entries.locals) (is entries.locals) e

-- frames are a stack map
has_map : (code : Code) (before : List (Option Kind)) (frames : List StackMapFrame) → frames_after code before frames ≡ NoMap → ⊥
unfolding frames_after
has_map code before [] e = absurd cc
has_map code before (f ∷ rest) e =
    frame_map code f.at (form_entries code before f.form) (λ locals. frames_after code locals rest) (λ locals. has_map code locals rest) e

-- this many instructions hold, or one of them is the first that doesn't
abbrev AllOrFirst : Signature → Code → List Placed → ℕ → Type 0
AllOrFirst signature code placed count =
    ((number : ℕ) → number < count → Holds signature code placed number)
    ⊎ ((n : ℕ) × (n < count) × ((other : ℕ) → other < n → Holds signature code placed other) × (Holds signature code placed n → ⊥))

one_more : (P : ℕ → Type 0) (count : ℕ) → ((number : ℕ) → number < count → P number) → P count → (number : ℕ) → number < suc count → P number
one_more P count all last number lt = elim (cases_lt number count) [
  | inl below ↦ all number below
  | inr above ↦ let same : count ≡ number = omega arith in subst P same last
]

all_or_first : (signature : Signature) (code : Code) (placed : List Placed) (count : ℕ) → (AllOrFirst signature code placed count → ⊥) → ⊥
all_or_first signature code placed zero none = none (inl (λ number lt. absurd (omega arith)))
all_or_first signature code placed (suc count) none = all_or_first signature code placed count (elim [
  | inl all ↦ none (inr (count, omega arith, all, λ holds. none (inl (one_more (Holds signature code placed) count all holds))))
  | inr (n, lt, before, fault) ↦ none (inr (n, omega arith, before, fault))
])

by_frames : (signature : Signature) (code : Code) (frames : Frames) → (AllHold signature code frames → ⊥)
    → ((n : ℕ) → IsFrameOrFault signature code frames n → ⊥) → (frames ≡ NoMap → ⊥) → ⊥
by_frames signature code (Read placed) no_shape no_fault some = all_or_first signature code placed (length code.instructions) (elim [
  | inl all ↦ no_shape all
  | inr (n, lt, before, fault) ↦ no_fault n (record { within = lt; before = before; fault = fault })
])
by_frames signature code (Faulty at) no_shape no_fault some = no_fault at refl
by_frames signature code NoMap no_shape no_fault some = some refl

pub shape_or_fault : (signature : Signature) (code : Code) → (HasShape signature code → ⊥)
    → ((n : Option ℕ) → IsShapeFault signature code n → ⊥) → ⊥
shape_or_fault signature code no_shape no_fault = by code.frames refl where
  by : (frames : Option (List StackMapFrame)) → code.frames ≡ frames → ⊥
  by None e = no_fault None (rw e refl)
  by (Some frames) e = elim (cases_lt code.max_locals (length (kind_slots (parameter_entries signature.parameters)))) [
    | inl unfit ↦ no_fault (Some 0) (rw e refl, inl (λ fit. omega (arith, unfit, fit), refl))
    | inr fit ↦ by_frames signature code (frames_of signature code)
        (λ all. no_shape (record { parameters = fit; each = all }))
        (λ n fault. no_fault (Some n) (rw e refl, inr (fit, fault)))
        (λ none. has_map code (parameter_entries signature.parameters) frames (sym (ap (frames_in code (parameter_entries signature.parameters)) e) ∙ none))
  ]
