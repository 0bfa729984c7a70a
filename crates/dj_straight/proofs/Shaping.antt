-- What the checker of shape does with kinds, and what follows of the code.
use Rattle.std.proofs.Common.{◌≡◌, ℕ, suc, ◌+◌, ◌-◌, ◌<◌, ◌≤◌, Bool, true, false, List, [], ◌∷◌, ◌++◌, length, take, get_or, reverse, Some, None, Contains, slice_get, nat_lt, IsTrue, refl, sym, ap, subst, ◌∙◌, arith}
use Rattle.std.proofs.lemmas.Bool.Decides.{nat_tests}
use Rattle.std.proofs.lemmas.List.{reverse-append, take_all, take_more, take-append-le}
use Rattle.std.proofs.lemmas.Option.{get_or_from_slice_get, slice_get-map, slice_get_within}
use Rattle.std.specs.Option.{option_map}
use Rattle.dj_names.specs.declared.descriptor.Kind.{Kind}
use Rattle.dj_names.specs.declared.descriptor.Kind.TheVariants as kinds
use Rattle.dj_straight.specs.trusted.Program.{Code, Range}
use Rattle.dj_straight.specs.trusted.Instructions.{Instruction, ends, Nop, Push, Load, Store, LoadElement, StoreElement, Move, Compute, Return, ArrayLength, NewArray, Other}
use Rattle.dj_straight.specs.trusted.Effects.{slots_of}
use Rattle.dj_straight.specs.trusted.FrameKinds.{Kinds}
use Rattle.dj_straight.specs.trusted.Shape.{taken, set_kind, kinds_without_long_before, after, StateBefore, Holds}
use Rattle.dj_straight.proofs.Shapes.{one_state}
use Rattle.dj_straight.specs.declared.program.Action.{Action}
use Rattle.dj_straight.specs.declared.program.StraightMethod.{StraightMethod}
use Rattle.dj_straight.specs.trusted.Methods.{straight_signature}
use Rattle.dj_straight.specs.Methods.{straight_code, action_view, code_view}
use Rattle.dj_straight.specs.Shaping.{Standing, room, HasRoomOf, Answers, StandsBefore}

-- ---- the top

pub top_of : (xs : List Kind) (x : Kind) → Some x ≡ slice_get xs (length xs - 1) → (below : List Kind) × (reverse xs ≡ x ∷ below)
top_of xs x h =
    let within : length xs - 1 < length xs = slice_get_within xs (length xs - 1) x (sym h) in
    let at : get_or xs (length xs - 1) x ≡ x = get_or_from_slice_get xs (length xs - 1) x x (sym h) in
    let n : length xs - 1 + 1 ≡ length xs = omega arith in
    let all : take (length xs) xs ≡ xs = take_all (length xs) xs (omega arith) in
    let more : take (length xs - 1 + 1) xs ≡ take (length xs - 1) xs ++ get_or xs (length xs - 1) x ∷ [] = take_more xs (length xs - 1) x within in
    let whole : xs ≡ take (length xs - 1) xs ++ x ∷ [] = cc in
    (reverse (take (length xs - 1) xs), ap reverse whole ∙ reverse-append (take (length xs - 1) xs) (x ∷ []))

pub seam : {A : Type 0} (n : ℕ) (xs ys : List A) → length xs ≡ n → take n (xs ++ ys) ≡ xs
seam n xs ys h = subst (λ (k : ℕ). take k (xs ++ ys) ≡ xs) h (take-append-le (length xs) xs ys (omega arith) ∙ take_all (length xs) xs (omega arith))

-- ---- a store

slots_below : (kind : Kind) (slot max : ℕ) → slot + slots_of kind ≤ max → nat_lt (slot + slots_of kind - 1) max ≡ true
slots_below kinds.Int slot max h = grind (arith, nat_tests)
slots_below kinds.Long slot max h = grind (arith, nat_tests)
slots_below kinds.Ref slot max h = grind (arith, nat_tests)

slots_past : (kind : Kind) (slot max : ℕ) → max < slot + slots_of kind → nat_lt (slot + slots_of kind - 1) max ≡ false
slots_past kinds.Int slot max h = grind (arith, nat_tests)
slots_past kinds.Long slot max h = grind (arith, nat_tests)
slots_past kinds.Ref slot max h = grind (arith, nat_tests)

pub stored : (code : Code) (k now : Kinds) (kind : Kind) (slot : ℕ)
    → taken (kind ∷ []) k.stack ≡ Some now.stack → slot + slots_of kind ≤ code.max_locals
    → now.locals ≡ set_kind (kinds_without_long_before k.locals slot) slot kind
    → after straight_signature code (Store kind slot) k ≡ Some now
unfolding after
stored code k now kind slot t h e = rw t (rw (slots_below kind slot code.max_locals h) (rw e refl))

pub not_stored : (code : Code) (k : Kinds) (kind : Kind) (slot : ℕ)
    → taken (kind ∷ []) k.stack ≡ None → after straight_signature code (Store kind slot) k ≡ None
unfolding after
not_stored code k kind slot t = rw t refl

pub stored_past : (code : Code) (k : Kinds) (below : List Kind) (kind : Kind) (slot : ℕ)
    → taken (kind ∷ []) k.stack ≡ Some below → code.max_locals < slot + slots_of kind
    → after straight_signature code (Store kind slot) k ≡ None
unfolding after
stored_past code k below kind slot t h = rw t (rw (slots_past kind slot code.max_locals h) refl)

-- ---- of the code the kinds depend on its room alone

by_room : (code : Code) (i : Instruction) (k : Kinds)
    → after straight_signature code i k ≡ after straight_signature (straight_code code.max_stack code.max_locals []) i k
unfolding after
by_room code Nop k = refl
by_room code (Push v) k = refl
by_room code (Load kind slot) k = refl
by_room code (Store kind slot) k = refl
by_room code (LoadElement access) k = refl
by_room code (StoreElement access) k = refl
by_room code (Move operation) k = refl
by_room code (Compute operation) k = refl
by_room code (Return kind) k = refl
by_room code ArrayLength k = refl
by_room code (NewArray class element) k = refl
by_room code (Other op) k = refl

pub after_room : (s : Standing) (method : StraightMethod) (i : Instruction) (k : Kinds) → HasRoomOf s method
    → after straight_signature (room s) i k ≡ after straight_signature (code_view method) i k
after_room s method i k h =
    ap (λ (n : ℕ). after straight_signature (straight_code n s.max_locals []) i k) h.0
    ∙ ap (λ (n : ℕ). after straight_signature (straight_code method.max_stack n []) i k) h.1
    ∙ sym (by_room (code_view method) i k)

-- ---- one instruction

no_range : {A : Type 0} (code : Code) (range : Range) → code.ranges ≡ [] → Contains code.ranges range → A
no_range code range none has =
    let some : has.0 < length code.ranges = has.1 in
    let zero_ranges : length code.ranges ≡ 0 = ap length none in
    absurd (omega arith)

pub answers : (code : Code) (number : ℕ) (i : Instruction) (k left : Kinds) → code.ranges ≡ []
    → StateBefore straight_signature code [] number k → slice_get code.instructions number ≡ Some i
    → after straight_signature code i k ≡ Some left → (suc number ≡ length code.instructions → IsTrue (ends i))
    → Answers true code number i left
answers code number i k left none state at found last = (
  record {
    before = k;
    left = left;
    instruction = i;
    state = state;
    at = at;
    found = found;
    last = last;
    begins = λ first. tt;
    goes_on = λ going. tt;
    jumps = tt;
    handles = λ range has here. no_range code range none has;
    handled = λ range has from below. no_range code range none has;
  },
  λ going. (k, i, state, at, going, found),
)

pub not_found : (code : Code) (number : ℕ) (i : Instruction) (k : Kinds)
    → StateBefore straight_signature code [] number k → slice_get code.instructions number ≡ Some i
    → after straight_signature code i k ≡ None → Holds straight_signature code [] number → ⊥
not_found code number i k state at none h =
    let same : h.before ≡ k = one_state straight_signature code [] number h.before k h.state state in
    let here : Some h.instruction ≡ Some i = sym h.at ∙ at in
    absurd cc

pub not_last : (code : Code) (number : ℕ) (i : Instruction)
    → slice_get code.instructions number ≡ Some i → suc number ≡ length code.instructions → ends i ≡ false
    → Holds straight_signature code [] number → ⊥
not_last code number i at last going h =
    let here : Some h.instruction ≡ Some i = sym h.at ∙ at in
    let ended : ends h.instruction ≡ true = h.last last in
    absurd cc

-- after an end no kinds stand
pub none_after : (code : Code) (number : ℕ) (i : Instruction) (k : Kinds)
    → slice_get code.instructions number ≡ Some i → ends i ≡ true → StateBefore straight_signature code [] (suc number) k → ⊥
none_after code number i k at ended h =
    let here : Some h.1 ≡ Some i = sym h.3 ∙ at in
    let going : ends h.1 ≡ false = h.4 in
    absurd cc

pub viewed_at : (method : StraightMethod) (number : ℕ) (action : Action) → slice_get method.actions.items number ≡ Some action
    → slice_get (code_view method).instructions number ≡ Some (action_view action)
viewed_at method number action h = slice_get-map action_view method.actions.items number ∙ ap (option_map action_view) h

-- the answer of the last instruction is whether it ends the run
pub last_answers : (b : Bool) (code : Code) (number : ℕ) (i : Instruction) (k left : Kinds) → code.ranges ≡ [] → b ≡ ends i
    → StateBefore straight_signature code [] number k → slice_get code.instructions number ≡ Some i
    → after straight_signature code i k ≡ Some left → length code.instructions ≤ number + 1
    → Answers b code number i left
last_answers true code number i k left none e state at found last = answers code number i k left none state at found (λ _. sym e)
last_answers false code number i k left none e state at found last =
    let within : number < length code.instructions = slice_get_within code.instructions number i at in
    not_last code number i at (omega arith) (sym e)

pub stands_next : (b : Bool) (code : Code) (number : ℕ) (i : Instruction) (k : Kinds) → b ≡ ends i
    → slice_get code.instructions number ≡ Some i → Answers true code number i k → StandsBefore b code (number + 1) k
stands_next true code number i k e at a =
    let n : number + 1 ≡ suc number = omega arith in
    λ other h. none_after code number i other at (sym e) (subst (λ (n : ℕ). StateBefore straight_signature code [] n other) n h)
stands_next false code number i k e at a =
    let n : suc number ≡ number + 1 = omega arith in
    subst (λ (n : ℕ). StateBefore straight_signature code [] n k) n (a.1 (sym e))
