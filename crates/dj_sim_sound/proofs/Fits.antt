-- The operands before each instruction fit in the code's, where those of each frame do.
use Rattle.std.proofs.Common.{◌≡◌, ℕ, zero, suc, ◌+◌, ◌≤◌, ◌&&◌, Bool, true, false, List, [], ◌∷◌, ◌++◌, length, reverse, Option, Some, None, nat_eq, nat_lt, nat_le, slice_get, refl, sym, ap, subst, ◌∙◌, if◌then◌else◌, inl, inr, arith}
use Rattle.std.specs.List.{AllByRecursion}
use Rattle.std.specs.Option.{option_map}
use Rattle.std.proofs.lemmas.Bool.Decides.{nat_tests}
use Rattle.std.proofs.lemmas.Grind.{reverse_onto}
use Rattle.dj_names.specs.declared.descriptor.Kind.{Kind}
use Rattle.dj_names.specs.declared.descriptor.Kind.TheVariants as kinds
use Rattle.dj_names.specs.trusted.Types.{field_kind}
use Rattle.dj_names.specs.trusted.Values.{value_kind}
use Rattle.dj_model.specs.trusted.Instructions.{Instruction, Nop, Push, PushText, Load, Store, Increment, LoadElement, StoreElement, Move, Compute, Convert, Branch, Goto, Switch, Return, GetStatic, PutStatic, GetField, PutField, Invoke, New, NewArray, ArrayLength, Throw, CheckCast, InstanceOf, Monitor, Other, ends}
use Rattle.dj_model.specs.trusted.Program.{Code}
use Rattle.dj_model.specs.trusted.Linking.{or_else}
use Rattle.dj_model.specs.trusted.Numbers.{is_wide, left_kind, right_kind, given_kind, taken_kind, converted_kind, tested_kinds}
use Rattle.dj_model.specs.trusted.Arrays.{access_kind}
use Rattle.dj_model.specs.trusted.Values.{last_slot, moved, stored}
use Rattle.dj_model.specs.trusted.Kinds.{Signature, signature_of, Kinds, depth, entry_slots, fitting, Placed, placed_at}
use Rattle.dj_model.specs.trusted.Shape.{taken, leaving, with_result, result_list, store_kind, get_kind, put_kind, counts, is_static_mode, call_kinds, after, first_kinds, goes_on_with, state_before}
use Rattle.dj_model.proofs.MappedNames.{either}
use Rattle.dj_model.proofs.Standing.{some_if}
use Rattle.dj_model.proofs.SoundLinks.{both_parts}

abbrev pub Fits : Code → Kinds → Type 0
Fits code k = depth k.stack ≤ code.max_stack

-- ---- what a frame declares fits

depth_append : (a b : List Kind) → depth (a ++ b) ≡ depth a + depth b
depth_append [] b = omega arith
depth_append (k ∷ a) b = let rest = depth_append a b in omega (arith, rest)

depth_reverse : (stack : List Kind) → depth (reverse stack) ≡ depth stack
depth_reverse [] = refl
depth_reverse (k ∷ stack) =
    let rest : depth (reverse stack) ≡ depth stack = depth_reverse stack in
    ap depth (reverse_onto stack k []) ∙ (depth_append (reverse stack) (k ∷ []) ∙ omega (arith, rest))

pub fitting_fits : (code : Code) (locals : List (Option Kind)) (stack : Option (List Kind)) (k : Kinds) → fitting code locals stack ≡ Some k → Fits code k
fitting_fits code locals None k e = absurd cc
fitting_fits code locals (Some stack) k e =
    let few = nat_le (length (entry_slots locals)) code.max_locals in
    let p = some_if (few && nat_le (depth stack) code.max_stack) _ k e in
    let f = both_parts few (nat_le (depth stack) code.max_stack) p.0 in
    let le : depth stack ≤ code.max_stack = grind (arith, nat_tests, f.1) in
    let same : Some (reverse stack) ≡ Some k.stack = ap (option_map (λ (j : Kinds). j.stack)) p.1 in
    let is : reverse stack ≡ k.stack = cc in
    let deep : depth k.stack ≡ depth stack = ap depth (sym is) ∙ depth_reverse stack in
    omega (arith, le, deep)

pub placed_fits : (code : Code) (placed : List Placed) → AllByRecursion (λ (p : Placed). Fits code p.kinds) placed
    → (number : ℕ) (reported : Kinds) → placed_at placed number ≡ Some reported → Fits code reported
placed_fits code [] all number reported e = absurd cc
placed_fits code (p ∷ placed) all number reported e = elim (either (nat_eq p.at number)) [
  | inl here ↦ let same : Some p.kinds ≡ Some reported = rw here at e in
      let is : p.kinds ≡ reported = cc in subst (Fits code) is all.0
  | inr later ↦ placed_fits code placed all.1 number reported (rw later at e)
]

-- ---- what an instruction leaves fits

leaving_fits : (code : Code) (locals : List (Option Kind)) (stack : Option (List Kind)) (left : Kinds) → leaving code locals stack ≡ Some left → Fits code left
leaving_fits code locals None left e = absurd cc
leaving_fits code locals (Some stack) left e =
    let p = some_if (nat_le (depth stack) code.max_stack) (Some (record { locals = locals; stack = stack })) left e in
    let some : Some (record { locals = locals; stack = stack }) ≡ Some left = p.1 in
    let same : record { locals = locals; stack = stack } ≡ left = cc in
    let le : depth stack ≤ code.max_stack = grind (arith, nat_tests, p.0) in
    subst (Fits code) same le

module _ (code : Code) (k : Kinds) where
  gives_fits : (wanted : List Kind) (result : Option Kind) (left : Kinds) → leaving code k.locals (with_result result (taken wanted k.stack)) ≡ Some left → Fits code left
  gives_fits wanted result left e = leaving_fits code k.locals (with_result result (taken wanted k.stack)) left e

  store_fits : (kind : Kind) (slot : ℕ) (o : Option Kinds) (left : Kinds) → ((before : Kinds) → o ≡ Some before → Fits code before) → store_kind code kind slot o ≡ Some left → Fits code left
  store_fits kind slot None left fits e = absurd cc
  store_fits kind slot (Some before) left fits e =
      let p = some_if (nat_lt (last_slot (is_wide kind) slot) code.max_locals) (Some (record before { locals = stored is_wide before.locals slot kind })) left e in
      let some : Some (record before { locals = stored is_wide before.locals slot kind }) ≡ Some left = p.1 in
      let same : record before { locals = stored is_wide before.locals slot kind } ≡ left = cc in
      subst (Fits code) same (fits before refl)

  get_fits : (wanted : List Kind) (kind : Option Kind) (left : Kinds) → get_kind code k wanted kind ≡ Some left → Fits code left
  get_fits wanted None left e = absurd cc
  get_fits wanted (Some kind) left e = gives_fits wanted (Some kind) left e

  put_fits : (wanted : List Kind) (kind : Option Kind) (left : Kinds) → put_kind code k wanted kind ≡ Some left → Fits code left
  put_fits wanted None left e = absurd cc
  put_fits wanted (Some kind) left e = gives_fits (kind ∷ wanted) None left e

  call_fits : (signature : Option Signature) (left : Kinds) → call_kinds code k signature ≡ Some left → Fits code left
  call_fits None left e = absurd cc
  call_fits (Some s) left e = leaving_fits code k.locals _ left e

  after_fits : (signature : Signature) (i : Instruction) (left : Kinds) → after signature code i k ≡ Some left → Fits code left
  unfolding after
  after_fits signature Nop left e = gives_fits [] None left e
  after_fits signature (Push v) left e = gives_fits [] (Some (value_kind v)) left e
  after_fits signature (PushText units) left e = gives_fits [] (Some kinds.Ref) left e
  after_fits signature (Load kind slot) left e = gives_fits [] (Some kind) left (some_if _ _ left e).1
  after_fits signature (Store kind slot) left e = store_fits kind slot _ left (λ before is. gives_fits (kind ∷ []) None before is) e
  after_fits signature (Increment slot by) left e = gives_fits [] None left (some_if _ _ left e).1
  after_fits signature (LoadElement access) left e = gives_fits (kinds.Int ∷ kinds.Ref ∷ []) (Some (access_kind access)) left e
  after_fits signature (StoreElement access) left e = gives_fits (access_kind access ∷ kinds.Int ∷ kinds.Ref ∷ []) None left e
  after_fits signature (Move operation) left e = leaving_fits code k.locals (moved is_wide operation k.stack) left e
  after_fits signature (Compute operation) left e = gives_fits (right_kind operation ∷ left_kind operation ∷ []) (Some (given_kind operation)) left e
  after_fits signature (Convert operation) left e = gives_fits (taken_kind operation ∷ []) (Some (converted_kind operation)) left e
  after_fits signature (Branch test target) left e = gives_fits (tested_kinds test) None left e
  after_fits signature (Goto target) left e = gives_fits [] None left e
  after_fits signature (Switch pairs default) left e = gives_fits (kinds.Int ∷ []) None left e
  after_fits signature (Return kind) left e = gives_fits (result_list kind) None left (some_if _ _ left e).1
  after_fits signature (GetStatic m) left e = get_fits [] (field_kind m.desc) left e
  after_fits signature (PutStatic m) left e = put_fits [] (field_kind m.desc) left e
  after_fits signature (GetField m) left e = get_fits (kinds.Ref ∷ []) (field_kind m.desc) left e
  after_fits signature (PutField m) left e = put_fits (kinds.Ref ∷ []) (field_kind m.desc) left e
  after_fits signature (Invoke mode m) left e = call_fits (signature_of (is_static_mode mode) m.desc) left (some_if (counts mode m.desc) _ left e).1
  after_fits signature (New class) left e = gives_fits [] (Some kinds.Ref) left e
  after_fits signature (NewArray class element) left e = gives_fits (kinds.Int ∷ []) (Some kinds.Ref) left e
  after_fits signature ArrayLength left e = gives_fits (kinds.Ref ∷ []) (Some kinds.Int) left e
  after_fits signature Throw left e = gives_fits (kinds.Ref ∷ []) None left e
  after_fits signature (CheckCast class) left e = gives_fits (kinds.Ref ∷ []) (Some kinds.Ref) left e
  after_fits signature (InstanceOf class) left e = gives_fits (kinds.Ref ∷ []) (Some kinds.Int) left e
  after_fits signature Monitor left e = gives_fits (kinds.Ref ∷ []) None left e
  after_fits signature (Other op named) left e = absurd cc

-- ---- and so what is before each instruction

module _ (signature : Signature) (code : Code) (placed : List Placed) (fits : (number : ℕ) (reported : Kinds) → placed_at placed number ≡ Some reported → Fits code reported) where
  on_fits : (before : Option Kinds) (i : Option Instruction) (k : Kinds) → goes_on_with signature code before i ≡ Some k → Fits code k
  on_fits None None k e = absurd cc
  on_fits None (Some i) k e = absurd cc
  on_fits (Some before) None k e = absurd cc
  on_fits (Some before) (Some i) k e = by (ends i) e where
    by : (b : Bool) → (if b then None else after signature code i before) ≡ Some k → Fits code k
    by true e = absurd cc
    by false e = after_fits code before signature i k e

  or_fits : (a b : Option Kinds) (k : Kinds) → ((j : Kinds) → a ≡ Some j → Fits code j) → ((j : Kinds) → b ≡ Some j → Fits code j) → or_else a b ≡ Some k → Fits code k
  or_fits None b k x y e = y k e
  or_fits (Some a) b k x y e = x k e

  first_fits : (k : Kinds) → Some (first_kinds signature code) ≡ Some k → Fits code k
  first_fits k e =
      let same : first_kinds signature code ≡ k = cc in
      let none : 0 ≤ code.max_stack = omega arith in
      subst (Fits code) same none

  pub state_fits : (number : ℕ) (k : Kinds) → state_before signature code placed number ≡ Some k → Fits code k
  unfolding state_before
  state_fits zero k e = or_fits (placed_at placed zero) (Some (first_kinds signature code)) k (fits zero) first_fits e
  state_fits (suc n) k e =
      or_fits (placed_at placed (suc n)) (goes_on_with signature code (state_before signature code placed n) (slice_get code.instructions n)) k (fits (suc n))
      (on_fits (state_before signature code placed n) (slice_get code.instructions n)) e
