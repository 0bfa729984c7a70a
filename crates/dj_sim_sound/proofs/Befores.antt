-- The kinds before each instruction of rewritten code.
use Rattle.std.proofs.Common.{◌≡◌, ℕ, ℤ, zero, suc, ◌+◌, ◌<◌, ◌≤◌, Bool, true, false, List, [], ◌∷◌, ◌++◌, map, length, Option, Some, None, nat_eq, nat_lt, nat_le, slice_get, refl, sym, ap, subst, ◌∙◌, inl, inr, arith}
use Rattle.std.specs.Option.{option_map}
use Rattle.std.proofs.lemmas.Bool.Decides.{nat_tests}
use Rattle.dj_names.specs.declared.descriptor.Kind.{Kind}
use Rattle.dj_model.specs.trusted.Instructions.{Instruction, Switch, Monitor, ends, targets, makes_uninitialised}
use Rattle.dj_model.specs.trusted.Program.{Program, Code}
use Rattle.dj_model.specs.trusted.Linking.{or_else}
use Rattle.dj_model.specs.trusted.Kinds.{Signature, Kinds, Placed, placed_at}
use Rattle.dj_model.specs.trusted.Shape.{HoldsAt, first_kinds, after, goes_on_with, state_before}
use Rattle.dj_groups.specs.Groups.{Group, groups_of, start, own}
use Rattle.dj_groups.specs.Rewritten.{in_groups, rewritten_code}
use Rattle.dj_groups.proofs.GroupLaws.{start_zero}
use Rattle.dj_sim.specs.Simulation.{part_at}
use Rattle.dj_sim.proofs.Places.{either, own_is, next_start, starts_follow, own_follows}
use Rattle.dj_sim.proofs.Acts.{moved_to, regrouped_instruction, itself_at, part_there}
use Rattle.dj_sim_sound.proofs.Shapes.{after_more}

module _ (gs : List Group) where
  abbrev pub at_start : Placed → Placed
  at_start p = record p { at = start gs p.at }

  pub same_start : (a k : ℕ) → nat_eq (start gs a) (start gs k) ≡ nat_eq a k
  same_start a k = elim (either (nat_lt a k)) [
    | inl e ↦ let l : a < k = grind (arith, nat_tests, e) in no (grind (arith, nat_tests, own_follows gs a k l)) (grind (arith, nat_tests, l))
    | inr e ↦ elim (either (nat_lt k a)) [
      | inl d ↦ let l : k < a = grind (arith, nat_tests, d) in no (grind (arith, nat_tests, own_follows gs k a l)) (grind (arith, nat_tests, l))
      | inr d ↦ let same : a ≡ k = grind (arith, nat_tests, e, d) in let there : start gs a ≡ start gs k = ap (start gs) same in yes (grind (arith, nat_tests, there)) (grind (arith, nat_tests, same))
    ]
  ] where
    no : {x y : Bool} → x ≡ false → y ≡ false → x ≡ y
    no p q = p ∙ sym q

    yes : {x y : Bool} → x ≡ true → y ≡ true → x ≡ y
    yes p q = p ∙ sym q

  pub placed_start : (placed : List Placed) (k : ℕ) → placed_at (map at_start placed) (start gs k) ≡ placed_at placed k
  placed_start [] k = refl
  placed_start (p ∷ placed) k = rw (same_start p.at k, placed_start placed k) refl

  -- no group starts inside another
  pub not_start : (h k j : ℕ) → 0 < j → start gs k + j < start gs (suc k) → nat_eq (start gs h) (start gs k + j) ≡ false
  not_start h k j l m = elim (either (nat_le h k)) [
    | inl e ↦ grind (arith, nat_tests, l, starts_follow gs h k (grind (arith, nat_tests, e)))
    | inr e ↦ grind (arith, nat_tests, m, starts_follow gs (suc k) h (grind (arith, nat_tests, e)))
  ]

  -- nothing that is inserted has a frame, but the first
  pub placed_inside : (placed : List Placed) (k j : ℕ) → 0 < j → start gs k + j < start gs (suc k) → placed_at (map at_start placed) (start gs k + j) ≡ None
  placed_inside [] k j l m = refl
  placed_inside (p ∷ placed) k j l m = rw (not_start p.at k j l m, placed_inside placed k j l m) refl

-- ---- instructions that are passed

-- the instruction goes on with the next one, jumps nowhere and leaves the local variables as they are
pub record PassesOne (signature : Signature) (code : Code) (i : Instruction) (before left : Kinds) : Type 0 where
  pub on : ends i ≡ false
  pub still : targets i ≡ []
  pub found : after signature code i before ≡ Some left
  pub locals : left.locals ≡ before.locals

-- so does each of these, one after the other
abbrev pub PassesAll : Signature → Code → List Instruction → Kinds → Kinds → Type 0
PassesAll signature code [] before left = before ≡ left
PassesAll signature code (i ∷ is) before left = (next : Kinds) × PassesOne signature code i before next × PassesAll signature code is next left

pub passes_both : (signature : Signature) (code : Code) (xs ys : List Instruction) (a b c : Kinds) → PassesAll signature code xs a b → PassesAll signature code ys b c
    → PassesAll signature code (xs ++ ys) a c
passes_both signature code [] ys a b c p q = subst (λ (k : Kinds). PassesAll signature code ys k c) (sym p) q
passes_both signature code (x ∷ xs) ys a b c (next, one, p) q = (next, one, passes_both signature code xs ys next b c p q)

-- these stand from the number n on, and no frame stands after the first of them
pub record StandsFrom (code : Code) (placed : List Placed) (is : List Instruction) (n : ℕ) : Type 0 where
  pub there : (j : ℕ) → j < length is → slice_get code.instructions (n + j) ≡ slice_get is j
  pub none : (j : ℕ) → 0 < j → j ≤ length is → placed_at placed (n + j) ≡ None

-- what stands at a number, and leaves these local variables as they are
pub record PassedAt (signature : Signature) (code : Code) (placed : List Placed) (n : ℕ) (locals : List (Option Kind)) : Type 0 where
  pub instruction : Instruction
  pub before : Kinds
  pub left : Kinds
  pub state : state_before signature code placed n ≡ Some before
  pub at : slice_get code.instructions n ≡ Some instruction
  pub passes : PassesOne signature code instruction before left
  pub kept : before.locals ≡ locals

module _ (signature : Signature) (code : Code) (placed : List Placed) where
  first_there : (i : Instruction) (is : List Instruction) (n : ℕ) → StandsFrom code placed (i ∷ is) n → slice_get code.instructions n ≡ Some i
  first_there i is n s = let e : n + 0 ≡ n = omega arith in sym (ap (slice_get code.instructions) e) ∙ s.there 0 (omega arith)

  stands_next : (i : Instruction) (is : List Instruction) (n : ℕ) → StandsFrom code placed (i ∷ is) n → StandsFrom code placed is (suc n)
  stands_next i is n s = record {
    there = λ j l. let d : suc n + j ≡ n + suc j = omega arith in ap (slice_get code.instructions) d ∙ s.there (suc j) (omega (arith, l));
    none = λ j l m. let d : suc n + j ≡ n + suc j = omega arith in ap (placed_at placed) d ∙ s.none (suc j) (omega (arith, l)) (omega (arith, m));
  }

  next_state : (i : Instruction) (is : List Instruction) (n : ℕ) (before next : Kinds) → StandsFrom code placed (i ∷ is) n → state_before signature code placed n ≡ Some before
      → PassesOne signature code i before next → state_before signature code placed (suc n) ≡ Some next
  unfolding state_before
  next_state i is n before next s state one =
      let e : n + 1 ≡ suc n = omega arith in
      rw (sym (ap (placed_at placed) e) ∙ s.none 1 (omega arith) (omega arith), state, first_there i is n s, one.on) one.found

  pub passed_at : (is : List Instruction) (n : ℕ) (before left : Kinds) → StandsFrom code placed is n → state_before signature code placed n ≡ Some before
      → PassesAll signature code is before left → (j : ℕ) → j < length is → PassedAt signature code placed (n + j) before.locals
  passed_at [] n before left s state p j l = absurd (omega (arith, l))
  passed_at (i ∷ is) n before left s state (next, one, p) zero l =
      let e : n ≡ n + 0 = omega arith in
      let here : PassedAt signature code placed n before.locals =
      record { instruction = i; before = before; left = next; state = state; at = first_there i is n s; passes = one; kept = refl } in
      subst (λ (m : ℕ). PassedAt signature code placed m before.locals) e here
  passed_at (i ∷ is) n before left s state (next, one, p) (suc j) l =
      let e : suc n + j ≡ n + suc j = omega arith in
      subst (λ (m : ℕ). PassedAt signature code placed m before.locals) e
      (subst (PassedAt signature code placed (suc n + j)) one.locals
      (passed_at is (suc n) next left (stands_next i is n s) (next_state i is n before next s state one) p j (omega (arith, l))))

  pub passed_all : (is : List Instruction) (n : ℕ) (before left : Kinds) → StandsFrom code placed is n → state_before signature code placed n ≡ Some before
      → PassesAll signature code is before left → state_before signature code placed (n + length is) ≡ Some left
  passed_all [] n before left s state p = let e : n + 0 ≡ n = omega arith in ap (state_before signature code placed) e ∙ (state ∙ ap Some p)
  passed_all (i ∷ is) n before left s state (next, one, p) =
      let e : n + suc (length is) ≡ suc n + length is = omega arith in
      ap (state_before signature code placed) e ∙ passed_all is (suc n) next left (stands_next i is n s) (next_state i is n before next s state one) p

-- ---- the instruction itself

pub ends_alike : (place : ℕ → ℕ) (i : Instruction) → ends (moved_to place i) ≡ ends i
ends_alike place Monitor = refl
ends_alike place i = refl

pub makes_alike : (place : ℕ → ℕ) (i : Instruction) → makes_uninitialised (moved_to place i) ≡ makes_uninitialised i
makes_alike place Monitor = refl
makes_alike place i = refl

pub targets_moved : (place : ℕ → ℕ) (i : Instruction) → targets (moved_to place i) ≡ map place (targets i)
targets_moved place (Switch pairs default) = ap (λ (ts : List ℕ). place default ∷ ts) (each pairs) where
  each : (pairs : List (ℤ × ℕ)) → map (λ (pair : ℤ × ℕ). pair.1) (map (λ (pair : ℤ × ℕ). (pair.0, place pair.1)) pairs) ≡ map place (map (λ (pair : ℤ × ℕ). pair.1) pairs)
  each [] = refl
  each (pair ∷ pairs) = ap (λ (ts : List ℕ). place pair.1 ∷ ts) (each pairs)
targets_moved place Monitor = refl
targets_moved place i = refl

-- ---- the kinds where a group starts are those before the instruction

module _ (signature : Signature) (program : Program) (code : Code) (placed : List Placed) where
  abbrev gs : List Group
  gs = groups_of program code

  abbrev code_now : Code
  code_now = rewritten_code program code

  abbrev placed_now : List Placed
  placed_now = map (at_start (groups_of program code)) placed

  -- what is inserted stands from the group's start on
  pub stands_group : (k : ℕ) → StandsFrom code_now placed_now (part_at gs k) (start gs k)
  stands_group k = record {
    there = λ j m. part_there program code k j m;
    none = λ j m n. placed_inside gs placed k j m (omega (arith, n, next_start gs k, own_is gs k));
  }

  module _ (holds : (k : ℕ) → k < length code.instructions → HoldsAt signature code placed k)
      (passes : (k : ℕ) (b : Kinds) → k < length code.instructions → state_before signature code placed k ≡ Some b → PassesAll signature code_now (part_at gs k) b b) where
    pub own_before : (k : ℕ) → k < length code.instructions → state_before signature code_now placed_now (start gs k) ≡ state_before signature code placed k
        → state_before signature code_now placed_now (own gs k) ≡ state_before signature code placed k
    own_before k l same =
        let h : HoldsAt signature code placed k = holds k l in
        ap (state_before signature code_now placed_now) (own_is gs k)
        ∙ (passed_all signature code_now placed_now (part_at gs k) (start gs k) h.before h.before (stands_group k) (same ∙ h.state) (passes k h.before l h.state) ∙ sym h.state)

    pub start_before : (k : ℕ) → k < length code.instructions → state_before signature code_now placed_now (start gs k) ≡ state_before signature code placed k
    unfolding state_before rewritten_code in_groups
    start_before zero l = ap (state_before signature code_now placed_now) (start_zero gs)
        ∙ ap (λ found. or_else found (Some (first_kinds signature code))) (sym (ap (placed_at placed_now) (start_zero gs)) ∙ placed_start gs placed 0)
    start_before (suc k) l = next (holds k (omega (arith, l))) (own_before k (omega (arith, l)) (start_before k (omega (arith, l)))) where
      next : (h : HoldsAt signature code placed k) → state_before signature code_now placed_now (own gs k) ≡ state_before signature code placed k
          → state_before signature code_now placed_now (start gs (suc k)) ≡ or_else (placed_at placed (suc k)) (goes_on_with signature code (state_before signature code placed k) (slice_get code.instructions k))
      next h before =
          let e : start gs (suc k) ≡ suc (own gs k) = omega (arith, next_start gs k) in
          let there : slice_get code_now.instructions (own gs k) ≡ Some (regrouped_instruction gs h.instruction) =
          itself_at program code k ∙ ap (option_map (regrouped_instruction gs)) h.at in
          ap (state_before signature code_now placed_now) e
          ∙ rw (
            sym (ap (placed_at placed_now) e) ∙ placed_start gs placed (suc k),
            before,
            h.state,
            h.at,
            there,
            ends_alike (start gs) h.instruction,
            after_more signature code code_now (omega arith) refl (start gs) h.instruction h.before h.left h.found,
            h.found,
          ) refl
