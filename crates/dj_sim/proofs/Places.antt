-- Where the instructions of groups are, and which of them a range covers.
use Rattle.std.proofs.Common.{◌≡◌, ℕ, zero, suc, ◌+◌, ◌-◌, ◌<◌, ◌≤◌, ◌&&◌, ◌||◌, not, Bool, true, false, List, [], ◌∷◌, ◌++◌, length, map, Some, None, nat_le, nat_lt, slice_get, refl, sym, ap, ◌∙◌, inl, inr, arith}
use Rattle.std.specs.Option.{option_map}
use Rattle.std.specs.List.{list_any}
use Rattle.std.proofs.lemmas.List.{length-map}
use Rattle.std.proofs.lemmas.Bool.Decides.{nat_tests}
use Rattle.dj_groups.specs.Groups.{Inserted, Own, Group, inserted, group_at, plain_group, start, own, cut, pieces, spelled, regrouped}
use Rattle.dj_groups.specs.Rewritten.{inserted_instruction}
use Rattle.dj_groups.specs.Laws.{is_in}
use Rattle.dj_sim.specs.Simulation.{part_at}
use Rattle.dj_groups.proofs.GroupLaws.{own_next, at_group, in_pieces, rises_to}
use Rattle.dj_groups.proofs.WellFormed.{length_regrouped}
pub use Rattle.dj_groups.proofs.GroupLaws.{either}

-- ---- lists

pub past : {A : Type 0} (xs ys : List A) (n : ℕ) → slice_get (xs ++ ys) (length xs + n) ≡ slice_get ys n
past [] ys n = let e : 0 + n ≡ n = omega arith in ap (slice_get ys) e
past (x ∷ xs) ys n = let e : suc (length xs) + n ≡ suc (length xs + n) = omega arith in ap (slice_get (x ∷ xs ++ ys)) e ∙ past xs ys n

before : {A : Type 0} (xs ys : List A) (n : ℕ) → n < length xs → slice_get (xs ++ ys) n ≡ slice_get xs n
before [] ys n e = absurd (omega (arith, e))
before (x ∷ xs) ys zero e = refl
before (x ∷ xs) ys (suc n) e = before xs ys n (omega (arith, e))

nothing_past : {A : Type 0} (xs : List A) (n : ℕ) → length xs ≤ n → slice_get xs n ≡ None
nothing_past [] n e = refl
nothing_past (x ∷ xs) zero e = absurd (omega (arith, e))
nothing_past (x ∷ xs) (suc n) e = nothing_past xs n (omega (arith, e))

pub something_within : {A : Type 0} (xs : List A) (n : ℕ) → n < length xs → (x : A) × (slice_get xs n ≡ Some x)
something_within [] n e = absurd (omega (arith, e))
something_within (x ∷ xs) zero e = (x, refl)
something_within (x ∷ xs) (suc n) e = something_within xs n (omega (arith, e))

-- ---- numbers

-- past the end each group is of one instruction
pub plain_past : (gs : List Group) (k : ℕ) → length gs ≤ k → group_at gs k ≡ plain_group
plain_past [] k e = refl
plain_past (g ∷ gs) zero e = absurd (omega (arith, e))
plain_past (g ∷ gs) (suc k) e = plain_past gs k (omega (arith, e))

-- after the instruction the next one's group begins
pub next_start : (gs : List Group) (k : ℕ) → own gs k + 1 ≡ start gs (suc k)
next_start gs k = omega (arith, own_next gs k)

pub starts_follow : (gs : List Group) (a b : ℕ) → a ≤ b → start gs a ≤ start gs b
starts_follow gs a b l = rises_to gs a b l

-- an instruction itself is after all that comes before it
pub own_follows : (gs : List Group) (a b : ℕ) → a < b → own gs a < start gs b
own_follows gs a b l = omega (arith, own_next gs a, rises_to gs (suc a) b l)

-- the instruction itself comes after what is inserted
pub own_is : (gs : List Group) (k : ℕ) → own gs k ≡ start gs k + length (part_at gs k)
own_is gs k = omega (arith, length-map (inserted (group_at gs k)) inserted_instruction)

-- ---- instructions

module _ {I : Type 0} (spell : Inserted → I) (become : Own → I → I) where
  -- the instruction itself
  pub own_at : (gs : List Group) (is : List I) → length gs ≡ length is → (k : ℕ)
      → slice_get (regrouped spell become gs is) (own gs k) ≡ option_map (become (group_at gs k).own) (slice_get is k)
  own_at gs is e k = elim (either (nat_lt k (length gs))) [
    | inl l ↦ within (grind (arith, nat_tests, l))
    | inr l ↦ outside (grind (arith, nat_tests, l))
  ] where
    within : k < length gs → slice_get (regrouped spell become gs is) (own gs k) ≡ option_map (become (group_at gs k).own) (slice_get is k)
    within l =
        let there : (i : I) × (slice_get is k ≡ Some i) = something_within is k (omega (arith, l, e)) in
        let g : Group = group_at gs k in
        let n : length (inserted g) ≡ length (map spell (inserted g)) + 0 = omega (arith, length-map (inserted g) spell) in
        at_group spell become gs is k (length (inserted g)) there.0 l there.1 (omega arith)
        ∙ (ap (slice_get (spelled spell become (g, there.0))) n ∙ (past (map spell (inserted g)) (become g.own there.0 ∷ []) 0 ∙ sym (ap (option_map (become g.own)) there.1)))

    outside : length gs ≤ k → slice_get (regrouped spell become gs is) (own gs k) ≡ option_map (become (group_at gs k).own) (slice_get is k)
    outside l =
        nothing_past (regrouped spell become gs is) (own gs k) (omega (arith, length_regrouped spell become gs is e, rises_to gs (length gs) k l))
        ∙ sym (ap (option_map (become (group_at gs k).own)) (nothing_past is k (omega (arith, e, l))))

  -- what is inserted before it
  pub inserted_at : (gs : List Group) (is : List I) → length gs ≡ length is → (k j : ℕ) → j < length (map spell (inserted (group_at gs k)))
      → slice_get (regrouped spell become gs is) (start gs k + j) ≡ slice_get (map spell (inserted (group_at gs k))) j
  inserted_at gs is e k j inside = elim (either (nat_lt k (length gs))) [
    | inl l ↦ within (grind (arith, nat_tests, l))
    | inr l ↦ absurd (omega (arith, inside, ap (λ (g : Group). length (map spell (inserted g))) (plain_past gs k (grind (arith, nat_tests, l)))))
  ] where
    within : k < length gs → slice_get (regrouped spell become gs is) (start gs k + j) ≡ slice_get (map spell (inserted (group_at gs k))) j
    within l =
        let there : (i : I) × (slice_get is k ≡ Some i) = something_within is k (omega (arith, l, e)) in
        let g : Group = group_at gs k in
        at_group spell become gs is k j there.0 l there.1 (omega (arith, inside, length-map (inserted g) spell))
        ∙ before (map spell (inserted g)) (become g.own there.0 ∷ []) j inside

-- ---- ranges

-- a number is in one of these pieces
abbrev pub are_over : List (ℕ × ℕ) → ℕ → Bool
are_over ps n = list_any (is_in n) ps

-- a range without instructions has no pieces
no_pieces : (gs : List Group) (from end : ℕ) → end ≤ from → pieces gs from end ≡ []
unfolding cut
no_pieces gs from end l =
    let e : end - from ≡ 0 = omega (arith, l) in
    let f : nat_lt (start gs from) (start gs from) ≡ false = grind (arith, nat_tests) in
    let g : nat_lt (start gs from) (start gs (from + 0)) ≡ false = grind (arith, nat_tests) in
    rw (e, f) refl

-- an instruction itself is in one of the pieces exactly where it was in the range
pub pieces_over_own : (gs : List Group) (from end k : ℕ) → are_over (pieces gs from end) (own gs k) ≡ nat_le from k && nat_lt k end
pieces_over_own gs from end k = elim (either (nat_lt from end)) [
  | inl l ↦ in_pieces gs from end k (length (inserted (group_at gs k))) (grind (arith, nat_tests, l)) (omega arith) ∙ kept (nat_le from k && nat_lt k end) (group_at gs k).arrives
  | inr l ↦ ap (λ ps. are_over ps (own gs k)) (no_pieces gs from end (grind (arith, nat_tests, l))) ∙ none (nat_le from k) (nat_lt k end) refl refl (grind (arith, nat_tests, l))
] where
  itself : nat_le (length (inserted (group_at gs k))) (length (inserted (group_at gs k))) ≡ true
  itself = grind (arith, nat_tests)

  kept : (a b : Bool) → a && (not b || nat_le (length (inserted (group_at gs k))) (length (inserted (group_at gs k)))) ≡ a
  kept true true = itself
  kept true false = refl
  kept false b = refl

  none : (a b : Bool) → nat_le from k ≡ a → nat_lt k end ≡ b → end ≤ from → false ≡ a && b
  none true true x y l = absurd (grind (arith, nat_tests, x, y, l))
  none true false x y l = refl
  none false b x y l = refl

-- what is inserted before the first instruction of a handler is in no piece of any range
pub pieces_not_over : (gs : List Group) (from end h n : ℕ) → (group_at gs h).arrives ≡ true → start gs h ≤ n → n < own gs h → are_over (pieces gs from end) n ≡ false
pieces_not_over gs from end h n first low high = elim (either (nat_lt from end)) [
  | inl l ↦
      let e : n ≡ start gs h + (n - start gs h) = omega (arith, low) in
      let short : nat_le (length (inserted (group_at gs h))) (n - start gs h) ≡ false = grind (arith, nat_tests, low, high) in
      ap (λ (m : ℕ). are_over (pieces gs from end) m) e
      ∙ (in_pieces gs from end h (n - start gs h) (grind (arith, nat_tests, l)) (omega (arith, low, high)) ∙ (ap (λ (b : Bool). is_in h (from, end) && b) (falls (group_at gs h).arrives (nat_le (length (inserted (group_at gs h))) (n - start gs h)) first short) ∙ none (is_in h (from, end))))
  | inr l ↦ ap (λ ps. are_over ps n) (no_pieces gs from end (grind (arith, nat_tests, l)))
] where
  none : (a : Bool) → a && false ≡ false
  none true = refl
  none false = refl

  falls : (b c : Bool) → b ≡ true → c ≡ false → not b || c ≡ false
  falls b c x y = rw (x, y) refl
