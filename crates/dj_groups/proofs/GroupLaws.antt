-- Where the instructions of groups stand, and what becomes of them under a map.
use Rattle.std.proofs.Common.{◌≡◌, ℕ, zero, suc, ◌+◌, ◌-◌, ◌<◌, ◌≤◌, Bool, true, false, List, [], ◌∷◌, ◌++◌, map, length, Some, slice_get, refl, sym, ap, subst, ◌∙◌, arith, length-append, ◌⊎◌, inl, inr, filter, nat_lt, nat_le, ◌&&◌, ◌||◌, not, if◌then◌else◌}
use Rattle.std.proofs.lemmas.List.{map-append}
use Rattle.std.proofs.lemmas.Bool.Decides.{nat_tests}
use Rattle.std.proofs.lemmas.Bool.{lt-ltb, le-ltb, leb-true, leb-false}
use Rattle.std.proofs.lemmas.Map.Views.{any-filter_same}
use Rattle.std.specs.List.{list_any, AllByRecursion}
use Rattle.dj_groups.specs.Groups.{Inserted, Own, Group, inserted, size, start, group_at, own, cut, is_some_range, pieces, spelled, regrouped}
use Rattle.dj_groups.specs.Laws.{is_in, keeps}

pub either : (b : Bool) → (b ≡ true) ⊎ (b ≡ false)
either true = inl refl
either false = inr refl

-- ---- numbers

pub start_zero : (gs : List Group) → start gs zero ≡ 0
unfolding start
start_zero [] = refl
start_zero (g ∷ gs) = refl

-- the group after comes right after the instruction itself
pub start_next : (gs : List Group) (k : ℕ) → start gs (suc k) ≡ start gs k + size (group_at gs k)
unfolding start
start_next [] k = omega arith
start_next (g ∷ gs) zero = omega (arith, start_zero gs)
start_next (g ∷ gs) (suc k) = omega (arith, start_next gs k)

pub own_next : (gs : List Group) (k : ℕ) → start gs (suc k) ≡ suc (own gs k)
own_next gs k = omega (arith, start_next gs k)

-- ---- maps

-- a map of the instructions that knows what is inserted, and what becomes of each instruction, is one of the instructions before
module _ {I J : Type 0} (spell : Inserted → I) (become : Own → I → I) (spells : Inserted → J) (becomes : Own → J → J) (h k : I → J)
    (same_spell : (x : Inserted) → h (spell x) ≡ spells x) where
  abbrev pub Becomes : I → Type 0
  Becomes i = (o : Own) → h (become o i) ≡ becomes o (k i)

  map_spelled : (xs : List Inserted) → map h (map spell xs) ≡ map spells xs
  map_spelled [] = refl
  map_spelled (x ∷ xs) = rw (same_spell x, map_spelled xs) refl

  pub map_regrouped : (gs : List Group) (is : List I) → AllByRecursion Becomes is → map h (regrouped spell become gs is) ≡ regrouped spells becomes gs (map k is)
  map_regrouped [] is each = refl
  map_regrouped (g ∷ gs) [] each = refl
  map_regrouped (g ∷ gs) (i ∷ is) each =
      map-append h (map spell (inserted g) ++ become g.own i ∷ []) (regrouped spell become gs is)
      ∙ ap (λ (x : List J). x ++ map h (regrouped spell become gs is)) (map-append h (map spell (inserted g)) (become g.own i ∷ []))
      ∙ rw (map_spelled (inserted g), each.0 g.own, map_regrouped gs is each.1) refl

-- ---- what is at a number

slice_get_left : {A : Type 0} (xs ys : List A) (n : ℕ) → n < length xs → slice_get (xs ++ ys) n ≡ slice_get xs n
slice_get_left [] ys n h = absurd (omega (arith, h))
slice_get_left (x ∷ xs) ys zero h = refl
slice_get_left (x ∷ xs) ys (suc n) h = slice_get_left xs ys n (omega (arith, h))

slice_get_right : {A : Type 0} (xs ys : List A) (n m : ℕ) → m ≡ length xs + n → slice_get (xs ++ ys) m ≡ slice_get ys n
slice_get_right [] ys n m e = ap (slice_get ys) (omega (arith, e))
slice_get_right (x ∷ xs) ys n zero e = absurd (omega (arith, e))
slice_get_right (x ∷ xs) ys n (suc m) e = slice_get_right xs ys n m (omega (arith, e))

module _ {I : Type 0} (spell : Inserted → I) (become : Own → I → I) where
  pub length_spelled : (g : Group) (i : I) → length (spelled spell become (g, i)) ≡ size g
  length_spelled g i = length-append (map spell (inserted g)) (become g.own i ∷ []) ∙ ap (λ (n : ℕ). n + 1) (length_map spell (inserted g)) where
    length_map : {A B : Type 0} (f : A → B) (xs : List A) → length (map f xs) ≡ length xs
    length_map f [] = refl
    length_map f (x ∷ xs) = ap suc (length_map f xs)

  pub at_group : (gs : List Group) (is : List I) (k j : ℕ) (i : I) → k < length gs → slice_get is k ≡ Some i → j < size (group_at gs k)
      → slice_get (regrouped spell become gs is) (start gs k + j) ≡ slice_get (spelled spell become (group_at gs k, i)) j
  unfolding start
  at_group [] is k j i few there within = absurd (omega (arith, few))
  at_group (g ∷ gs) [] k j i few there within = absurd cc
  at_group (g ∷ gs) (x ∷ is) zero j i few there within =
      ap (slice_get (spelled spell become (g, x) ++ regrouped spell become gs is)) (omega arith)
      ∙ slice_get_left (spelled spell become (g, x)) (regrouped spell become gs is) j (subst (λ (n : ℕ). j < n) (sym (length_spelled g x)) within)
      ∙ (let e : x ≡ i = cc in ap (λ (y : I). slice_get (spelled spell become (g, y)) j) e)
  at_group (g ∷ gs) (x ∷ is) (suc k) j i few there within =
      slice_get_right (spelled spell become (g, x)) (regrouped spell become gs is) (start gs k + j) (size g + start gs k + j)
      (omega (arith, length_spelled g x))
      ∙ at_group gs is k j i (omega (arith, few)) there within

-- ---- ranges

-- groups follow one another
le_as : (a b c : ℕ) → a ≤ b → b ≡ c → a ≤ c
le_as a b c h e = omega (arith, h, e)

pub rises : (gs : List Group) (k n : ℕ) → start gs k ≤ start gs (k + n)
rises gs k zero = le_as (start gs k) (start gs k) (start gs (k + 0)) (omega arith) (ap (start gs) (omega arith))
rises gs k (suc n) =
    le_as (start gs k) (start gs (suc (k + n))) (start gs (k + suc n)) (omega (arith, rises gs k n, start_next gs (k + n))) (ap (start gs) (omega arith))

pub rises_to : (gs : List Group) (k m : ℕ) → k ≤ m → start gs k ≤ start gs m
rises_to gs k m h = le_as (start gs k) (start gs (k + (m - k))) (start gs m) (rises gs k (m - k)) (ap (start gs) (omega (arith, h)))

-- one step of a cut, whether the instruction is the first of a handler or not
step_before : (b : Bool) (m from s o : ℕ) (later same : List (ℕ × ℕ)) → m < s → s ≤ o → list_any (is_in m) later ≡ nat_le o m → list_any (is_in m) same ≡ nat_le from m
    → list_any (is_in m) (if b then (from, s) ∷ later else same) ≡ nat_le from m
step_before true m from s o later same less up later_is same_is = rw later_is (grind (arith, nat_tests))
step_before false m from s o later same less up later_is same_is = same_is

-- before the group k the pieces have all from their first number on
before : (gs : List Group) (m from k n : ℕ) → from ≤ start gs k → m < start gs k → list_any (is_in m) (cut gs from k n) ≡ nat_le from m
unfolding cut
before gs m from k zero low less = grind (arith, nat_tests)
before gs m from k (suc n) low less =
    step_before (group_at gs k).arrives m from (start gs k) (own gs k) (cut gs (own gs k) (suc k) n) (cut gs from (suc k) n) less (omega arith)
    (before gs m (own gs k) (suc k) n (omega (arith, own_next gs k)) (omega (arith, own_next gs k, less)))
    (before gs m from (suc k) n (omega (arith, own_next gs k, low)) (omega (arith, own_next gs k, less)))

step_at : (b : Bool) (from s c j : ℕ) (later same : List (ℕ × ℕ)) → list_any (is_in (s + j)) later ≡ nat_le (s + c) (s + j) → list_any (is_in (s + j)) same ≡ nat_le from (s + j)
    → from ≤ s → list_any (is_in (s + j)) (if b then (from, s) ∷ later else same) ≡ (not b || nat_le c j)
step_at true from s c j later same later_is same_is low = rw later_is (grind (arith, nat_tests))
step_at false from s c j later same later_is same_is low = rw same_is (grind (arith, nat_tests))

step_after : (b : Bool) (m from s : ℕ) (t : Bool) (later same : List (ℕ × ℕ)) → s ≤ m → list_any (is_in m) later ≡ t → list_any (is_in m) same ≡ t
    → list_any (is_in m) (if b then (from, s) ∷ later else same) ≡ t
step_after true m from s t later same up later_is same_is = rw later_is (grind (arith, nat_tests))
step_after false m from s t later same up later_is same_is = same_is

split_le : (a b : ℕ) → a ≤ b → (a ≡ b) ⊎ (a < b)
split_le zero zero h = inl refl
split_le zero (suc b) h = inr (omega arith)
split_le (suc a) zero h = absurd (omega (arith, h))
split_le (suc a) (suc b) h = elim (split_le a b (omega (arith, h))) [ inl e ↦ inl (ap suc e) | inr less ↦ inr (omega (arith, less)) ]

-- what the pieces have of the group k
at_first : (gs : List Group) (j from k n : ℕ) → j < size (group_at gs k) → from ≤ start gs k
    → list_any (is_in (start gs k + j)) (cut gs from k (suc n)) ≡ keeps gs k j
unfolding cut
at_first gs j from k n within low =
    step_at (group_at gs k).arrives from (start gs k) (length (inserted (group_at gs k))) j (cut gs (own gs k) (suc k) n) (cut gs from (suc k) n)
    (before gs (start gs k + j) (own gs k) (suc k) n (omega (arith, own_next gs k)) (omega (arith, start_next gs k, within)))
    (before gs (start gs k + j) from (suc k) n (omega (arith, own_next gs k, low)) (omega (arith, start_next gs k, within)))
    low

-- the group k' is at or after the group k
after : (gs : List Group) (k' j from k n : ℕ) → j < size (group_at gs k') → k ≤ k' → from ≤ start gs k
    → list_any (is_in (start gs k' + j)) (cut gs from k n) ≡ (nat_lt k' (k + n) && keeps gs k' j)
unfolding cut
after gs k' j from k zero within there low =
    let up : start gs k ≤ start gs k' = rises_to gs k k' there in
    rw (le-ltb k' (k + 0) (omega (arith, there))) (grind (arith, nat_tests))
after gs k' j from k (suc n) within there low =
    elim (split_le k k' there) [
      | inl e ↦ subst (λ (x : ℕ). list_any (is_in (start gs x + j)) (cut gs from k (suc n)) ≡ (nat_lt x (k + suc n) && keeps gs x j)) e
          (at_first gs j from k n (subst (λ (x : ℕ). j < size (group_at gs x)) (sym e) within) low
          ∙ sym (ap (λ (b : Bool). b && keeps gs k j) (lt-ltb k (k + suc n) (omega arith))))
      | inr less ↦ step_after (group_at gs k).arrives (start gs k' + j) from (start gs k) (nat_lt k' (k + suc n) && keeps gs k' j)
          (cut gs (own gs k) (suc k) n) (cut gs from (suc k) n) (omega (arith, rises_to gs k k' there))
          (after gs k' j (own gs k) (suc k) n within less (omega (arith, own_next gs k)) ∙ same n)
          (after gs k' j from (suc k) n within less (omega (arith, own_next gs k, low)) ∙ same n)
    ] where
      same : (n : ℕ) → (nat_lt k' (suc k + n) && keeps gs k' j) ≡ (nat_lt k' (k + suc n) && keeps gs k' j)
      same n = ap (λ (x : ℕ). nat_lt k' x && keeps gs k' j) (omega arith)

-- empty pieces have nothing
without_empty : (m : ℕ) (ps : List (ℕ × ℕ)) → list_any (is_in m) (filter is_some_range ps) ≡ list_any (is_in m) ps
without_empty m ps = any-filter_same (is_in m) is_some_range true (λ p h. grind (arith, nat_tests, h)) ps

-- The pieces of a range have a part of a group where the range has its instruction, unless the part is one that is inserted before the first instruction of a handler.
pub in_pieces : (gs : List Group) (from end k j : ℕ) → from < end → j < size (group_at gs k)
    → list_any (is_in (start gs k + j)) (pieces gs from end) ≡ (is_in k (from, end) && keeps gs k j)
in_pieces gs from end k j some within = without_empty (start gs k + j) (cut gs (start gs from) from (end - from)) ∙ go (either (nat_le from k)) where
  go : (nat_le from k ≡ true) ⊎ (nat_le from k ≡ false)
      → list_any (is_in (start gs k + j)) (cut gs (start gs from) from (end - from)) ≡ (is_in k (from, end) && keeps gs k j)
  go (inl h) = after gs k j (start gs from) from (end - from) within (leb-true from k h) (omega arith)
      ∙ rw h (ap (λ (x : ℕ). nat_lt k x && keeps gs k j) (omega (arith, some)))
  go (inr h) =
      let less : k < from = leb-false from k h in
      let low : start gs k + j < start gs from = omega (arith, rises_to gs (suc k) from less, start_next gs k, within) in
      before gs (start gs k + j) (start gs from) from (end - from) (omega arith) low ∙ rw h (grind (arith, nat_tests))
