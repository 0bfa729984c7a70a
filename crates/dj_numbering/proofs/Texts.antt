-- Texts in the order of their bytes, and the place of one by halving.
use Rattle.std.proofs.Common.{◌≡◌, ℕ, zero, suc, ◌+◌, ◌<◌, Bool, true, false, List, [], ◌∷◌, map, length, get_or, refl, sym, ap, ◌∙◌, subst, arith, inl, inr}
use Rattle.std.specs.Prelude.{Some, None, if◌then◌else◌, slice_get}
use Rattle.std.specs.Option.{option_map}
use Rattle.std.specs.declared.cmp.Ordering.{Ordering}
use Rattle.std.specs.declared.cmp.Ordering.TheVariants.{Less, Equal, Greater}
use Rattle.std.specs.Ordering.{nat_cmp, is_lt, ordering_index, ordering_reverse}
use Rattle.std.specs.Cmp.Lexicographic.{slice_cmp}
use Rattle.std.specs.List.{HoldsAt}
use Rattle.std.specs.List.Sorted.{IsStrictlySortedBy, IsNonDecreasingBy, IsPartitionPoint, IsSortedBy}
use Rattle.std.proofs.lemmas.Bool.{cases_lt}
use Rattle.std.proofs.lemmas.Cmp.{nat_list_cmp_total}
use Rattle.std.proofs.Math.ListN.{get_or-map}
use Rattle.std.proofs.lemmas.List.{length-map}
use Rattle.std.proofs.lemmas.List.Sorted.{searchable_from_sorted}
use Rattle.std.proofs.lemmas.Map.Keys.{Less-from_sorted}
use Rattle.std.proofs.lemmas.Option.{slice_get-get_or, slice_get_within, get_or_from_slice_get, same_Some, none-some}
use Rattle.dj_names.specs.trusted.Types.{Name, same_name}
use Rattle.dj_class_table.proofs.Orders.{same_name-refl, names_from_same, names_from_cmp, cmp_itself, not_same_if_less}
use Rattle.dj_numbering.specs.Typed.{place_of_text}
use Rattle.dj_numbering.specs.Kept.{DoTextsRise}
use Rattle.dj_numbering.proofs.Starts.{some_there}

-- ---- the place of a text

none_there : (texts : List Name) (text : Name) → ((k : ℕ) → slice_get texts k ≡ Some text → ⊥) → place_of_text texts text ≡ None
none_there [] text none = refl
none_there (x ∷ texts) text none = by (same_name x text) refl (none_there texts text (λ k. none (suc k))) where
  by : (b : Bool) → same_name x text ≡ b → place_of_text texts text ≡ None → (if b then Some 0 else option_map suc (place_of_text texts text)) ≡ None
  by true same later = absurd (none 0 (ap Some (names_from_same x text same)))
  by false same later = rw later refl

first_below : (x : Name) (texts : List Name) → DoTextsRise (x ∷ texts) → (k : ℕ) (text : Name) → slice_get texts k ≡ Some text → slice_cmp nat_cmp x text ≡ Less
first_below x texts rise k text e =
    let less = Less-from_sorted (slice_cmp nat_cmp) (x ∷ texts) 0 (suc k) x rise (omega arith) (omega (arith, slice_get_within texts k text e)) in
    subst (λ (name : Name). slice_cmp nat_cmp x name ≡ Less) (get_or_from_slice_get texts k text x e) less

pub there_once : (texts : List Name) → DoTextsRise texts → (k : ℕ) (text : Name) → slice_get texts k ≡ Some text → place_of_text texts text ≡ Some k
unfolding IsStrictlySortedBy
there_once [] rise k text e = absurd (none-some text e)
there_once (x ∷ texts) rise zero text e =
    let same : same_name x text ≡ true = subst (λ (name : Name). same_name x name ≡ true) (same_Some x text e) (same_name-refl x) in
    rw same refl
there_once (x ∷ texts) rise (suc k) text e =
    let other : same_name x text ≡ false = not_same_if_less x text (first_below x texts rise k text e) in
    let later = there_once texts rise.1 k text e in
    rw (other, later) refl

-- ---- by halving

-- how a text compares with another
abbrev pub against : Name → Name → Ordering
against text other = slice_cmp nat_cmp other text

-- things in the order of their texts
module _ {X : Type 0} (key : X → Name) (xs : List X) (rise : DoTextsRise (map key xs)) where
  sorted_keys : IsSortedBy (λ a b. is_lt (slice_cmp nat_cmp (key a) (key b))) xs
  sorted_keys k d low lt =
      let less = Less-from_sorted (slice_cmp nat_cmp) (map key xs) k (k + 1) (key d) rise (omega arith) (omega (arith, lt, length-map xs key)) in
      let read : slice_cmp nat_cmp (key (get_or xs k d)) (key (get_or xs (k + 1) d)) ≡ Less =
      ap (λ (t : Name). slice_cmp nat_cmp t (key (get_or xs (k + 1) d))) (sym (get_or-map key xs k d))
      ∙ ap (λ (t : Name). slice_cmp nat_cmp (get_or (map key xs) k (key d)) t) (sym (get_or-map key xs (k + 1) d)) ∙ less in
      ap is_lt (nat_list_cmp_total.antisymm (key (get_or xs (k + 1) d)) (key (get_or xs k d)) ∙ ap ordering_reverse read)

  module _ (text : Name) where
    answers_rise : IsNonDecreasingBy (λ other. ordering_index (against text (key other))) xs
    answers_rise = searchable_from_sorted nat_list_cmp_total key xs text sorted_keys

    equal_there : (k : ℕ) (d : X) → slice_get (map key xs) k ≡ Some text → against text (key (get_or xs k d)) ≡ Equal
    equal_there k d e = subst (λ (name : Name). slice_cmp nat_cmp name text ≡ Equal) (sym (get_or_from_slice_get (map key xs) k text (key d) e) ∙ get_or-map key xs k d) (cmp_itself text)

    pub text_found : (place : ℕ) → place < length xs → HoldsAt (λ other. against text (key other) ≡ Equal) xs place → place_of_text (map key xs) text ≡ Some place
    text_found place lt equal =
        let there : (x : X) × (slice_get xs place ≡ Some x) = some_there xs place lt in
        there_once (map key xs) rise place text
        (slice_get-get_or (map key xs) place (key there.0) (omega (arith, lt, length-map xs key)) ∙ ap Some (get_or-map key xs place there.0 ∙ names_from_cmp (key (get_or xs place there.0)) text (equal there.0)))

    pub text_missing : (place : ℕ)
        → (IsNonDecreasingBy (λ other. ordering_index (against text (key other))) xs → IsPartitionPoint (λ other. against text (key other) ≡ Less) (λ other. against text (key other) ≡ Greater) xs place)
        → place_of_text (map key xs) text ≡ None
    text_missing place parted = none_there (map key xs) text (λ k e.
        let lt : k < length xs = omega (arith, slice_get_within (map key xs) k text e, length-map xs key) in
        let there : (x : X) × (slice_get xs k ≡ Some x) = some_there xs k lt in
        let equal = equal_there k there.0 e in
        elim (cases_lt k place) [
          | inl before ↦ let less = (parted answers_rise).0 k there.0 (omega arith) before in absurd cc
          | inr after ↦ let greater = (parted answers_rise).1 k there.0 after lt in absurd cc
        ])
