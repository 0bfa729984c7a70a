-- How many instance fields classes have, each after its superclass.
use Rattle.std.proofs.Common.{◌≡◌, ◌≢◌, ℕ, zero, suc, ◌+◌, ◌-◌, ◌<◌, ◌≤◌, List, [], ◌∷◌, ◌++◌, length, set, get_or, replicate, Option, Some, None, refl, sym, ap, ◌∙◌, subst, arith, inl, inr, ◌⊎◌}
use Rattle.std.specs.Prelude.{slice_get}
use Rattle.std.proofs.lemmas.Bool.{cases_lt}
use Rattle.std.proofs.lemmas.List.{length_push, length-set, length-replicate, get_or-replicate, get_or-set_same, get_or-set_other}
use Rattle.std.proofs.lemmas.Option.{none-some, same_Some}
use Rattle.dj_model.specs.trusted.Program.{Program}
use Rattle.dj_model.specs.trusted.Linking.{most_classes, own_field_count}
use Rattle.dj_class_table.specs.Tables.{super_number}
use Rattle.dj_resolution.specs.Numbers.{numbers_up}
use Rattle.dj_resolution.proofs.Levels.{most_is}
use Rattle.dj_resolution.proofs.Walks.{no_numbers_up}
use Rattle.dj_numbering.specs.declared.heights.Height.{Height}
use Rattle.dj_numbering.specs.Numbered.{fields_of_numbers, fields_up, AreSums, IsHeight, height_at, AddsTo, AreHeights}
use Rattle.dj_numbering.proofs.Starts.{get_push, get_end}

-- ---- one class

no_height : (program : Program) → IsHeight program None (record { fields = 0; levels = 0 })
no_height program = record { same = λ n. ap (fields_of_numbers program) (no_numbers_up (n + 0) program); few = omega arith }

pub height_reported : (program : Program) (heights : List (Option Height)) (class : Option ℕ) (height : Height) → AreHeights program heights → Some height ≡ height_at heights class → IsHeight program class height
height_reported program heights None height are reported = subst (IsHeight program None) (same_Some (record { fields = 0; levels = 0 }) height (sym reported)) (no_height program)
height_reported program heights (Some k) height are reported = are.each k height (sym reported)

level : (program : Program) (n class : ℕ) → fields_of_numbers program (numbers_up (suc n) program (Some class)) ≡ own_field_count (slice_get program class) + fields_of_numbers program (numbers_up n program (super_number program class))
unfolding numbers_up
level program n class = refl

pub height_more : (program : Program) (class fields : ℕ) (above height : Height) → IsHeight program (super_number program class) above → fields ≡ own_field_count (slice_get program class) → AddsTo above fields height → IsHeight program (Some class) height
height_more program class fields above height is own adds = record {
  same = λ n.
      let levels = adds.levels_are in
      let next : n + height.levels ≡ suc (n + above.levels) = omega (arith, levels) in
      let one = level program (n + above.levels) class in
      let up = is.same n in
      let sum = adds.fields_are in
      let rest : own_field_count (slice_get program class) + fields_of_numbers program (numbers_up (n + above.levels) program (super_number program class)) ≡ height.fields = omega (arith, own, up, sum) in
      ap (λ (m : ℕ). fields_of_numbers program (numbers_up m program (Some class))) next ∙ one ∙ rest;
  few = adds.few;
}

-- ---- all of them

pub none_known : (program : Program) (heights : List (Option Height)) (count : ℕ) → count ≡ length program → heights ≡ replicate count None → AreHeights program heights
none_known program heights count long is = record {
  long = ap length is ∙ length-replicate count None ∙ long;
  each = λ k height at. absurd (none-some height (sym (nothing k) ∙ at));
} where
  no_more : (hs : List (Option Height)) (k : ℕ) → length hs ≤ k → get_or hs k None ≡ None
  no_more [] k le = refl
  no_more (h ∷ hs) zero le = absurd (omega (arith, le))
  no_more (h ∷ hs) (suc k) le = no_more hs k (omega (arith, le))

  nothing : (k : ℕ) → get_or heights k None ≡ None
  nothing k = ap (λ (hs : List (Option Height)). get_or hs k None) is ∙ elim (cases_lt k count) [
    | inl lt ↦ get_or-replicate count k None None lt
    | inr le ↦ (let e = length-replicate count (let n : Option Height = None in n) in no_more (replicate count None) k (omega (arith, le, e)))
  ]

pub one_known : (program : Program) (heights more : List (Option Height)) (class : ℕ) (height : Height) → class < length program → AreHeights program heights → IsHeight program (Some class) height → more ≡ set heights class (Some height)
    → AreHeights program more
one_known program heights more class height lt are is new = record {
  long = ap length new ∙ length-set heights class (Some height) ∙ are.long;
  each = λ k other at. by k other (sym (ap (λ (hs : List (Option Height)). get_or hs k None) new) ∙ at) (cases_eq k class);
} where
  cases_eq : (a b : ℕ) → (a ≡ b) ⊎ (a ≢ b)
  cases_eq zero zero = inl refl
  cases_eq zero (suc b) = inr (λ e. absurd (omega (arith, e)))
  cases_eq (suc a) zero = inr (λ e. absurd (omega (arith, e)))
  cases_eq (suc a) (suc b) = elim (cases_eq a b) [ inl e ↦ inl (ap suc e) | inr n ↦ inr (λ e. n (omega (arith, e))) ]

  by : (k : ℕ) (other : Height) → get_or (set heights class (Some height)) k None ≡ Some other → (k ≡ class) ⊎ (k ≢ class) → IsHeight program (Some k) other
  by k other at (inl same) =
      let here : get_or (set heights class (Some height)) k None ≡ Some height = ap (λ (j : ℕ). get_or (set heights class (Some height)) j None) same ∙ get_or-set_same heights class (Some height) None (omega (arith, are.long, lt)) in
      subst (λ (j : ℕ). IsHeight program (Some j) other) (sym same) (subst (IsHeight program (Some class)) (same_Some height other (sym here ∙ at)) is)
  by k other at (inr apart) = are.each k other (sym (get_or-set_other heights class k (Some height) None apart) ∙ at)

-- ---- their sums

height_sum : (program : Program) (class : ℕ) (height : Height) → IsHeight program (Some class) height → height.fields ≡ fields_up program class
height_sum program class height is =
    let few = is.few in
    let most = most_is in
    let levels : (most_classes - height.levels) + height.levels ≡ most_classes = omega (arith, few, most) in
    sym (is.same (most_classes - height.levels)) ∙ ap (λ (n : ℕ). fields_of_numbers program (numbers_up n program (Some class))) levels

-- those of this many classes
pub record AreSummed (program : Program) (count : ℕ) (sums : List ℕ) : Type 0 where
  pub long : length sums ≡ count
  pub each : (k : ℕ) → k < count → get_or sums k 0 ≡ fields_up program k

pub summed_more : (program : Program) (heights : List (Option Height)) (count : ℕ) (sums more : List ℕ) (height : Height) → AreHeights program heights → AreSummed program count sums → get_or heights count None ≡ Some height
    → more ≡ sums ++ height.fields ∷ [] → AreSummed program (count + 1) more
summed_more program heights count sums more height are summed at is = record {
  long = ap length is ∙ length_push sums height.fields ∙ ap (λ (n : ℕ). n + 1) summed.long;
  each = λ k lt. ap (λ (xs : List ℕ). get_or xs k 0) is ∙ elim (cases_lt k count) [
    | inl before ↦ get_push sums height.fields k (let e = summed.long in omega (arith, before, e)) ∙ summed.each k before
    | inr after ↦
        (let same : count ≡ k = omega (arith, after, lt) in
        get_end sums height.fields k (summed.long ∙ same) ∙ height_sum program count height (are.each count height at) ∙ ap (fields_up program) same)
  ];
}

pub summed_all : (program : Program) (heights : List (Option Height)) (count : ℕ) (sums : List ℕ) → AreHeights program heights → count ≡ length heights → AreSummed program count sums → AreSums program sums
summed_all program heights count sums are end summed =
    let long = are.long in
    record { long = summed.long ∙ end ∙ are.long; each = λ k lt. summed.each k (omega (arith, lt, end, long)) }
