-- The order of classes by their names.
use Rattle.std.proofs.Common.{◌≡◌, ℕ, zero, suc, ◌+◌, Bool, true, false, [], ◌∷◌, length, get_or, refl, sym, ap, ◌∙◌, subst, arith}
use Rattle.std.specs.Prelude.{IsTrue, ◌&&◌}
use Rattle.std.specs.declared.cmp.Ordering.{Ordering}
use Rattle.std.specs.declared.cmp.Ordering.TheVariants.{Less, Equal, Greater}
use Rattle.std.specs.Ordering.{nat_cmp, is_lt, ordering_reverse}
use Rattle.std.specs.Cmp.{IsTotalOrder, IsStrictWeakOrder, tied_itself}
use Rattle.std.specs.Cmp.Lexicographic.{slice_cmp, on_texts}
use Rattle.std.specs.FinMap.{nat_cmp-IsAntisymmetric, slice_cmp-IsAntisymmetric}
use Rattle.std.specs.List.{AllByRecursion, AllAdjacentBelow}
use Rattle.std.specs.List.Sorted.{IsStrictlySortedBy, IsSorted}
use Rattle.std.proofs.lemmas.Bool.{both_ways, and_parts}
use Rattle.std.proofs.lemmas.Bool.Decides.{nat_tests}
use Rattle.std.proofs.lemmas.Cmp.{same_from_slice_cmp, nat_list_cmp_total}
use Rattle.std.proofs.lemmas.List.Sorted.{ranks_by}
use Rattle.std.proofs.lemmas.Slice.Eq.{bytes_eq-Decides}
use Rattle.dj_names.specs.trusted.Types.{Name, same_name}
use Rattle.dj_model.specs.trusted.Program.{Program, Class}
use Rattle.dj_model.specs.trusted.Libraries.{is_name_before}
use Rattle.dj_model.specs.Sound.{names_rise}
use Rattle.dj_class_table.specs.ClassRows.{class_cmp, RiseStrictly}

-- ---- names

pub is_name_before-cmp : (a b : Name) → is_name_before a b ≡ is_lt (slice_cmp nat_cmp a b)
is_name_before-cmp a b = sym (same_from_slice_cmp nat_cmp is_lt is_name_before refl (λ _ _. refl) (λ _ _. refl) (λ x y xs ys o e. grind (arith, nat_tests)) a b _ refl)

pub same_name-refl : (name : Name) → same_name name name ≡ true
same_name-refl name = (bytes_eq-Decides name name).1 refl

pub same_from_names : (a b : Name) → a ≡ b → same_name a b ≡ true
same_from_names a b e = (bytes_eq-Decides a b).1 e

pub not_both : (t : Bool) → t ≡ true → t ≡ false → ⊥
not_both t p q = both_ways t q p

pub names_from_same : (a b : Name) → same_name a b ≡ true → a ≡ b
names_from_same a b e = (bytes_eq-Decides a b).0 e

pub names_from_cmp : (a b : Name) → slice_cmp nat_cmp a b ≡ Equal → a ≡ b
names_from_cmp a b e = slice_cmp-IsAntisymmetric nat_cmp-IsAntisymmetric a b e

pub cmp_itself : (name : Name) → slice_cmp nat_cmp name name ≡ Equal
cmp_itself name = tied_itself nat_list_cmp_total name

pub not_less_itself : (a b : Name) → a ≡ b → slice_cmp nat_cmp a b ≡ Less → ⊥
not_less_itself a b e less =
    let same : slice_cmp nat_cmp a b ≡ Equal = ap (slice_cmp nat_cmp a) (sym e) ∙ cmp_itself a in
    absurd cc

pub not_same_if_less : (a b : Name) → slice_cmp nat_cmp a b ≡ Less → same_name a b ≡ false
not_same_if_less a b less = by (same_name a b) refl where
  by : (t : Bool) → same_name a b ≡ t → t ≡ false
  by true e = absurd (not_less_itself a b (names_from_same a b e) less)
  by false e = refl

-- ---- classes

pub class_cmp_total : IsTotalOrder class_cmp
class_cmp_total = on_texts (λ (c : Class). c.name)

pub class_order : IsStrictWeakOrder (λ a b. is_lt (class_cmp a b))
class_order = ranks_by nat_list_cmp_total (λ (c : Class). c.name)

pub greater_from_less : (a b : Class) → class_cmp a b ≡ Less → class_cmp b a ≡ Greater
greater_from_less a b e = class_cmp_total.antisymm b a ∙ ap ordering_reverse e

pub less_from_greater : (a b : Class) → class_cmp a b ≡ Greater → class_cmp b a ≡ Less
less_from_greater a b e = class_cmp_total.antisymm b a ∙ ap ordering_reverse e

-- a class that is not above the next one, and has another name, is below it
pub less_from_other : (a b : Class) → is_lt (class_cmp b a) ≡ false → (a.name ≡ b.name → ⊥) → class_cmp a b ≡ Less
less_from_other a b up other = by (class_cmp a b) refl where
  by : (r : Ordering) → class_cmp a b ≡ r → r ≡ Less
  by Less e = refl
  by Equal e = absurd (other (names_from_cmp a.name b.name e))
  by Greater e =
      let less = less_from_greater a b e in
      let is : is_lt (class_cmp b a) ≡ true = ap is_lt less in
      absurd cc

-- ---- rows in order

pub above_too : (a b : Class) → class_cmp a b ≡ Less → (rows : Program) → AllByRecursion (λ c. class_cmp b c ≡ Less) rows → AllByRecursion (λ c. class_cmp a c ≡ Less) rows
above_too a b e [] all = tt
above_too a b e (c ∷ rows) all = (class_cmp_total.trans a b c e all.0, above_too a b e rows all.1)

-- where each row is below the next
pub rise_from_adjacent : (rows : Program) → AllAdjacentBelow (λ a b. class_cmp a b ≡ Less) rows (length rows) → RiseStrictly rows
unfolding IsStrictlySortedBy
rise_from_adjacent [] next = tt
rise_from_adjacent (a ∷ []) next = (tt, tt)
rise_from_adjacent (a ∷ b ∷ rows) next =
    let less : class_cmp a b ≡ Less = next 0 a (omega arith) in
    let later : RiseStrictly (b ∷ rows) = rise_from_adjacent (b ∷ rows) (λ k d lt.
    let plus : suc k + 1 ≡ suc (k + 1) = omega arith in
    subst (λ (n : ℕ). class_cmp (get_or (b ∷ rows) k d) (get_or (a ∷ b ∷ rows) n d) ≡ Less) plus (next (suc k) d (omega arith))) in
    ((less, above_too a b less rows later.0), later)

-- rows that rise are sorted
pub sorted_from_rise : (rows : Program) → RiseStrictly rows → IsSorted class_cmp rows
unfolding IsStrictlySortedBy
sorted_from_rise [] rise k d low lt = absurd (omega arith)
sorted_from_rise (a ∷ []) rise k d low lt = absurd (omega arith)
sorted_from_rise (a ∷ b ∷ rows) rise zero d low lt = ap is_lt (greater_from_less a b rise.0.0)
sorted_from_rise (a ∷ b ∷ rows) rise (suc k) d low lt =
    let plus : suc (k + 1) ≡ suc k + 1 = omega arith in
    subst (λ (n : ℕ). is_lt (class_cmp (get_or (a ∷ b ∷ rows) n d) (get_or (b ∷ rows) k d)) ≡ false) plus
    (sorted_from_rise (b ∷ rows) rise.1 k d (omega arith) (omega arith))

both_true : (a b : Bool) → a ≡ true → b ≡ true → (a && b) ≡ true
both_true true true p q = refl
both_true true false p q = q
both_true false b p q = p

pub names_rise-from_rise : (rows : Program) → RiseStrictly rows → IsTrue (names_rise rows)
unfolding IsStrictlySortedBy
names_rise-from_rise [] rise = refl
names_rise-from_rise (a ∷ []) rise = refl
names_rise-from_rise (a ∷ b ∷ rows) rise =
    both_true (is_name_before a.name b.name) (names_rise (b ∷ rows))
    (is_name_before-cmp a.name b.name ∙ ap is_lt rise.0.0)
    (names_rise-from_rise (b ∷ rows) rise.1)

less_from_test : (r : Ordering) → is_lt r ≡ true → r ≡ Less
less_from_test Less e = refl
less_from_test Equal e = absurd cc
less_from_test Greater e = absurd cc

pub rise-from_names_rise : (rows : Program) → IsTrue (names_rise rows) → RiseStrictly rows
unfolding IsStrictlySortedBy
rise-from_names_rise [] e = tt
rise-from_names_rise (a ∷ []) e = (tt, tt)
rise-from_names_rise (a ∷ b ∷ rows) e =
    let parts = and_parts (is_name_before a.name b.name) (names_rise (b ∷ rows)) e in
    let less : class_cmp a b ≡ Less = less_from_test (class_cmp a b) (sym (is_name_before-cmp a.name b.name) ∙ parts.0) in
    let later : RiseStrictly (b ∷ rows) = rise-from_names_rise (b ∷ rows) parts.1 in
    ((less, above_too a b less rows later.0), later)
