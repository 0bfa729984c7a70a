-- Classes of different names, joined, are the one list of them whose names rise.
use Rattle.std.proofs.Common.{◌≡◌, ℕ, zero, suc, ◌⊎◌, ◌↔◌, Bool, true, false, List, [], ◌∷◌, refl, sym, ap, ◌∙◌, subst, inl, inr, arith, Contains, IsPermutation}
use Rattle.std.specs.Prelude.{Some, if◌then◌else◌}
use Rattle.std.specs.declared.cmp.Ordering.{Ordering}
use Rattle.std.specs.declared.cmp.Ordering.TheVariants.{Less, Equal, Greater}
use Rattle.std.specs.Ordering.{is_lt}
use Rattle.std.specs.List.{AllByRecursion}
use Rattle.std.specs.List.Sorted.{IsStrictlySortedBy}
use Rattle.std.proofs.lemmas.List.Elements.{All-contains, Contains-append_right}
use Rattle.std.proofs.lemmas.List.Sorted.{Contains-permutation, IsPermutation-sym}
use Rattle.std.proofs.lemmas.Map.Keys.{sorted_tail}
use Rattle.std.proofs.lemmas.Map.Views.{All-after_first}
use Rattle.dj_names.specs.trusted.Types.{Name}
use Rattle.dj_model.specs.trusted.Program.{Program, Class}
use Rattle.dj_model.specs.trusted.Libraries.{is_name_before, inserted, joined}
use Rattle.dj_class_table.specs.Tables.{name_at, IsShared}
use Rattle.dj_class_table.specs.ClassRows.{class_cmp, RiseStrictly}
use Rattle.dj_class_table.proofs.Orders.{is_name_before-cmp, names_from_cmp, greater_from_less, less_from_greater, above_too, not_less_itself}

-- ---- members

pub contains_first : (c : Class) (rows : List Class) → Contains (c ∷ rows) c
contains_first c rows = (0, omega arith, refl)

pub contains_later : (c : Class) (rows : List Class) (v : Class) → Contains rows v → Contains (c ∷ rows) v
contains_later c rows v m = Contains-append_right (c ∷ []) rows v m

pub contains_none : (v : Class) → Contains [] v → ⊥
contains_none v m = let h = m.1 in omega arith

pub contains_cases : (c : Class) (rows : List Class) (v : Class) → Contains (c ∷ rows) v → (c ≡ v) ⊎ Contains rows v
contains_cases c rows v (zero, h, e) = inl e
contains_cases c rows v (suc k, h, e) = inr (k, omega arith, e)

members_swapped : (c d : Class) (rows : List Class) (v : Class) → Contains (c ∷ d ∷ rows) v → Contains (d ∷ c ∷ rows) v
members_swapped c d rows v m =
    elim (contains_cases c (d ∷ rows) v m) [
      | inl e ↦ contains_later d (c ∷ rows) v (subst (Contains (c ∷ rows)) e (contains_first c rows))
      | inr later ↦ elim (contains_cases d rows v later) [
        | inl e ↦ subst (Contains (d ∷ c ∷ rows)) e (contains_first d (c ∷ rows))
        | inr old ↦ contains_later d (c ∷ rows) v (contains_later c rows v old)
      ]
    ]

under : (d : Class) (xs ys : List Class) (v : Class) → (Contains xs v → Contains ys v) → Contains (d ∷ xs) v → Contains (d ∷ ys) v
under d xs ys v f m =
    elim (contains_cases d xs v m) [
      | inl e ↦ subst (Contains (d ∷ ys)) e (contains_first d ys)
      | inr later ↦ contains_later d ys v (f later)
    ]

members_inserted : (c : Class) (rows : Program) (v : Class) → Contains (inserted c rows) v ↔ Contains (c ∷ rows) v
members_inserted c [] v = (λ m. m, λ m. m)
members_inserted c (d ∷ rows) v = by (is_name_before c.name d.name) (members_inserted c rows v) where
  by : (b : Bool) → (Contains (inserted c rows) v ↔ Contains (c ∷ rows) v) → Contains (if b then c ∷ d ∷ rows else d ∷ inserted c rows) v ↔ Contains (c ∷ d ∷ rows) v
  by true later = (λ m. m, λ m. m)
  by false later = (
    λ m. members_swapped d c rows v (under d (inserted c rows) (c ∷ rows) v later.0 m),
    λ m. under d (c ∷ rows) (inserted c rows) v later.1 (members_swapped c d rows v m),
  )

pub members_joined : (classes : List Class) (v : Class) → Contains (joined classes []) v ↔ Contains classes v
members_joined [] v = (λ m. m, λ m. m)
members_joined (c ∷ classes) v =
    let rest = members_joined classes v in
    let first = members_inserted c (joined classes []) v in (
      λ m. under c (joined classes []) classes v rest.0 (first.0 m),
      λ m. first.1 (under c classes (joined classes []) v rest.1 m),
    )

-- ---- classes of different names

-- each name is another one than those after it
abbrev pub Differ : List Class → Type 0
Differ [] = Unit {0}
Differ (c ∷ classes) = AllByRecursion (λ d. c.name ≡ d.name → ⊥) classes × Differ classes

none_named : (name : Name) (classes : List Class) → ((k : ℕ) → name_at classes k ≡ Some name → ⊥) → AllByRecursion (λ d. name ≡ d.name → ⊥) classes
none_named name [] none = tt
none_named name (d ∷ classes) none = (λ e. none 0 (ap Some (sym e)), none_named name classes (λ k. none (suc k)))

pub differ_from_none_shared : (classes : List Class) → ((name : Name) → IsShared classes name → ⊥) → Differ classes
differ_from_none_shared [] none = tt
differ_from_none_shared (c ∷ classes) none = (
  none_named c.name classes (λ k e. none c.name (record { first = 0; other = suc k; apart = omega arith; one = refl; two = e })),
  differ_from_none_shared classes (λ name shared. none name (record { first = suc shared.first; other = suc shared.other; apart = omega (arith, shared.apart); one = shared.one; two = shared.two })),
)

-- ---- joined, they rise

each_inserted : (P : Class → Type 0) (c : Class) (rows : Program) → P c → AllByRecursion P rows → AllByRecursion P (inserted c rows)
each_inserted P c [] p all = (p, tt)
each_inserted P c (d ∷ rows) p all = by (is_name_before c.name d.name) (each_inserted P c rows p all.1) where
  by : (b : Bool) → AllByRecursion P (inserted c rows) → AllByRecursion P (if b then c ∷ d ∷ rows else d ∷ inserted c rows)
  by true later = (p, all)
  by false later = (all.0, later)

each_joined : (P : Class → Type 0) (classes : List Class) → AllByRecursion P classes → AllByRecursion P (joined classes [])
each_joined P [] all = tt
each_joined P (c ∷ classes) all = each_inserted P c (joined classes []) all.0 (each_joined P classes all.1)

rise_inserted : (c : Class) (rows : Program) → AllByRecursion (λ d. c.name ≡ d.name → ⊥) rows → RiseStrictly rows → RiseStrictly (inserted c rows)
unfolding IsStrictlySortedBy
rise_inserted c [] other rise = (tt, tt)
rise_inserted c (d ∷ rows) other rise = by (class_cmp c d) refl (is_name_before c.name d.name) (is_name_before-cmp c.name d.name) (rise_inserted c rows other.1 rise.1) where
  by : (r : Ordering) → class_cmp c d ≡ r → (b : Bool) → b ≡ is_lt (class_cmp c d) → RiseStrictly (inserted c rows) → RiseStrictly (if b then c ∷ d ∷ rows else d ∷ inserted c rows)
  by Less e true is later = ((e, above_too c d e rows rise.0), rise)
  by Less e false is later = let less = ap is_lt e in absurd cc
  by Equal e b is later = absurd (other.0 (names_from_cmp c.name d.name e))
  by Greater e true is later = let greater = ap is_lt e in absurd cc
  by Greater e false is later = (each_inserted (λ y. class_cmp d y ≡ Less) c rows (less_from_greater c d e) rise.0, later)

pub rise_joined : (classes : List Class) → Differ classes → RiseStrictly (joined classes [])
unfolding IsStrictlySortedBy
rise_joined [] differ = tt
rise_joined (c ∷ classes) differ =
    rise_inserted c (joined classes []) (each_joined (λ d. c.name ≡ d.name → ⊥) classes differ.0) (rise_joined classes differ.1)

-- ---- the members determine the list

below_later : (c : Class) (rows : Program) (v : Class) → RiseStrictly (c ∷ rows) → Contains rows v → class_cmp c v ≡ Less
below_later c rows v rise m = All-contains (λ w. class_cmp c w ≡ Less) rows v (All-after_first class_cmp c rows rise) m

both_less : (c d : Class) → class_cmp c d ≡ Less → class_cmp d c ≡ Less → ⊥
both_less c d e f = let greater = greater_from_less c d e in absurd cc

same_firsts : (c d : Class) (xs ys : Program) → RiseStrictly (c ∷ xs) → RiseStrictly (d ∷ ys) → Contains (c ∷ xs) d → Contains (d ∷ ys) c → c ≡ d
same_firsts c d xs ys p q m n =
    elim (contains_cases c xs d m) [
      | inl e ↦ e
      | inr later ↦ elim (contains_cases d ys c n) [
        | inl e ↦ sym e
        | inr other ↦ absurd (both_less c d (below_later c xs d p later) (below_later d ys c q other))
      ]
    ]

not_first : (c d v : Class) (rows : Program) → c ≡ d → class_cmp c v ≡ Less → Contains (d ∷ rows) v → Contains rows v
not_first c d v rows e less m =
    elim (contains_cases d rows v m) [
      | inl same ↦ absurd (not_less_itself c.name v.name (ap (λ (x : Class). x.name) (e ∙ same)) less)
      | inr later ↦ later
    ]

pub same_from_members : (xs ys : Program) → RiseStrictly xs → RiseStrictly ys → ((v : Class) → Contains xs v ↔ Contains ys v) → xs ≡ ys
same_from_members [] [] p q h = refl
same_from_members [] (d ∷ ys) p q h = absurd (contains_none d ((h d).1 (contains_first d ys)))
same_from_members (c ∷ xs) [] p q h = absurd (contains_none c ((h c).0 (contains_first c xs)))
same_from_members (c ∷ xs) (d ∷ ys) p q h =
    let firsts : c ≡ d = same_firsts c d xs ys p q ((h d).1 (contains_first d ys)) ((h c).0 (contains_first c xs)) in
    let rests : xs ≡ ys = same_from_members xs ys (sorted_tail class_cmp c xs p) (sorted_tail class_cmp d ys q) (λ v. (
      λ m. not_first c d v ys firsts (below_later c xs v p m) ((h v).0 (contains_later c xs v m)),
      λ m. not_first d c v xs (sym firsts) (below_later d ys v q m) ((h v).1 (contains_later d ys v m)),
    )) in
    λ i. firsts i ∷ rests i

-- rows that rise, of classes in another order
pub rows_are_joined : (classes : List Class) (rows : Program) → IsPermutation classes rows → RiseStrictly rows → Differ classes → rows ≡ joined classes []
rows_are_joined classes rows moved rise differ =
    same_from_members rows (joined classes []) rise (rise_joined classes differ) (λ v. (
      λ m. (members_joined classes v).1 (Contains-permutation rows classes v (IsPermutation-sym classes rows moved) m),
      λ m. Contains-permutation classes rows v moved ((members_joined classes v).0 m),
    ))
