-- Names that classes share: they are those of classes in another order, none where names rise, and the first in rows in order is the least.
use Rattle.std.proofs.Common.{◌≡◌, ℕ, zero, suc, ◌+◌, ◌-◌, ◌<◌, ◌≤◌, Bool, true, false, List, [], ◌∷◌, length, get_or, refl, sym, ap, ◌∙◌, subst, arith, sum_by, IsPermutation, inl, inr}
use Rattle.std.specs.Prelude.{Err, IsErrOf, Some, if◌then◌else◌}
use Rattle.std.specs.declared.cmp.Ordering.TheVariants.{Less}
use Rattle.std.specs.Ordering.{nat_cmp, is_lt}
use Rattle.std.specs.Cmp.Lexicographic.{slice_cmp}
use Rattle.std.specs.List.{AllByRecursion, AllAdjacentBelow}
use Rattle.std.specs.List.Sorted.{IsStrictlySortedBy, IsSorted}
use Rattle.std.proofs.lemmas.Bool.{cases_lt}
use Rattle.std.proofs.lemmas.List.{get_or_default}
use Rattle.std.proofs.lemmas.List.Elements.{pair_read}
use Rattle.std.proofs.lemmas.List.Sorted.{sum_by-IsPermutation, IsPermutation-sym, sorted_far}
use Rattle.std.proofs.lemmas.List.Sums.{sum_by-cons}
use Rattle.dj_names.specs.trusted.Types.{Name, same_name}
use Rattle.dj_model.specs.trusted.Program.{Program, Class}
use Rattle.dj_class_table.specs.Tables.{name_at, IsShared, IsLeastShared}
use Rattle.dj_class_table.specs.declared.error.TableError.TheVariants.{Duplicate}
use Rattle.dj_class_table.specs.ClassRows.{class_cmp, RiseStrictly}
use Rattle.dj_class_table.proofs.Orders.{is_name_before-cmp, same_name-refl, names_from_same, class_order, not_less_itself, less_from_other}

-- ---- how many classes have a name

abbrev has_name : Name → Class → ℕ
has_name name c = if same_name c.name name then 1 else 0

abbrev count : Name → List Class → ℕ
count name classes = sum_by (has_name name) classes

pub some_name : (a b : Name) → Some a ≡ Some b → a ≡ b
some_name a b e = cc

has_one : (name : Name) (c : Class) → c.name ≡ name → has_name name c ≡ 1
has_one name c e =
    let same : same_name c.name name ≡ true = subst (λ (n : Name). same_name c.name n ≡ true) e (same_name-refl c.name) in
    rw same refl

one_at : (name : Name) (classes : List Class) (k : ℕ) → name_at classes k ≡ Some name → 1 ≤ count name classes
one_at name [] k e = absurd cc
one_at name (c ∷ classes) zero e =
    let more = sum_by-cons (has_name name) c classes in
    let one = has_one name c (some_name c.name name e) in
    omega arith
one_at name (c ∷ classes) (suc k) e =
    let more = sum_by-cons (has_name name) c classes in
    let later = one_at name classes k e in
    omega arith

two_at : (name : Name) (classes : List Class) (first other : ℕ) → first < other → name_at classes first ≡ Some name → name_at classes other ≡ Some name → 2 ≤ count name classes
two_at name [] first other lt one two = absurd cc
two_at name (c ∷ classes) first zero lt one two = absurd (omega arith)
two_at name (c ∷ classes) zero (suc k) lt one two =
    let more = sum_by-cons (has_name name) c classes in
    let here = has_one name c (some_name c.name name one) in
    let later = one_at name classes k two in
    omega arith
two_at name (c ∷ classes) (suc first) (suc other) lt one two =
    let more = sum_by-cons (has_name name) c classes in
    let later = two_at name classes first other (omega arith) one two in
    omega arith

at_one : (name : Name) (classes : List Class) → 1 ≤ count name classes → (k : ℕ) × (name_at classes k ≡ Some name)
at_one name [] many = absurd (omega arith)
at_one name (c ∷ classes) many = by (same_name c.name name) refl (sum_by-cons (has_name name) c classes) (at_one name classes) where
  by : (b : Bool) → same_name c.name name ≡ b → count name (c ∷ classes) ≡ (if b then 1 else 0) + count name classes
      → (1 ≤ count name classes → (k : ℕ) × (name_at classes k ≡ Some name)) → (k : ℕ) × (name_at (c ∷ classes) k ≡ Some name)
  by true e is find = (0, ap Some (names_from_same c.name name e))
  by false e is find = let later = find (omega arith) in (suc later.0, later.1)

shared_from_two : (name : Name) (classes : List Class) → 2 ≤ count name classes → IsShared classes name
shared_from_two name [] many = absurd (omega arith)
shared_from_two name (c ∷ classes) many = by (same_name c.name name) refl (sum_by-cons (has_name name) c classes) (shared_from_two name classes) where
  by : (b : Bool) → same_name c.name name ≡ b → count name (c ∷ classes) ≡ (if b then 1 else 0) + count name classes
      → (2 ≤ count name classes → IsShared classes name) → IsShared (c ∷ classes) name
  by true e is find =
      let later = at_one name classes (omega arith) in
      record { first = 0; other = suc later.0; apart = omega arith; one = ap Some (names_from_same c.name name e); two = later.1 }
  by false e is find =
      let later = find (omega arith) in
      record { first = suc later.first; other = suc later.other; apart = omega (arith, later.apart); one = later.one; two = later.two }

-- ---- classes in another order

pub duplicate_name : {T : Type 0} (a b : Name) → IsErrOf {T = T} (Err (Duplicate a)) (Duplicate b) → a ≡ b
duplicate_name a b e = cc

pub shared_moved : (xs ys : List Class) → IsPermutation xs ys → (name : Name) → IsShared xs name → IsShared ys name
shared_moved xs ys moved name shared =
    let two = two_at name xs shared.first shared.other shared.apart shared.one shared.two in
    let same = sum_by-IsPermutation (has_name name) xs ys moved in
    shared_from_two name ys (omega arith)

pub least_shared_moved : (xs ys : List Class) → IsPermutation xs ys → (name : Name) → IsLeastShared ys name → IsLeastShared xs name
least_shared_moved xs ys moved name least = record {
  shared = shared_moved ys xs (IsPermutation-sym xs ys moved) name least.shared;
  least = λ other shared. least.least other (shared_moved xs ys moved other shared);
}

-- ---- none where names rise

below_at : (c : Class) (rows : Program) → AllByRecursion (λ d. class_cmp c d ≡ Less) rows → (k : ℕ) (name : Name) → name_at rows k ≡ Some name → slice_cmp nat_cmp c.name name ≡ Less
below_at c [] all k name e = absurd cc
below_at c (d ∷ rows) all zero name e = subst (λ (n : Name). slice_cmp nat_cmp c.name n ≡ Less) (some_name d.name name e) all.0
below_at c (d ∷ rows) all (suc k) name e = below_at c rows all.1 k name e

-- the first row's name is that of no later one
pub first_differs : (c : Class) (rows : Program) → RiseStrictly (c ∷ rows) → (k : ℕ) (name : Name) → name_at rows k ≡ Some name → slice_cmp nat_cmp c.name name ≡ Less
unfolding IsStrictlySortedBy
first_differs c rows rise = below_at c rows rise.0

none_at : (rows : Program) → RiseStrictly rows → (name : Name) (first other : ℕ) → first < other → name_at rows first ≡ Some name → name_at rows other ≡ Some name → ⊥
unfolding IsStrictlySortedBy
none_at [] rise name first other lt one two = absurd cc
none_at (c ∷ rows) rise name first zero lt one two = omega arith
none_at (c ∷ rows) rise name zero (suc k) lt one two = not_less_itself c.name name (some_name c.name name one) (below_at c rows rise.0 k name two)
none_at (c ∷ rows) rise name (suc first) (suc other) lt one two = none_at rows rise.1 name first other (omega arith) one two

pub none_shared : (rows : Program) → RiseStrictly rows → (name : Name) → IsShared rows name → ⊥
none_shared rows rise name shared = none_at rows rise name shared.first shared.other shared.apart shared.one shared.two

-- ---- the first pair of neighbours

pub name_at-within : (rows : Program) (k : ℕ) (name : Name) → name_at rows k ≡ Some name → k < length rows
name_at-within [] k name e = absurd cc
name_at-within (c ∷ rows) zero name e = omega arith
name_at-within (c ∷ rows) (suc k) name e = let later = name_at-within rows k name e in omega arith

pub name_at-read : (rows : Program) (k : ℕ) (d : Class) → k < length rows → name_at rows k ≡ Some (get_or rows k d).name
name_at-read [] k d lt = absurd (omega arith)
name_at-read (c ∷ rows) zero d lt = refl
name_at-read (c ∷ rows) (suc k) d lt = name_at-read rows k d (omega arith)

module _ (rows : Program) (in_order : IsSorted class_cmp rows) (d : Class) where
  abbrev name_of_row : ℕ → Name
  name_of_row k = (get_or rows k d).name

  not_before : (i j : ℕ) → i ≤ j → j < length rows → is_lt (slice_cmp nat_cmp (name_of_row j) (name_of_row i)) ≡ false
  not_before i j le lt = sorted_far (λ a b. is_lt (class_cmp a b)) class_order rows in_order i j d le lt

  name_is : (k : ℕ) (name : Name) → name_at rows k ≡ Some name → name_of_row k ≡ name
  name_is k name e = some_name (name_of_row k) name (sym (name_at-read rows k d (name_at-within rows k name e)) ∙ e)

  -- each row up to a place is below the next, and so a name that is shared is not before that of the place
  shared_from : (place : ℕ) → AllAdjacentBelow (λ a b. class_cmp a b ≡ Less) rows (place + 1) → place < length rows → (name : Name) (first other : ℕ) → first < other → name_at rows first ≡ Some name → name_at rows other ≡ Some name → is_lt (slice_cmp nat_cmp name (name_of_row place)) ≡ false
  shared_from place below within name first other lt one two =
      elim (cases_lt first place) [
        | inl before ↦
            let less : slice_cmp nat_cmp (name_of_row first) (name_of_row (first + 1)) ≡ Less = below first d (omega arith) in
            let last = not_before (first + 1) other (omega arith) (name_at-within rows other name two) in
            let same : name_of_row other ≡ name_of_row first = name_is other name two ∙ sym (name_is first name one) in
            let not_less : is_lt (slice_cmp nat_cmp (name_of_row first) (name_of_row (first + 1))) ≡ false =
            subst (λ (n : Name). is_lt (slice_cmp nat_cmp n (name_of_row (first + 1))) ≡ false) same last in
            let is : is_lt (slice_cmp nat_cmp (name_of_row first) (name_of_row (first + 1))) ≡ true = ap is_lt less in
            absurd cc
        | inr after ↦
            subst (λ (n : Name). is_lt (slice_cmp nat_cmp n (name_of_row place)) ≡ false) (name_is first name one)
            (not_before place first after (name_at-within rows first name one))
      ]

  pub first_is_least : (place : ℕ) → AllAdjacentBelow (λ a b. class_cmp a b ≡ Less) rows (place + 1) → place + 1 < length rows → name_of_row place ≡ name_of_row (place + 1) → IsLeastShared rows (name_of_row place)
  first_is_least place below within same = record {
    shared = record {
      first = place;
      other = place + 1;
      apart = omega arith;
      one = name_at-read rows place d (omega arith);
      two = name_at-read rows (place + 1) d within ∙ ap Some (sym same);
    };
    least = λ name shared.
        is_name_before-cmp name (name_of_row place) ∙
        shared_from place below (omega arith) name shared.first shared.other shared.apart shared.one shared.two;
  }

-- the rows a and b stand at a place and the one before it
module _ (rows : Program) (in_order : IsSorted class_cmp rows) (place : ℕ) (some : 0 < place) (within : place < length rows) (a b : Class) (at_a : a ≡ get_or rows (place - 1) a) (at_b : b ≡ get_or rows place b) where
  b_there : b ≡ get_or rows place a
  b_there = at_b ∙ get_or_default rows place b a within

  pub first_pair : AllAdjacentBelow (λ x y. class_cmp x y ≡ Less) rows place → a.name ≡ b.name → IsLeastShared rows a.name
  first_pair below same =
      let back : place ≡ place - 1 + 1 = omega arith in
      let names : (get_or rows (place - 1) a).name ≡ (get_or rows (place - 1 + 1) a).name =
      ap (λ (c : Class). c.name) (sym at_a) ∙ (same ∙ (ap (λ (c : Class). c.name) b_there ∙ ap (λ (n : ℕ). (get_or rows n a).name) back)) in
      subst (λ (c : Class). IsLeastShared rows c.name) (sym at_a)
      (first_is_least rows in_order a (place - 1) (subst (λ (n : ℕ). AllAdjacentBelow (λ x y. class_cmp x y ≡ Less) rows n) back below) (omega arith) names)

  pub next_rises : (a.name ≡ b.name → ⊥) → (d : Class) → class_cmp (get_or rows (place - 1) d) (get_or rows place d) ≡ Less
  next_rises other =
      let up : is_lt (class_cmp (get_or rows place a) (get_or rows (place - 1) a)) ≡ false = not_before rows in_order a (place - 1) place (omega arith) within in
      let not_less : is_lt (class_cmp b a) ≡ false =
      subst (λ (y : Class). is_lt (class_cmp y a) ≡ false) (sym b_there) (subst (λ (x : Class). is_lt (class_cmp (get_or rows place a) x) ≡ false) (sym at_a) up) in
      pair_read rows (λ x y. class_cmp x y ≡ Less) (place - 1) place a b (omega arith) within at_a at_b (less_from_other a b not_less other)
