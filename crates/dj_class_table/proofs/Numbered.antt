-- Classes by their numbers.
use Rattle.std.proofs.Common.{◌≡◌, ℕ, zero, suc, ◌<◌, Bool, true, false, List, [], ◌∷◌, length, get_or, refl, sym, ap, ◌∙◌, subst, arith, Option, inl, inr}
use Rattle.std.specs.Prelude.{All, Some, None, if◌then◌else◌, slice_get, option_and_then}
use Rattle.std.specs.Option.{option_map}
use Rattle.std.specs.declared.cmp.Ordering.{Ordering}
use Rattle.std.specs.declared.cmp.Ordering.TheVariants.{Less, Equal, Greater}
use Rattle.std.specs.Ordering.{nat_cmp, ordering_index}
use Rattle.std.specs.Cmp.Lexicographic.{slice_cmp}
use Rattle.std.specs.List.{HoldsAt}
use Rattle.std.specs.List.Sorted.{IsStrictlySortedBy, IsNonDecreasingBy, IsPartitionPoint}
use Rattle.std.proofs.lemmas.Bool.{cases_lt}
use Rattle.std.proofs.lemmas.Cmp.{nat_list_cmp_total}
use Rattle.std.proofs.lemmas.List.Elements.{All-nil, All-cons, All-append}
use Rattle.std.proofs.lemmas.List.Sorted.{searchable_from_sorted}
use Rattle.dj_names.specs.trusted.Types.{Name, same_name}
use Rattle.dj_model.specs.trusted.Program.{Program, Class, class_at, superclass_of, interfaces_of}
use Rattle.dj_model.specs.trusted.Linking.{option_list}
use Rattle.dj_class_table.specs.Tables.{class_number, class_numbers, name_at, super_number, interface_numbers}
use Rattle.dj_class_table.specs.ClassRows.{RiseStrictly}
use Rattle.dj_class_table.proofs.Orders.{same_name-refl, names_from_same, names_from_cmp, cmp_itself, not_same_if_less, sorted_from_rise}
use Rattle.dj_class_table.proofs.Shared.{some_name, first_differs, name_at-within, name_at-read}

-- ---- any classes

-- the class of a name is the one at its number
pub class_at-number : (program : Program) (name : Name) → class_at program name ≡ option_and_then (slice_get program) (class_number program name)
class_at-number [] name = refl
class_at-number (c ∷ program) name = by (same_name c.name name) (class_number program name) (class_at-number program name) where
  by : (b : Bool) (n : Option ℕ) → class_at program name ≡ option_and_then (slice_get program) n
      → (if b then Some c else class_at program name) ≡ option_and_then (slice_get (c ∷ program)) (if b then Some 0 else option_map suc n)
  by true n later = refl
  by false None later = later
  by false (Some k) later = later

-- and so where its number is known
pub class_at-at : (program : Program) (name : Name) (k : ℕ) → class_number program name ≡ Some k → class_at program name ≡ slice_get program k
class_at-at program name k e = class_at-number program name ∙ ap (option_and_then (slice_get program)) e

-- a number that is found is that of a class of this name
pub name_at-number : (program : Program) (name : Name) (k : ℕ) → class_number program name ≡ Some k → name_at program k ≡ Some name
name_at-number [] name k e = absurd cc
name_at-number (c ∷ program) name k e = by (same_name c.name name) refl (class_number program name) (name_at-number program name) k e where
  by : (b : Bool) → same_name c.name name ≡ b → (n : Option ℕ) → ((j : ℕ) → n ≡ Some j → name_at program j ≡ Some name)
      → (k : ℕ) → (if b then Some 0 else option_map suc n) ≡ Some k → name_at (c ∷ program) k ≡ Some name
  by true same n later zero f = ap Some (names_from_same c.name name same)
  by true same n later (suc k) f = absurd cc
  by false same None later k f = absurd cc
  by false same (Some j) later k f = subst (λ (k : ℕ). name_at (c ∷ program) k ≡ Some name) {x = suc j} {y = k} (cc) (later j refl)

pub class_number-within : (program : Program) (name : Name) (k : ℕ) → class_number program name ≡ Some k → k < length program
class_number-within program name k e = name_at-within program k name (name_at-number program name k e)

-- ---- of a superclass and of interfaces

pub super_number-within : (program : Program) (class k : ℕ) → super_number program class ≡ Some k → k < length program
super_number-within program class k e = by (superclass_of (slice_get program class)) e where
  by : (superclass : Option Name) → option_and_then (class_number program) superclass ≡ Some k → k < length program
  by None e = absurd cc
  by (Some name) e = class_number-within program name k e

pub class_numbers-within : (program : Program) (names : List Name) → All (λ k. k < length program) (class_numbers program names)
class_numbers-within program [] = All-nil (λ k. k < length program)
class_numbers-within program (name ∷ names) =
    All-append (λ k. k < length program) (option_list (class_number program name)) (class_numbers program names)
    (by (class_number program name) (class_number-within program name)) (class_numbers-within program names)
  where
    by : (number : Option ℕ) → ((k : ℕ) → number ≡ Some k → k < length program) → All (λ k. k < length program) (option_list number)
    by None within = All-nil (λ k. k < length program)
    by (Some k) within = All-cons (λ k. k < length program) k [] (within k refl) (All-nil (λ k. k < length program))

pub interface_numbers-within : (program : Program) (class : ℕ) → All (λ k. k < length program) (interface_numbers program class)
interface_numbers-within program class = class_numbers-within program (interfaces_of (slice_get program class))

-- ---- no class of the name

pub class_number-none : (program : Program) (name : Name) → ((k : ℕ) → name_at program k ≡ Some name → ⊥) → class_number program name ≡ None
class_number-none [] name none = refl
class_number-none (c ∷ program) name none = by (same_name c.name name) refl (class_number program name) (class_number-none program name (λ k. none (suc k))) where
  by : (b : Bool) → same_name c.name name ≡ b → (n : Option ℕ) → n ≡ None → (if b then Some 0 else option_map suc n) ≡ None
  by true same n is = absurd (none 0 (ap Some (names_from_same c.name name same)))
  by false same n is = ap (option_map suc) is

-- ---- classes whose names rise

pub class_number-rise : (program : Program) → RiseStrictly program → (k : ℕ) (name : Name) → name_at program k ≡ Some name → class_number program name ≡ Some k
unfolding IsStrictlySortedBy
class_number-rise [] rise k name e = absurd cc
class_number-rise (c ∷ program) rise zero name e =
    let same : same_name c.name name ≡ true = subst (λ (n : Name). same_name c.name n ≡ true) (some_name c.name name e) (same_name-refl c.name) in
    rw same refl
class_number-rise (c ∷ program) rise (suc k) name e =
    let other : same_name c.name name ≡ false = not_same_if_less c.name name (first_differs c program rise k name e) in
    let later = class_number-rise program rise.1 k name e in
    rw (other, later) refl

-- ---- a search by halving

-- how a class's name compares with a name
abbrev pub against : Name → Class → Ordering
against name c = slice_cmp nat_cmp c.name name

module _ (rows : Program) (rise : RiseStrictly rows) (name : Name) where
  answers_rise : IsNonDecreasingBy (λ c. ordering_index (against name c)) rows
  answers_rise = searchable_from_sorted nat_list_cmp_total (λ (c : Class). c.name) rows name (sorted_from_rise rows rise)

  named_is_equal : (k : ℕ) (d : Class) → k < length rows → name_at rows k ≡ Some name → against name (get_or rows k d) ≡ Equal
  named_is_equal k d lt e =
      let is : (get_or rows k d).name ≡ name = some_name (get_or rows k d).name name (sym (name_at-read rows k d lt) ∙ e) in
      subst (λ (n : Name). slice_cmp nat_cmp n name ≡ Equal) (sym is) (cmp_itself name)

  pub number_found : (place : ℕ) → place < length rows → HoldsAt (λ c. against name c ≡ Equal) rows place → class_number rows name ≡ Some place
  number_found place lt equal = by rows refl where
    by : (all : Program) → rows ≡ all → class_number rows name ≡ Some place
    by [] is = absurd (omega (arith, ap (λ (xs : Program). length xs) is))
    by (d ∷ more) is =
        let same : (get_or rows place d).name ≡ name = names_from_cmp (get_or rows place d).name name (equal d) in
        class_number-rise rows rise place name (name_at-read rows place d lt ∙ ap Some same)

  pub number_missing : (place : ℕ) → (IsNonDecreasingBy (λ c. ordering_index (against name c)) rows → IsPartitionPoint (λ c. against name c ≡ Less) (λ c. against name c ≡ Greater) rows place) → class_number rows name ≡ None
  number_missing place parted = by rows refl where
    by : (all : Program) → rows ≡ all → class_number rows name ≡ None
    by [] is = class_number-none rows name (λ k e. let within = name_at-within rows k name e in omega (arith, ap (λ (xs : Program). length xs) is))
    by (d ∷ more) is = class_number-none rows name (λ k e.
        let lt = name_at-within rows k name e in
        let equal = named_is_equal k d lt e in
        elim (cases_lt k place) [
          | inl before ↦ let less = (parted answers_rise).0 k d (omega arith) before in absurd cc
          | inr after ↦ let greater = (parted answers_rise).1 k d after lt in absurd cc
        ])
