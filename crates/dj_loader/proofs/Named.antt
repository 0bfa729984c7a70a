-- Classes by names and by numbers.
use Rattle.std.proofs.Common.{◌≡◌, ℕ, zero, suc, ◌≤◌, Bool, true, false, [], ◌∷◌, Contains, Option, Some, None, refl, sym, ap, ◌∙◌, inl, inr, arith}
use Rattle.std.specs.Prelude.{slice_get, if◌then◌else◌}
use Rattle.std.specs.declared.cmp.Ordering.TheVariants.{Less, Greater}
use Rattle.std.specs.Ordering.{nat_cmp, is_lt, ordering_reverse}
use Rattle.std.specs.Cmp.Lexicographic.{slice_cmp}
use Rattle.std.specs.Option.{option_map}
use Rattle.std.specs.List.Sorted.{IsStrictlySortedBy}
use Rattle.std.proofs.lemmas.Bool.{cases_lt}
use Rattle.std.proofs.lemmas.Cmp.{nat_list_cmp_total}
use Rattle.std.proofs.lemmas.Option.{same_Some}
use Rattle.dj_names.specs.trusted.Types.{Name, same_name}
use Rattle.dj_model.specs.trusted.Program.{Program, Class, class_at}
use Rattle.dj_model.specs.trusted.Libraries.{is_name_before}
use Rattle.dj_class_table.specs.Tables.{class_number, name_at, name_of}
use Rattle.dj_class_table.specs.ClassRows.{RiseStrictly}
use Rattle.dj_class_table.proofs.Orders.{is_name_before-cmp, same_name-refl, names_from_same, cmp_itself}
use Rattle.dj_class_table.proofs.Shared.{first_differs}
use Rattle.dj_class_table.proofs.Numbered.{class_number-rise, class_number-none}
use Rattle.dj_loader.specs.Loads.{IsLeast, Never}
use Rattle.dj_loader.specs.Numbered.{IsFirst, NeverSo}
use Rattle.dj_loader.proofs.Lists.{member_first, member_later, member_none, member_cases, place_of_member, member_at_place}

-- ---- members by names

pub name_there : (program : Program) (k : ℕ) (c : Class) → slice_get program k ≡ Some c → name_at program k ≡ Some c.name
name_there program k c e = ap (option_map name_of) e

pub class_there : (program : Program) (k : ℕ) (name : Name) → name_at program k ≡ Some name → (c : Class) × (slice_get program k ≡ Some c) × (c.name ≡ name)
class_there program k name e = by (slice_get program k) refl e where
  by : (o : Option Class) → slice_get program k ≡ o → option_map name_of o ≡ Some name → (c : Class) × (slice_get program k ≡ Some c) × (c.name ≡ name)
  by None is e = absurd cc
  by (Some c) is e = (c, is, same_Some c.name name e)

-- no member has a name where none is found by it
pub none_of_name : (program : Program) (name : Name) → class_at program name ≡ None → (c : Class) → Contains program c → c.name ≡ name → ⊥
none_of_name [] name none c m named = member_none c m
none_of_name (d ∷ program) name none c m named = by (same_name d.name name) refl none (λ e later. none_of_name program name e c later named) where
  by : (b : Bool) → same_name d.name name ≡ b → (if b then Some d else class_at program name) ≡ None → (class_at program name ≡ None → Contains program c → ⊥) → ⊥
  by true same e rest = absurd cc
  by false same e rest =
      elim (member_cases d program c m) [
        | inl is ↦
            let own : same_name d.name name ≡ true = ap (λ (n : Name). same_name d.name n) (sym (ap name_of is ∙ named)) ∙ same_name-refl d.name in
            absurd cc
        | inr later ↦ rest e later
      ]

pub class_at_none : (program : Program) (name : Name) → ((c : Class) → Contains program c → c.name ≡ name → ⊥) → class_at program name ≡ None
class_at_none [] name none = refl
class_at_none (d ∷ program) name none = by (same_name d.name name) refl (class_at_none program name (λ c m. none c (member_later d program c m))) where
  by : (b : Bool) → same_name d.name name ≡ b → class_at program name ≡ None → (if b then Some d else class_at program name) ≡ None
  by true same later = absurd (none d (member_first d program) (names_from_same d.name name same))
  by false same later = later

pub number_none : (program : Program) (name : Name) → class_at program name ≡ None → class_number program name ≡ None
number_none program name none = class_number-none program name (λ k e. let (c, at, named) = class_there program k name e in none_of_name program name none c (member_at_place program k c at) named)

pub at_none_from_number : (program : Program) (name : Name) → class_number program name ≡ None → class_at program name ≡ None
at_none_from_number [] name none = refl
at_none_from_number (c ∷ program) name none = by (same_name c.name name) (class_number program name) (at_none_from_number program name) none where
  by : (b : Bool) (n : Option ℕ) → (n ≡ None → class_at program name ≡ None) → (if b then Some 0 else option_map suc n) ≡ None → (if b then Some c else class_at program name) ≡ None
  by true n later e = absurd cc
  by false None later e = later refl
  by false (Some k) later e = absurd cc

-- ---- the order of numbers is that of names

names_apart : (a b : Name) → slice_cmp nat_cmp a b ≡ Less → is_name_before b a ≡ false
names_apart a b less =
    let greater : slice_cmp nat_cmp b a ≡ Greater = nat_list_cmp_total.antisymm b a ∙ ap ordering_reverse less in
    is_name_before-cmp b a ∙ ap is_lt greater

not_before_itself : (a : Name) → is_name_before a a ≡ false
not_before_itself a = is_name_before-cmp a a ∙ ap is_lt (cmp_itself a)

later_not_before : (rows : Program) → RiseStrictly rows → (k j : ℕ) (a b : Name) → name_at rows k ≡ Some a → name_at rows j ≡ Some b → k ≤ j → is_name_before b a ≡ false
unfolding IsStrictlySortedBy
later_not_before [] rise k j a b one two le = absurd cc
later_not_before (c ∷ rows) rise zero zero a b one two le =
    let same : a ≡ b = same_Some a b (sym one ∙ two) in
    ap (λ (n : Name). is_name_before n a) (sym same) ∙ not_before_itself a
later_not_before (c ∷ rows) rise zero (suc j) a b one two le =
    ap (is_name_before b) (sym (same_Some c.name a one)) ∙ names_apart c.name b (first_differs c rows rise j b two)
later_not_before (c ∷ rows) rise (suc k) zero a b one two le = absurd (omega arith)
later_not_before (c ∷ rows) rise (suc k) (suc j) a b one two le = later_not_before rows rise.1 k j a b one two (omega arith)

-- where names of a kind are those of numbers of a kind, the name of the first such number is the least such name
pub least_name : (rows : Program) → RiseStrictly rows → (IsSuch : Name → Type 0) (IsAt : ℕ → Type 0) → ((name : Name) → IsSuch name → (k : ℕ) × (name_at rows k ≡ Some name) × IsAt k)
    → (k : ℕ) (name : Name) → name_at rows k ≡ Some name → IsFirst IsAt k → IsSuch name → IsLeast IsSuch name
least_name rows rise IsSuch IsAt number k name named first such = record {
  such = such;
  least = λ other is.
      let (j, at, so) = number other is in
      elim (cases_lt j k) [
        | inl before ↦ absurd (first.first j before so)
        | inr after ↦ later_not_before rows rise k j name other named at after
      ];
}

pub never_name : (rows : Program) (IsSuch : Name → Type 0) (IsAt : ℕ → Type 0) → ((name : Name) → IsSuch name → (k : ℕ) × (name_at rows k ≡ Some name) × IsAt k) → NeverSo IsAt → Never IsSuch
never_name rows IsSuch IsAt number never name such = let (k, at, so) = number name such in never k so

-- the number of a member is that of its name
pub number_of_member : (rows : Program) → RiseStrictly rows → (c : Class) (name : Name) → Contains rows c → c.name ≡ name → (k : ℕ) × (slice_get rows k ≡ Some c) × (class_number rows name ≡ Some k)
number_of_member rows rise c name m named =
    let (k, at) = place_of_member rows c m in
    (k, at, class_number-rise rows rise k name (name_there rows k c at ∙ ap Some named))

pub same_number : (rows : Program) → RiseStrictly rows → (i j : ℕ) (name : Name) → name_at rows i ≡ Some name → name_at rows j ≡ Some name → i ≡ j
same_number rows rise i j name e f = same_Some i j (sym (class_number-rise rows rise i name e) ∙ class_number-rise rows rise j name f)
