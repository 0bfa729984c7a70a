-- Where the rules 1 to 6 hold no two classes of the files and of the deterministic library have one name.
use Rattle.std.proofs.Common.{◌≡◌, ℕ, zero, suc, ◌+◌, ◌<◌, ◌⊎◌, Bool, true, false, ◌&&◌, not, nat_eq, eq-eqb, List, [], ◌∷◌, ◌++◌, map, length, Some, Contains, slice_get, refl, sym, ap, ◌∙◌, subst, inl, inr, arith}
use Rattle.std.specs.Prelude.{codes}
use Rattle.std.specs.List.{list_all, starts_with}
use Rattle.std.specs.Cmp.Lexicographic.{pointwise}
use Rattle.dj_edge.specs.trusted.Held.{File}
use Rattle.dj_names.specs.trusted.Types.{Name, same_name}
use Rattle.dj_names.specs.trusted.Library.{deterministic_library}
use Rattle.dj_class.specs.trusted.ClassFile.{ClassFile}
use Rattle.dj_model.specs.trusted.Program.{Class}
use Rattle.dj_model.specs.trusted.Libraries.{library_class}
use Rattle.dj_report.specs.declared.report.Violation.{Violation}
use Rattle.dj_report.specs.trusted.Lines.{file_line}
use Rattle.dj_report.proofs.Sorted.{contains_first, contains_later}
use Rattle.dj_file_rules.specs.trusted.Violations.{this_name}
use Rattle.dj_early_rules.specs.trusted.Malformed.{IsGood}
use Rattle.dj_declarations.specs.trusted.Files.{declared_class}
use Rattle.dj_class_table.specs.Tables.{name_at, IsShared}
use Rattle.dj_class_set.specs.trusted.Checked.{AreGoodFiles, HoldsHierarchy}
use Rattle.dj_class_set.proofs.LibraryDescriptors.{both}

-- ---- names at places

same_self : (name : List ℕ) → pointwise nat_eq name name ≡ true
same_self [] = refl
same_self (b ∷ name) = λ i. eq-eqb b b refl i && same_self name i

-- a test that all names of the classes pass
all_named : (test : Name → Bool) (classes : List Class) (place : ℕ) (name : Name) → list_all (λ (c : Class). test c.name) classes ≡ true → name_at classes place ≡ Some name → test name ≡ true
all_named test [] zero name pass at = absurd cc
all_named test [] (suc k) name pass at = absurd cc
all_named test (c ∷ classes) zero name pass at =
    let is : c.name ≡ name = cc in
    subst (λ (n : Name). test n ≡ true) is (both (test c.name) (list_all (λ (d : Class). test d.name) classes) pass).0
all_named test (c ∷ classes) (suc k) name pass at =
    all_named test classes k name (both (test c.name) (list_all (λ (d : Class). test d.name) classes) pass).1 at

abbrev differs : Name → Name → Bool
differs a b = not (same_name a b)

no_later : (name : Name) (classes : List Class) (place : ℕ) → list_all (λ (c : Class). differs name c.name) classes ≡ true → name_at classes place ≡ Some name → ⊥
no_later name classes place pass at =
    let other : not (same_name name name) ≡ true = all_named (differs name) classes place name pass at in
    let same : not (same_name name name) ≡ false = ap not (same_self name) in
    absurd cc

abbrev all_differ : List Class → Bool
all_differ [] = true
all_differ (c ∷ classes) = list_all (λ (d : Class). differs c.name d.name) classes && all_differ classes

differ_twice : (classes : List Class) (i k : ℕ) (name : Name) → all_differ classes ≡ true → i < k → name_at classes i ≡ Some name → name_at classes k ≡ Some name → ⊥
differ_twice [] zero k name pass lt one two = absurd cc
differ_twice [] (suc i) k name pass lt one two = absurd cc
differ_twice (c ∷ classes) i zero name pass lt one two = absurd (omega (arith, lt))
differ_twice (c ∷ classes) zero (suc k) name pass lt one two =
    let is : c.name ≡ name = cc in
    let later = (both (list_all (λ (d : Class). differs c.name d.name) classes) (all_differ classes) pass).0 in
    no_later name classes k (subst (λ (n : Name). list_all (λ (d : Class). differs n d.name) classes ≡ true) is later) two
differ_twice (c ∷ classes) (suc i) (suc k) name pass lt one two =
    differ_twice classes i k name (both (list_all (λ (d : Class). differs c.name d.name) classes) (all_differ classes) pass).1 (omega (arith, lt)) one two

-- the name stands in the first list, or in the other
at_either : (xs ys : List Class) (place : ℕ) (name : Name) → name_at (xs ++ ys) place ≡ Some name
    → (name_at xs place ≡ Some name) ⊎ ((k : ℕ) × (place ≡ length xs + k) × (name_at ys k ≡ Some name))
at_either [] ys place name at = inr (place, omega arith, at)
at_either (x ∷ xs) ys zero name at = inl at
at_either (x ∷ xs) ys (suc place) name at = elim (at_either xs ys place name at) [ inl one ↦ inl one | inr (k, is, other) ↦ inr (k, omega (arith, is), other) ]

-- ---- names of the library

abbrev pub is_of_java : Name → Bool
is_of_java name = starts_with nat_eq name (codes "java/")

abbrev pub library_classes : List Class
library_classes = map library_class deterministic_library

pub library_reserved : list_all (λ (c : Class). is_of_java c.name) library_classes ≡ true
library_reserved = refl

library_differs : all_differ library_classes ≡ true
library_differs = refl

-- ---- names of files

-- the file at the place has a class of this name
record IsNamedAt (files : List File) (place : ℕ) (name : Name) : Type 0 where
  file : File
  among : Contains files file
  stands : slice_get files place ≡ Some file
  class : ClassFile
  good : IsGood file.1 class
  named : this_name class ≡ name

named_later : (other : File) (files : List File) (place : ℕ) (name : Name) → IsNamedAt files place name → IsNamedAt (other ∷ files) (suc place) name
named_later other files place name at = record {
  file = at.file;
  among = contains_later other files at.file at.among;
  stands = at.stands;
  class = at.class;
  good = at.good;
  named = at.named;
}

named_at : (files : List File) (classes : List ClassFile) (place : ℕ) (name : Name) → AreGoodFiles files classes → name_at (map declared_class classes) place ≡ Some name → IsNamedAt files place name
unfolding declared_class
named_at [] [] zero name good at = absurd cc
named_at [] [] (suc place) name good at = absurd cc
named_at [] (c ∷ classes) place name good at = absurd good
named_at (file ∷ files) [] place name good at = absurd good
named_at (file ∷ files) (c ∷ classes) zero name good at =
    record { file = file; among = contains_first file files; stands = refl; class = c; good = good.0; named = cc }
named_at (file ∷ files) (c ∷ classes) (suc place) name good at = named_later file files place name (named_at files classes place name good.1 at)

-- rule 5
named_twice : (files : List File) (i k : ℕ) (name : Name) → HoldsHierarchy files → i < k → IsNamedAt files i name → IsNamedAt files k name → ⊥
named_twice files i k name holds lt one two =
    let line : Violation = file_line one.file.0 5 in
    let past : 6 < 5 = holds line (inr (inl (record {
      place = i;
      file = one.file;
      stands = one.stands;
      class = one.class;
      good = one.good;
      double = record { other = k; apart = λ e. absurd (omega (arith, lt, e)); file = two.file; stands = two.stands; class = two.class; good = two.good; same = two.named ∙ sym one.named };
      line = refl;
    }))) in
    absurd (omega (arith, past))

-- rule 4
pub reserved_breaks : (files : List File) (file : File) (class : ClassFile) → HoldsHierarchy files → Contains files file → IsGood file.1 class → is_of_java (this_name class) ≡ true → ⊥
reserved_breaks files file class holds among good reserved =
    let line : Violation = file_line file.0 4 in
    let past : 6 < 4 = holds line (inl (file, among, inr (class, good, inr (inl (inl (inr (inl reserved), refl)))))) in
    absurd (omega (arith, past))

named_reserved : (files : List File) (place k : ℕ) (name : Name) → HoldsHierarchy files → IsNamedAt files place name → name_at library_classes k ≡ Some name → ⊥
named_reserved files place k name holds at own =
    let begins : is_of_java name ≡ true = all_named is_of_java library_classes k name library_reserved own in
    reserved_breaks files at.file at.class holds at.among at.good (subst (λ (n : Name). is_of_java n ≡ true) (sym at.named) begins)

-- ---- names of all classes

pub no_name_twice : (files : List File) (classes : List ClassFile) (name : Name) → HoldsHierarchy files → AreGoodFiles files classes
    → IsShared (map declared_class classes ++ map library_class deterministic_library) name → ⊥
no_name_twice files classes name holds good shared =
    let own = map declared_class classes in
    let reported = λ (place : ℕ) (at : name_at own place ≡ Some name). named_at files classes place name good at in
    elim (at_either own library_classes shared.first name shared.one) [
      | inl one ↦ elim (at_either own library_classes shared.other name shared.two) [
        | inl two ↦ named_twice files shared.first shared.other name holds shared.apart (reported shared.first one) (reported shared.other two)
        | inr (k, is, two) ↦ named_reserved files shared.first k name holds (reported shared.first one) two
      ]
      | inr (i, first, one) ↦ elim (at_either own library_classes shared.other name shared.two) [
        | inl two ↦ named_reserved files shared.other i name holds (reported shared.other two) one
        | inr (k, other, two) ↦ differ_twice library_classes i k name library_differs (let lt = shared.apart in omega (arith, lt, first, other)) one two
      ]
    ]
