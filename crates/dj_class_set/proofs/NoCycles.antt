-- Where the rules 1 to 6 hold no class of the files and of the deterministic library is its own ancestor.
use Rattle.std.proofs.Common.{◌≡◌, ℕ, zero, suc, ◌<◌, ◌⊎◌, Bool, true, ◌&&◌, List, [], ◌∷◌, ◌++◌, map, length, Option, Some, None, Contains, refl, sym, ap, ◌∙◌, subst, inl, inr, arith}
use Rattle.std.specs.Prelude.{codes, nat_lt, reverse, if◌then◌else◌}
use Rattle.std.specs.List.{list_all}
use Rattle.std.proofs.lemmas.Bool.Decides.{nat_tests}
use Rattle.dj_edge.specs.trusted.Held.{File}
use Rattle.dj_names.specs.trusted.Types.{Name, same_name}
use Rattle.dj_names.specs.trusted.Library.{LibraryClass, Library, deterministic_library, lang, object_class, text_rows, interface_rows, exception_rows}
use Rattle.dj_class.specs.trusted.ClassFile.{ClassFile}
use Rattle.dj_library.specs.trusted.Heads.{Head, head_of_library, library_heads}
use Rattle.dj_model.specs.trusted.Program.{Class}
use Rattle.dj_model.specs.trusted.Linking.{option_list}
use Rattle.dj_model.specs.trusted.Libraries.{library_class}
use Rattle.dj_report.specs.declared.report.Violation.{Violation}
use Rattle.dj_report.specs.trusted.Lines.{file_line}
use Rattle.dj_report.proofs.Adding.{contains_map}
use Rattle.dj_report.proofs.Sorted.{contains_first, contains_later, contains_none, contains_cases}
use Rattle.dj_file_rules.specs.trusted.Violations.{this_name}
use Rattle.dj_hierarchy_rule.specs.trusted.Hierarchy.{IsAbove, Climbs, Stays, Rises}
use Rattle.dj_early_rules.specs.trusted.Heads.{head_of, StandsAmong}
use Rattle.dj_early_rules.specs.trusted.Malformed.{IsGood}
use Rattle.dj_declarations.specs.trusted.Files.{declared_class}
use Rattle.dj_loader.specs.Loads.{above_names, StandsUnder, StandsBelow, IsOwnAncestor}
use Rattle.dj_loader.proofs.Lists.{member_of_either}
use Rattle.dj_class_set.specs.trusted.Checked.{AreGoodFiles, HoldsHierarchy}
use Rattle.dj_class_set.proofs.LibraryDescriptors.{both}
use Rattle.dj_class_set.proofs.NoDoubles.{is_of_java, library_classes, library_reserved, reserved_breaks}

-- ---- the library's classes stand under its own alone, and these under none of them

abbrev library_name : LibraryClass → Name
library_name c = c.name

-- each before those above it
abbrev upward : List Name
upward = reverse (object_class ∷ lang (codes "System") ∷ map library_name (interface_rows ++ text_rows ++ exception_rows))

abbrev rank_in : List Name → Name → ℕ
rank_in [] name = 0
rank_in (n ∷ names) name = if same_name n name then suc (length names) else rank_in names name

abbrev rank : Name → ℕ
rank name = rank_in upward name

abbrev stands_lower : Name → Name → Bool
stands_lower name above = is_of_java above && nat_lt (rank above) (rank name)

abbrev all_lower : Class → Bool
all_lower c = list_all (stands_lower c.name) (above_names c)

library_lower : list_all all_lower library_classes ≡ true
library_lower = refl

all_member : {A : Type 0} (test : A → Bool) (xs : List A) (x : A) → list_all test xs ≡ true → Contains xs x → test x ≡ true
all_member test [] x all m = absurd (contains_none x m)
all_member test (y ∷ xs) x all m =
    let each = both (test y) (list_all test xs) all in
    elim (contains_cases y xs x m) [
      | inl e ↦ subst (λ z. test z ≡ true) e each.0
      | inr later ↦ all_member test xs x each.1 later
    ]

less_from_test : (m n : ℕ) → nat_lt m n ≡ true → m < n
less_from_test m n e = grind (arith, nat_tests)

lower_in_library : (class : Class) (above : Name) → Contains library_classes class → Contains (above_names class) above → (is_of_java above ≡ true) × (rank above < rank class.name)
lower_in_library class above there listed =
    let passes : list_all (stands_lower class.name) (above_names class) ≡ true = all_member all_lower library_classes class library_lower there in
    let each = both (is_of_java above) (nat_lt (rank above) (rank class.name)) (all_member (stands_lower class.name) (above_names class) above passes listed) in
    (each.0, less_from_test (rank above) (rank class.name) each.1)

-- ---- classes of the files

record IsOfFile (files : List File) (class : Class) : Type 0 where
  file : File
  among : Contains files file
  read : ClassFile
  good : IsGood file.1 read
  is : class ≡ declared_class read

of_later : (other : File) (files : List File) (class : Class) → IsOfFile files class → IsOfFile (other ∷ files) class
of_later other files class of = record { file = of.file; among = contains_later other files of.file of.among; read = of.read; good = of.good; is = of.is }

of_file : (files : List File) (classes : List ClassFile) (class : Class) → AreGoodFiles files classes → Contains (map declared_class classes) class → IsOfFile files class
of_file [] [] class good m = absurd (contains_none class m)
of_file [] (c ∷ classes) class good m = absurd good
of_file (file ∷ files) [] class good m = absurd good
of_file (file ∷ files) (c ∷ classes) class good m =
    elim (contains_cases (declared_class c) (map declared_class classes) class m) [
      | inl e ↦ record { file = file; among = contains_first file files; read = c; good = good.0; is = sym e }
      | inr later ↦ of_later file files class (of_file files classes class good.1 later)
    ]

-- ---- classes by their heads

abbrev pub head_in : Class → Head
head_in c = record { name = c.name; flags = c.flags; superclass = c.superclass; interfaces = c.interfaces }

head_declared : (c : ClassFile) → head_in (declared_class c) ≡ head_of c
unfolding declared_class
head_declared c = refl

heads_mapped : (library : Library) → map head_in (map library_class library) ≡ map head_of_library library
heads_mapped [] = refl
heads_mapped (c ∷ library) = ap (λ (hs : List Head). head_of_library c ∷ hs) (heads_mapped library)

head_of_row : (class : Class) → Contains library_classes class → Contains library_heads (head_in class)
unfolding library_heads
head_of_row class m = subst (λ (hs : List Head). Contains hs (head_in class)) (heads_mapped deterministic_library) (contains_map head_in library_classes class m)

superclass_listed : (o : Option Name) (above : Name) → Contains (option_list o) above → o ≡ Some above
superclass_listed None above m = absurd (contains_none above m)
superclass_listed (Some name) above m = elim (contains_cases name [] above m) [ inl e ↦ ap Some e | inr more ↦ absurd (contains_none above more) ]

above_head : (class : Class) (above : Name) → Contains (above_names class) above → IsAbove (head_in class) above
above_head class above listed =
    elim (member_of_either (option_list class.superclass) class.interfaces above listed) [
      | inl prefix ↦ inl (superclass_listed class.superclass above prefix)
      | inr back ↦ inr back
    ]

module _ (files : List File) (classes : List ClassFile) (holds : HoldsHierarchy files) (good : AreGoodFiles files classes) where
  abbrev all : List Class
  all = map declared_class classes ++ library_classes

  either : (class : Class) → Contains all class → IsOfFile files class ⊎ Contains library_classes class
  either class m =
      elim (member_of_either (map declared_class classes) library_classes class m) [
        | inl prefix ↦ inl (of_file files classes class good prefix)
        | inr back ↦ inr back
      ]

  stands : (class : Class) → Contains all class → StandsAmong files (head_in class)
  stands class m =
      elim (either class m) [
        | inl of ↦ inl (of.file, of.among, of.read, of.good, ap head_in of.is ∙ head_declared of.read)
        | inr row ↦ inr (head_of_row class row)
      ]

  -- ---- ways upward

  rises : (a between b : Name) → StandsUnder all a between → Climbs (StandsAmong files) between b → Climbs (StandsAmong files) a b
  rises a between b under rest =
      subst (λ (name : Name). Climbs (StandsAmong files) name b) under.named
      (Rises (head_in under.class) (stands under.class under.there) between b (above_head under.class between under.listed) rest)

  climbs : (n : ℕ) (a b : Name) → StandsBelow n all a b → Climbs (StandsAmong files) a b
  climbs zero a b under = rises a b b under (Stays b)
  climbs (suc n) a b (between, under, below) = rises a between b under (climbs n between b below)

  first_step : (n : ℕ) (a b : Name) → StandsBelow n all a b → (between : Name) × StandsUnder all a between × Climbs (StandsAmong files) between b
  first_step zero a b under = (b, under, Stays b)
  first_step (suc n) a b (between, under, below) = (between, under, climbs n between b below)

  -- rule 6
  file_on_cycle : (name between : Name) → (under : StandsUnder all name between) → Climbs (StandsAmong files) between name → IsOfFile files under.class → ⊥
  file_on_cycle name between under rest of =
      let is : head_in under.class ≡ head_of of.read = ap head_in of.is ∙ head_declared of.read in
      let above : IsAbove (head_of of.read) between = subst (λ (h : Head). IsAbove h between) is (above_head under.class between under.listed) in
      let named : name ≡ (head_of of.read).name = sym under.named ∙ ap (λ (h : Head). h.name) is in
      let line : Violation = file_line of.file.0 6 in
      let past : 6 < 6 = holds line (inr (inr (record {
        file = of.file;
        own = of.among;
        class = of.read;
        good = of.good;
        such = inl (inr (inr (inr (inr (between, above, subst (Climbs (StandsAmong files) between) named rest)))));
        line = refl;
      }))) in
      absurd (omega (arith, past))

  -- ---- among the library's classes

  lower : (a b : Name) → is_of_java a ≡ true → StandsUnder all a b → (is_of_java b ≡ true) × (rank b < rank a)
  lower a b java under =
      elim (either under.class under.there) [
        | inl of ↦
            let named : a ≡ this_name of.read = sym under.named ∙ ap (λ (h : Head). h.name) (ap head_in of.is ∙ head_declared of.read) in
            absurd (reserved_breaks files of.file of.read holds of.among of.good (subst (λ (n : Name). is_of_java n ≡ true) named java))
        | inr row ↦
            let (java', less) = lower_in_library under.class b row under.listed in
            (java', subst (λ (n : Name). rank b < rank n) under.named less)
      ]

  descends : (n : ℕ) (a b : Name) → is_of_java a ≡ true → StandsBelow n all a b → rank b < rank a
  descends zero a b java under = (lower a b java under).1
  descends (suc n) a b java (between, under, below) =
      let (java', less) = lower a between java under in
      let more = descends n between b java' below in
      omega (arith, less, more)

  -- ---- cycles

  pub no_cycle : (name : Name) → IsOwnAncestor all name → ⊥
  no_cycle name (n, below) =
      let (between, under, rest) = first_step n name name below in
      elim (either under.class under.there) [
        | inl of ↦ file_on_cycle name between under rest of
        | inr row ↦
            let java : is_of_java under.class.name ≡ true = all_member (λ (c : Class). is_of_java c.name) library_classes under.class library_reserved row in
            let less = descends n name name (subst (λ (m : Name). is_of_java m ≡ true) under.named java) below in
            absurd (omega (arith, less))
      ]
