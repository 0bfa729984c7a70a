-- Classes that stand above themselves, and files of which some do, by plain values.
use Rattle.std.proofs.Common.{◌≡◌, ℕ, zero, suc, ◌<◌, Bool, true, List, [], ◌∷◌, ◌++◌, map, length, codes, Contains, Option, Some, None, refl, sym, ap, ◌∙◌, subst, inl, inr, arith}
use Rattle.std.specs.Prelude.{nat_lt, reverse, if◌then◌else◌}
use Rattle.std.specs.List.{list_all}
use Rattle.std.proofs.lemmas.Bool.Decides.{nat_tests}
use Rattle.dj_names.specs.trusted.Types.{Name, same_name}
use Rattle.dj_names.specs.trusted.Library.{LibraryClass, Library, deterministic_library, raw_library, lang, object_class, text_rows, interface_rows, exception_rows}
use Rattle.dj_pool.proofs.Decides.{tests_decide}
use Rattle.dj_class.specs.trusted.ClassFile.{ClassFile}
use Rattle.dj_class.proofs.AnswerFacts.{class_a-is, class_b-is}
use Rattle.dj_class.proofs.ClassLaws.{one_class_file}
use Rattle.dj_class.proofs.Facts.{class_a, bytes_a, class_b, bytes_b}
use Rattle.dj_model.specs.trusted.Program.{Class}
use Rattle.dj_model.specs.SmallRuns.{class_with}
use Rattle.dj_report.proofs.Sorted.{contains_first, contains_later, contains_none, contains_cases}
use Rattle.dj_declarations.specs.trusted.Files.{declared_class}
use Rattle.dj_loader.specs.Loads.{above_names, StandsUnder, StandsBelow}
use Rattle.dj_class_set.specs.Late.{AreReadFiles, IsJudging, with_library, HasCycle, GoesRound}
use Rattle.dj_class_set.proofs.LibraryDescriptors.{both}

-- ---- classes that stand lower than those above them, by a list of names from above

abbrev rank : List Name → Name → ℕ
rank [] name = 0
rank (n ∷ names) name = if same_name n name then suc (length names) else rank names name

abbrev is_lower : List Name → Class → Name → Bool
is_lower downward c above = nat_lt (rank downward above) (rank downward c.name)

abbrev all_lower : List Name → List Class → Bool
all_lower downward classes = list_all (λ c. list_all (is_lower downward c) (above_names c)) classes

all_member : {A : Type 0} (test : A → Bool) (xs : List A) (x : A) → list_all test xs ≡ true → Contains xs x → test x ≡ true
all_member test [] x all m = absurd (contains_none x m)
all_member test (y ∷ xs) x all m =
    let each = both (test y) (list_all test xs) all in
    elim (contains_cases y xs x m) [
      | inl e ↦ subst (λ z. test z ≡ true) e each.0
      | inr later ↦ all_member test xs x each.1 later
    ]

less_from_test : (m n : ℕ) → nat_lt m n ≡ true → m < n
less_from_test m n e = grind (arith, nat_tests)

module _ (downward : List Name) (classes : List Class) (all : all_lower downward classes ≡ true) where
  lower : (name above : Name) → StandsUnder classes name above → rank downward above < rank downward name
  lower name above under =
      let own = all_member (λ (c : Class). list_all (is_lower downward c) (above_names c)) classes under.class all under.there in
      let test = all_member (is_lower downward under.class) (above_names under.class) above own under.listed in
      subst (λ (n : Name). rank downward above < rank downward n) under.named (less_from_test (rank downward above) (rank downward under.class.name) test)

  descends : (n : ℕ) (name above : Name) → StandsBelow n classes name above → rank downward above < rank downward name
  descends zero name above under = lower name above under
  descends (suc n) name above (between, under, below) =
      let first = lower name between under in
      let rest = descends n between above below in
      omega (arith, first, rest)

  no_cycle : HasCycle classes → ⊥
  no_cycle (name, (n, below)) = let less = descends n name name below in omega (arith, less)

-- ---- classes

abbrev a : Name
a = codes "A"

abbrev b : Name
b = codes "B"

abbrev class : Name → Option Name → List Name → Class
class name superclass interfaces = record (class_with name [] []) { superclass = superclass; interfaces = interfaces }

under : (classes : List Class) (c : Class) (above : Name) → Contains classes c → Contains (above_names c) above → StandsUnder classes c.name above
under classes c above there listed = record { class = c; there = there; named = refl; listed = listed }

own_superclass : HasCycle (class a (Some a) [] ∷ [])
own_superclass = (a, (0, under (class a (Some a) [] ∷ []) (class a (Some a) []) a (contains_first (class a (Some a) []) []) (contains_first a [])))

own_interface : HasCycle (class a (Some b) (a ∷ []) ∷ [])
own_interface = (a, (0, under (class a (Some b) (a ∷ []) ∷ []) (class a (Some b) (a ∷ [])) a (contains_first (class a (Some b) (a ∷ [])) []) (contains_later b (a ∷ []) a (contains_first a []))))

-- A lists B, whose superclass is A
abbrev a_lists : Class
a_lists = class a None (b ∷ [])

abbrev b_below : Class
b_below = class b (Some a) []

ring_of_both : HasCycle (a_lists ∷ b_below ∷ [])
ring_of_both = (
  a,
  (
    1,
    (
      b,
      under (a_lists ∷ b_below ∷ []) a_lists b (contains_first a_lists (b_below ∷ [])) (contains_first b []),
      under (a_lists ∷ b_below ∷ []) b_below a (contains_later a_lists (b_below ∷ []) b_below (contains_first b_below [])) (contains_first a []),
    ),
  ),
)

none : HasCycle [] → ⊥
none = no_cycle [] [] refl

-- one below the other alone, and below what isn't there
row : HasCycle (a_lists ∷ class b None [] ∷ []) → ⊥
row = no_cycle (a ∷ b ∷ []) (a_lists ∷ class b None [] ∷ []) refl

absent : HasCycle (a_lists ∷ []) → ⊥
absent = no_cycle (a ∷ b ∷ []) (a_lists ∷ []) refl

-- ---- files: the class A lists itself in the bytes b, and has Object above it in the bytes a

abbrev a_path : List ℕ
a_path = codes "A.class"

lists_itself : (library : Library) → HasCycle (with_library library (declared_class class_b ∷ []))
unfolding declared_class class_b
lists_itself library = (
  a,
  (
    0,
    record {
      class = declared_class class_b;
      there = contains_first (declared_class class_b) (with_library library []);
      named = refl;
      listed = contains_first a [];
    },
  ),
)

round : (library : Library) → GoesRound library ((a_path, bytes_b) ∷ [])
round library = (declared_class class_b ∷ [], (class_b ∷ [], (class_b-is, tt), refl), lists_itself library)

-- whatever stands beside it
round_beside : (library : Library) → GoesRound library ((a_path, bytes_a) ∷ (a_path, bytes_b) ∷ [])
unfolding declared_class class_b
round_beside library = (
  declared_class class_a ∷ declared_class class_b ∷ [],
  (class_a ∷ class_b ∷ [], (class_a-is, (class_b-is, tt)), refl),
  (
    a,
    (
      0,
      record {
        class = declared_class class_b;
        there = contains_later (declared_class class_a) (with_library library (declared_class class_b ∷ [])) (declared_class class_b)
            (contains_first (declared_class class_b) (with_library library []));
        named = refl;
        listed = contains_first a [];
      },
    ),
  ),
)

-- the libraries' classes from those without any below them up to Object
abbrev library_name : LibraryClass → Name
library_name c = c.name

abbrev downward : List Name
downward = a ∷ reverse (object_class ∷ lang (codes "System") ∷ map library_name (interface_rows ++ text_rows ++ exception_rows))

-- a fact of both libraries
at_both : (P : Library → Type 0) → P deterministic_library → P raw_library → (library : Library) → IsJudging library → P library
at_both P deterministic raw library (inl is) = subst P (sym is) deterministic
at_both P deterministic raw library (inr is) = subst P (sym is) raw

deterministic_lower : all_lower downward (with_library deterministic_library []) ≡ true
deterministic_lower = refl

raw_lower : all_lower downward (with_library raw_library []) ≡ true
raw_lower = refl

library_lower : (library : Library) → IsJudging library → all_lower downward (with_library library []) ≡ true
library_lower = at_both (λ library. all_lower downward (with_library library []) ≡ true) deterministic_lower raw_lower

no_file : (library : Library) → IsJudging library → GoesRound library [] → ⊥
no_file library judging (declared, (classes, read, are), cycle) = by classes read are where
  by : (classes : List ClassFile) → AreReadFiles [] classes → declared ≡ map declared_class classes → ⊥
  by [] read are =
      no_cycle downward (with_library library []) (library_lower library judging) (subst (λ (cs : List Class). HasCycle (with_library library cs)) are cycle)
  by (c ∷ classes) read are = absurd read

deterministic_lower-a : all_lower downward (with_library deterministic_library (declared_class class_a ∷ [])) ≡ true
unfolding declared_class class_a
deterministic_lower-a = refl

raw_lower-a : all_lower downward (with_library raw_library (declared_class class_a ∷ [])) ≡ true
unfolding declared_class class_a
raw_lower-a = refl

none_of_a : (library : Library) → IsJudging library → HasCycle (with_library library (declared_class class_a ∷ [])) → ⊥
none_of_a library judging =
    no_cycle downward (with_library library (declared_class class_a ∷ []))
    (at_both (λ l. all_lower downward (with_library l (declared_class class_a ∷ [])) ≡ true) deterministic_lower-a raw_lower-a library judging)

below_object : (library : Library) → IsJudging library → GoesRound library ((a_path, bytes_a) ∷ []) → ⊥
below_object library judging (declared, (classes, read, are), cycle) =
    none_of_a library judging (subst (λ (cs : List Class). HasCycle (with_library library cs)) (are ∙ ap (map declared_class) (alone classes read)) cycle) where
      alone : (classes : List ClassFile) → AreReadFiles ((a_path, bytes_a) ∷ []) classes → classes ≡ class_a ∷ []
      alone [] read = absurd read
      alone (c ∷ []) read = ap (λ (x : ClassFile). x ∷ []) (one_class_file tests_decide bytes_a c class_a read.0 class_a-is)
      alone (c ∷ (d ∷ classes)) read = absurd read.1

-- files of which one is no class file have no cycle
malformed : (library : Library) → GoesRound library ((a_path, []) ∷ (a_path, bytes_b) ∷ []) → ⊥
malformed library (declared, (classes, read, are), cycle) = by classes read where
  by : (classes : List ClassFile) → AreReadFiles ((a_path, []) ∷ (a_path, bytes_b) ∷ []) classes → ⊥
  by [] read = read
  by (c ∷ classes) read = let spelled = read.0.spelled in absurd cc
