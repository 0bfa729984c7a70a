-- Two small programs: a few classes of the library, and classes and arrays beside them; the other one is under a prefix, and has the object that stops a run.
use Rattle.std.specs.Borrow.{Bor}
use Rattle.std.specs.Prelude.{◌≡◌, ℕ, zero, suc, ⊤, ◌&&◌, Bool, true, false, List, [], ◌∷◌, ◌++◌, map, length, Option, Some, None, codes, nat_lt}
use Rattle.dj_names.specs.declared.descriptor.Base.TheVariants as bases
use Rattle.dj_names.specs.declared.descriptor.Ty.{Ty}
use Rattle.dj_names.specs.trusted.Library.{stop_class}
use Rattle.dj_names.specs.trusted.Types.{Name, class_type, base_array, array_type}
use Rattle.dj_model.specs.trusted.Linking.{is_subtype}
use Rattle.dj_model.specs.trusted.Natives.{class_name}
use Rattle.dj_model.specs.trusted.Program.{Class, Program}
use Rattle.dj_model.specs.trusted.Types.{Prefix, object_name, string_name}
use Rattle.dj_library_types.specs.Numbered.{type_at, IsNumberOf, superclass_type, component_of}

abbrev pub class_of : Name → Option Name → Class
class_of name superclass = record {
  name = name;
  flags = 33;
  superclass = superclass;
  interfaces = [];
  unnamed_fields = 0;
  fields = [];
  methods = [];
}

abbrev pub below_object : Prefix → Name → Class
below_object prefix name = class_of name (Some (object_name prefix))

-- a class of java.lang below another one
abbrev pub lang_class : List ℕ → List ℕ → Class
lang_class name superclass = class_of (codes "java/lang/" ++ name) (Some (codes "java/lang/" ++ superclass))

-- é€/Q, in UTF-8
abbrev pub accented : Name
accented = 195 ∷ 169 ∷ 226 ∷ 130 ∷ 172 ∷ 47 ∷ 81 ∷ []

abbrev pub plain_program : Program
plain_program =
    below_object [] (codes "A") ∷ lang_class (codes "ArithmeticException") (codes "RuntimeException") ∷ lang_class (codes "Error") (codes "Throwable")
    ∷ lang_class (codes "Exception") (codes "Throwable") ∷ class_of (object_name []) None ∷ lang_class (codes "RuntimeException") (codes "Exception")
    ∷ below_object [] (string_name []) ∷ lang_class (codes "StringBuilder") (codes "Object") ∷ lang_class (codes "Throwable") (codes "Object")
    ∷ below_object [] (codes "p/B$1") ∷ below_object [] accented ∷ []

abbrev pub plain_arrays : List Ty
plain_arrays =
    base_array bases.Byte ∷ base_array bases.Char ∷ base_array bases.Int ∷ base_array bases.Long ∷ array_type (class_type (object_name []))
    ∷ array_type (class_type (string_name [])) ∷ base_array bases.Short ∷ base_array bases.Boolean ∷ []

abbrev pub box : Prefix
box = codes "sandbox/"

abbrev pub boxed_class : Name
boxed_class = codes "sandbox/p/B"

abbrev pub boxed_program : Program
boxed_program =
    below_object box stop_class ∷ class_of (object_name box) None ∷ below_object box (string_name box) ∷ below_object box boxed_class ∷ []

abbrev pub boxed_arrays : List Ty
boxed_arrays = base_array bases.Char ∷ base_array bases.Int ∷ array_type (class_type boxed_class) ∷ []

-- ---- the program under the prefix, or the other one

abbrev pub few_program : Bool → Program
few_program false = plain_program
few_program true = boxed_program

abbrev pub few_prefix : Bool → Prefix
few_prefix false = []
few_prefix true = box

abbrev pub few_arrays : Bool → List Ty
few_arrays false = plain_arrays
few_arrays true = boxed_arrays

abbrev pub few_types : Bool → List Ty
few_types boxed = map (λ (c : Class). class_type c.name) (few_program boxed) ++ few_arrays boxed

-- ---- all of them

abbrev pub few_names : Bool → List Name
few_names boxed = map class_name (few_types boxed)

-- for each whether it is a subtype of each
abbrev pub few_below : Bool → List (List Bool)
few_below boxed = map (λ (a : Ty). map (is_subtype (few_program boxed) (few_prefix boxed) a) (few_types boxed)) (few_types boxed)

-- whether a class has the fields that another one declares; no class here has interfaces, so the declaring class and those below it have them
abbrev pub few_has : Bool → ℕ → ℕ → Bool
few_has boxed declaring class =
    nat_lt declaring (length (few_types boxed))
    && is_subtype (few_program boxed) (few_prefix boxed) (type_at (few_types boxed) class) (type_at (few_types boxed) declaring)

-- what borrowed lists are
abbrev pub lent_lists : {A : Type 0} → List (Bor (List A)) → List (List A)
lent_lists lists = map (λ list. list.now) lists

-- for each item with its place
abbrev pub AllAt : {A : Type 0} → (ℕ → A → Type 0) → List A → Type 0
AllAt P [] = ⊤
AllAt P (x ∷ xs) = P 0 x × AllAt (λ k. P (suc k)) xs

-- for each number below n
abbrev pub EachBelow : (ℕ → Type 0) → ℕ → Type 0
EachBelow P zero = ⊤
EachBelow P (suc n) = P 0 × EachBelow (λ k. P (suc k)) n

abbrev pub IsSuper : Bool → ℕ → Option ℕ → Type 0
IsSuper boxed class result = IsNumberOf (few_types boxed) (superclass_type (few_program boxed) (type_at (few_types boxed) class)) result

abbrev pub IsComponent : Bool → ℕ → Option ℕ → Type 0
IsComponent boxed class result = IsNumberOf (few_types boxed) (component_of (type_at (few_types boxed) class)) result
