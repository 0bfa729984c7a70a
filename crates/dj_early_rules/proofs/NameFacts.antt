-- Rule 5 on two files, and rule 10 at classes and arrays.
use Rattle.std.proofs.Common.{◌≡◌, ℕ, zero, suc, ◌⊎◌, List, [], ◌∷◌, get_or, refl, sym, ap, ◌∙◌, subst, inl, inr, arith, codes, Some, slice_get}
use Rattle.dj_names.specs.declared.descriptor.Base.TheVariants as bases
use Rattle.dj_names.specs.declared.descriptor.Of.TheVariants as ofs
use Rattle.dj_names.specs.declared.descriptor.Ty.{Ty}
use Rattle.dj_names.specs.declared.descriptor.Desc.{Desc}
use Rattle.dj_names.specs.declared.descriptor.Desc.TheVariants as descs
use Rattle.dj_names.specs.trusted.Names.{IsClassName}
use Rattle.dj_names.specs.trusted.NameReading.{reads_class_name}
use Rattle.dj_names.specs.Tests.{class_name_test}
use Rattle.dj_names.specs.trusted.Descriptors.{Describes}
use Rattle.dj_names.proofs.DescLaws.{described_once}
use Rattle.dj_names.proofs.TestLaws.{class_name_test-decides}
use Rattle.dj_edge.specs.trusted.Held.{File}
use Rattle.dj_class.specs.trusted.ClassFile.{ClassFile}
use Rattle.dj_class.proofs.ClassLaws.{one_class_file}
use Rattle.dj_pool.proofs.Decides.{tests_decide}
use Rattle.dj_pool.specs.trusted.Pool.{Constant, Utf8, Class, Method, NameAndType}
use Rattle.dj_report.specs.declared.report.Violation.{Violation}
use Rattle.dj_report.specs.trusted.Lines.{file_line}
use Rattle.dj_file_rules.specs.trusted.Violations.{this_name}
use Rattle.dj_early_rules.specs.trusted.Malformed.{IsGood, IsRefused}
use Rattle.dj_early_rules.specs.trusted.Classes.{IsReflective, IsReflectiveText, NamesReflective, element_class}
use Rattle.dj_early_rules.specs.trusted.Rules.{IsDuplicateLine}
use Rattle.dj_early_rules.proofs.FileLaws.{refused_not_good}

-- ---- rule 5

-- two files of one name, each of them; the paths and the bytes may be the same
doubles : (p q a b : List ℕ) (c d : ClassFile) → IsGood a c → IsGood b d → this_name c ≡ this_name d → IsDuplicateLine ((p, a) ∷ (q, b) ∷ []) (file_line p 5) × IsDuplicateLine ((p, a) ∷ (q, b) ∷ []) (file_line q 5)
doubles p q a b c d good other same = (
  record { place = 0; file = (p, a); stands = refl; class = c; good = good; double = record { other = 1; apart = λ e. absurd (omega (arith, e)); file = (q, b); stands = refl; class = d; good = other; same = sym same }; line = refl },
  record { place = 1; file = (q, b); stands = refl; class = d; good = other; double = record { other = 0; apart = λ e. absurd (omega (arith, e)); file = (p, a); stands = refl; class = c; good = good; same = same }; line = refl },
)

in-one : (x y : File) (i : ℕ) → slice_get (x ∷ []) i ≡ Some y → i ≡ 0
in-one x y zero e = refl
in-one x y (suc zero) e = absurd cc
in-one x y (suc (suc i)) e = absurd cc

-- a file by itself
lone_not : (file : File) (v : Violation) → IsDuplicateLine (file ∷ []) v → ⊥
lone_not file v is = is.double.apart (in-one file is.double.file is.double.other is.double.stands ∙ sym (in-one file is.file is.place is.stands))

in-two : (x y z : File) (i : ℕ) → slice_get (x ∷ y ∷ []) i ≡ Some z → (i ≡ 0) ⊎ ((i ≡ 1) × (y ≡ z))
in-two x y z zero e = inl refl
in-two x y z (suc zero) e = inr (refl, cc)
in-two x y z (suc (suc zero)) e = absurd cc
in-two x y z (suc (suc (suc i))) e = absurd cc

-- a file that rule 1 refuses is no other
refused_not : (p q a b : List ℕ) (v : Violation) → IsRefused b → IsDuplicateLine ((p, a) ∷ (q, b) ∷ []) v → ⊥
refused_not p q a b v refused is = elim (in-two (p, a) (q, b) is.file is.place is.stands) [
  | inl first ↦ elim (in-two (p, a) (q, b) is.double.file is.double.other is.double.stands) [
    | inl again ↦ is.double.apart (again ∙ sym first)
    | inr (second, same) ↦ refused_not_good b is.double.class (subst (λ (f : File). IsGood f.1 is.double.class) (sym same) is.double.good) refused
  ]
  | inr (second, same) ↦ refused_not_good b is.class (subst (λ (f : File). IsGood f.1 is.class) (sym same) is.good) refused
]

-- files of different names
one-name : (b : List ℕ) (c d : ClassFile) (file : File) (bytes : (List ℕ) × (List ℕ)) → IsGood b c → bytes ≡ file → bytes.1 ≡ b → IsGood file.1 d → this_name d ≡ this_name c
one-name b c d file bytes good same is other =
    let other' : IsGood b d = subst (λ (t : List ℕ). IsGood t d) is (subst (λ (f : File). IsGood f.1 d) (sym same) other) in
    ap this_name (one_class_file tests_decide b d c other'.file good.file)

in-either : (x y z : File) (i : ℕ) → slice_get (x ∷ y ∷ []) i ≡ Some z → ((i ≡ 0) × (x ≡ z)) ⊎ ((i ≡ 1) × (y ≡ z))
in-either x y z zero e = inl (refl, cc)
in-either x y z (suc zero) e = inr (refl, cc)
in-either x y z (suc (suc zero)) e = absurd cc
in-either x y z (suc (suc (suc i))) e = absurd cc

apart_not : (p q a b : List ℕ) (c d : ClassFile) (v : Violation) → IsGood a c → IsGood b d → (this_name c ≡ this_name d → ⊥) → IsDuplicateLine ((p, a) ∷ (q, b) ∷ []) v → ⊥
apart_not p q a b c d v good other differ is = elim (in-either (p, a) (q, b) is.file is.place is.stands) [
  | inl first ↦ elim (in-either (p, a) (q, b) is.double.file is.double.other is.double.stands) [
    | inl again ↦ is.double.apart (again.0 ∙ sym first.0)
    | inr second ↦ differ (sym (one-name a c is.class is.file (p, a) good first.1 refl is.good) ∙ sym is.double.same ∙ one-name b d is.double.class is.double.file (q, b) other second.1 refl is.double.good)
  ]
  | inr second ↦ elim (in-either (p, a) (q, b) is.double.file is.double.other is.double.stands) [
    | inl first ↦ differ (sym (one-name a c is.double.class is.double.file (p, a) good first.1 refl is.double.good) ∙ is.double.same ∙ one-name b d is.class is.file (q, b) other second.1 refl is.good)
    | inr again ↦ is.double.apart (again.0 ∙ sym second.0)
  ]
]

-- ---- rule 10, classes

class-ty : Ty
class-ty = record { dims = 1; of = ofs.Class (codes "java/lang/Class") }

int-ty : Ty
int-ty = record { dims = 1; of = ofs.Base bases.Int }

class-named : IsClassName (codes "java/lang/Class")
unfolding class_name_test reads_class_name
class-named = (class_name_test-decides (codes "java/lang/Class")).0 refl

-- the class, and an array of it
reflective-texts : IsReflectiveText (codes "java/lang/Class") × IsReflectiveText (codes "[Ljava/lang/Class;")
unfolding class-ty
reflective-texts = (
  record { class = codes "java/lang/Class"; stands = inl (class-named, refl); reflective = inl refl },
  record {
    class = codes "java/lang/Class";
    stands = inr (record { ty = class-ty; array = omega arith; described = record { text_is = refl; valid = record { few = omega arith; named = class-named } }; element = refl });
    reflective = inl refl;
  },
)

object_not : IsReflective (codes "java/lang/Object") → ⊥
object_not is = elim is [
  | inl e ↦ let letter : 79 ≡ 67 = ap (λ (t : List ℕ). get_or t 10 0) e in absurd (omega (arith, letter))
  | inr (inl e) ↦ let letter : 79 ≡ 67 = ap (λ (t : List ℕ). get_or t 10 0) e in absurd (omega (arith, letter))
  | inr (inr (inl e)) ↦ absurd cc
  | inr (inr (inr e)) ↦ absurd cc
]

ints_not : IsReflective (codes "[I") → ⊥
ints_not is = elim is [
  | inl e ↦ absurd cc
  | inr (inl e) ↦ absurd cc
  | inr (inr (inl e)) ↦ absurd cc
  | inr (inr (inr e)) ↦ absurd cc
]

type-in : Desc → Ty
type-in (descs.Field ty) = ty
type-in (descs.Method params ret) = int-ty

ints-described : Describes (codes "[I") (descs.Field int-ty)
unfolding int-ty
ints-described = record { text_is = refl; valid = record { few = omega arith; named = tt } }

-- an array of a base type stands for Object
reflective-texts_not : IsReflectiveText (codes "[I") → ⊥
unfolding int-ty type-in
reflective-texts_not is = elim is.stands [
  | inl (name, same) ↦ ints_not (subst IsReflective same is.reflective)
  | inr array ↦
      let ty : array.ty ≡ int-ty = ap type-in (described_once (codes "[I") (descs.Field array.ty) (descs.Field int-ty) array.described ints-described) in
      object_not (subst IsReflective (array.element ∙ ap (λ (t : Ty). element_class t.of) ty) is.reflective)
]

-- the class of a member counts, and that of an array
pool : List Constant
pool = Utf8 (codes "[Ljava/lang/Class;") ∷ Class 1 ∷ Utf8 (codes "f") ∷ Utf8 (codes "()V") ∷ NameAndType 3 4 ∷ Method 2 5 ∷ Utf8 (codes "[I") ∷ Class 7 ∷ Method 8 5 ∷ []

named-reflective : NamesReflective pool (Class 1) × NamesReflective pool (Method 2 5)
unfolding pool
named-reflective = (reflective-texts.1, reflective-texts.1)

named-reflective_not : (NamesReflective pool (Class 7) → ⊥) × (NamesReflective pool (Method 8 5) → ⊥) × (NamesReflective pool (NameAndType 3 4) → ⊥)
unfolding pool
named-reflective_not = (reflective-texts_not, reflective-texts_not, λ is. is)
