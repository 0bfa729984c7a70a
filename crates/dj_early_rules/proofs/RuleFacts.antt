-- The rules 4, 10, 11, 12 and 16 at more plain values, and lines of files.
use Rattle.std.proofs.Common.{◌≡◌, ℕ, List, [], ◌∷◌, get_or, Some, None, refl, ap, subst, inl, inr, arith, codes}
use Rattle.dj_names.specs.declared.descriptor.Base.TheVariants as bases
use Rattle.dj_names.specs.declared.descriptor.Of.TheVariants as ofs
use Rattle.dj_names.specs.declared.descriptor.Ty.{Ty}
use Rattle.dj_names.specs.declared.descriptor.Desc.{Desc}
use Rattle.dj_names.specs.declared.descriptor.Desc.TheVariants as descs
use Rattle.dj_names.specs.trusted.Descriptors.{Describes}
use Rattle.dj_names.proofs.DescLaws.{described_once}
use Rattle.dj_ops.specs.declared.instruction.Instr.TheVariants as instrs
use Rattle.dj_ops.specs.declared.frames.VType.TheVariants as types
use Rattle.dj_ops.specs.declared.frames.Form.TheVariants as forms
use Rattle.dj_ops.specs.Mnemonics.{nop, return}
use Rattle.dj_labels.specs.declared.labelled.Protected.{Protected}
use Rattle.dj_labels.specs.declared.labelled.Labelled.{Labelled}
use Rattle.dj_pool.specs.trusted.Pool.{Constant, Utf8, Class, NameAndType, MethodType}
use Rattle.dj_class.specs.trusted.ClassFile.{AttributeInfo, MemberInfo, ClassFile}
use Rattle.dj_report.specs.declared.report.Violation.{Violation}
use Rattle.dj_report.specs.trusted.Lines.{file_line}
use Rattle.dj_report.proofs.Sorted.{contains_none}
use Rattle.dj_file_rules.specs.trusted.Violations.{this_name}
use Rattle.dj_early_rules.specs.trusted.Malformed.{IsRefused}
use Rattle.dj_early_rules.specs.trusted.Classes.{IsReserved, IsReflective, IsGetClass, IsUncatchable}
use Rattle.dj_early_rules.specs.trusted.Floats.{MentionsFloat, HasFloat}
use Rattle.dj_early_rules.specs.trusted.Code.{HasFloatType}
use Rattle.dj_early_rules.specs.trusted.Members.{IsFloatConstant, IsFloatField, IsFloatMethod, IsInterfaceMethod}
use Rattle.dj_early_rules.specs.trusted.Methods.{CodeViolates}
use Rattle.dj_early_rules.specs.trusted.Rules.{IsMemberLine, IsNamingLine, IsLoneLine, FieldViolates}
use Rattle.dj_early_rules.proofs.FileLaws.{refused_not_good}

-- ---- names

reflective : IsReflective (codes "java/lang/ClassLoader") × IsReflective (codes "java/lang/invoke/MethodHandle")
reflective = (inr (inl refl), inr (inr (inr refl)))

get-class : IsGetClass (codes "getClass", codes "()Ljava/lang/Class;")
get-class = (refl, refl)

-- of another descriptor, and of another name
get-class_not : (IsGetClass (codes "getClass", codes "()V") → ⊥) × (IsGetClass (codes "hashCode", codes "()Ljava/lang/Class;") → ⊥)
get-class_not = (
  λ is. let letter : 86 ≡ 76 = ap (λ (t : List ℕ). get_or t 2 0) is.1 in absurd (omega (arith, letter)),
  λ is. let letter : 104 ≡ 103 = ap (λ (t : List ℕ). get_or t 0 0) is.0 in absurd (omega (arith, letter)),
)

uncatchable : IsUncatchable (codes "java/lang/ThreadDeath") × IsUncatchable (codes "java/lang/VirtualMachineError") × IsUncatchable (codes "java/lang/StackOverflowError") × IsUncatchable (codes "java/lang/OutOfMemoryError")
uncatchable = (inl refl, inr (inl refl), inr (inr (inl refl)), inr (inr (inr refl)))

-- a superclass of theirs
uncatchable_not : IsUncatchable (codes "java/lang/Error") → ⊥
uncatchable_not is = elim is [
  | inl e ↦ let letter : 69 ≡ 84 = ap (λ (t : List ℕ). get_or t 10 0) e in absurd (omega (arith, letter))
  | inr (inl e) ↦ let letter : 69 ≡ 86 = ap (λ (t : List ℕ). get_or t 10 0) e in absurd (omega (arith, letter))
  | inr (inr (inl e)) ↦ let letter : 69 ≡ 83 = ap (λ (t : List ℕ). get_or t 10 0) e in absurd (omega (arith, letter))
  | inr (inr (inr e)) ↦ let letter : 69 ≡ 79 = ap (λ (t : List ℕ). get_or t 10 0) e in absurd (omega (arith, letter))
]

-- ---- rule 12, descriptors of constants and members

-- 1 to 3 are types of fields, 5 that of a method, 8 a method's name and 12 that of a class
pool : List Constant
pool =
    Utf8 (codes "F") ∷ Utf8 (codes "I") ∷ Utf8 (codes "[D") ∷ Class 3 ∷ Utf8 (codes "([D)V") ∷ MethodType 5 ∷ NameAndType 2 1 ∷ Utf8 (codes "<clinit>") ∷ NameAndType 1 2 ∷ Class 1 ∷ Class 12 ∷ Utf8 (codes "java/lang/ThreadDeath") ∷ []

float-ty : Ty
float-ty = record { dims = 0; of = ofs.Base bases.Float }

int-ty : Ty
int-ty = record { dims = 0; of = ofs.Base bases.Int }

doubles-ty : Ty
doubles-ty = record { dims = 1; of = ofs.Base bases.Double }

method-desc : Desc
method-desc = descs.Method (doubles-ty ∷ []) None

float-text : HasFloat (codes "F")
unfolding float-ty
float-text = (descs.Field float-ty, record { text_is = refl; valid = record { few = omega arith; named = tt } }, inl refl)

int-described : Describes (codes "I") (descs.Field int-ty)
unfolding int-ty
int-described = record { text_is = refl; valid = record { few = omega arith; named = tt } }

int-text_not : HasFloat (codes "I") → ⊥
unfolding int-ty
int-text_not (desc, described, mentions) = elim (subst MentionsFloat (described_once (codes "I") desc (descs.Field int-ty) described int-described) mentions) [
  | inl e ↦ absurd cc
  | inr e ↦ absurd cc
]

-- a name and a type, and the class of an array; the name doesn't count, and a class isn't that of an array
float-constants : IsFloatConstant pool (NameAndType 2 1) × IsFloatConstant pool (MethodType 5) × IsFloatConstant pool (Class 3)
unfolding pool doubles-ty method-desc
float-constants = (
  float-text,
  (method-desc, record { text_is = refl; valid = ((record { few = omega arith; named = tt }, tt), tt, omega arith) }, inl (doubles-ty, (0, omega arith, refl), inr refl)),
  record { ty = doubles-ty; array = omega arith; described = record { text_is = refl; valid = record { few = omega arith; named = tt } }; floating = inr refl },
)

float-constants_not : IsFloatConstant pool (NameAndType 1 2) → ⊥
unfolding pool
float-constants_not is = int-text_not is

float-class_not : IsFloatConstant pool (Class 1) → ⊥
unfolding pool float-ty
float-class_not is =
    let same = described_once (codes "F") (descs.Field is.ty) (descs.Field float-ty) is.described (record { text_is = refl; valid = record { few = omega arith; named = tt } }) in
    let dims : is.ty.dims ≡ 0 = ap dims-in same in
    let some = is.array in
    absurd (omega (arith, dims, some)) where
      dims-in : Desc → ℕ
      dims-in (descs.Field ty) = ty.dims
      dims-in (descs.Method params ret) = 1

member : ℕ → ℕ → List AttributeInfo → MemberInfo
member name desc attributes = record { flags = 1; name = name; desc = desc; attributes = attributes }

float-members : IsFloatField pool (member 2 1 []) × IsFloatMethod pool (member 2 1 [])
unfolding pool member
float-members = (float-text, inl float-text)

float-field_not : IsFloatField pool (member 1 2 []) → ⊥
unfolding pool member
float-field_not is = int-text_not is

-- ---- rule 12, frames

float-frames : HasFloatType (record { at = 0; form = forms.Append (types.Long ∷ types.Float ∷ []) }) × HasFloatType (record { at = 0; form = forms.Stack1 types.Double })
float-frames = (
  (types.Float, (1, omega arith, refl), inl refl),
  (types.Double, (0, omega arith, refl), inr refl),
)

float-frames_not : HasFloatType (record { at = 0; form = forms.Same }) → ⊥
float-frames_not (type, own, is) = contains_none type own

-- ---- rule 16, the initialiser

class : ℕ → ClassFile
class flags = record {
  minor = 0;
  major = 52;
  pool = pool;
  flags = flags;
  this_class = 10;
  super_class = 0;
  interfaces = [];
  fields = [];
  methods = [];
  attributes = [];
}

initialiser_not : IsInterfaceMethod (class 512) (member 8 2 []) → ⊥
unfolding class pool member
initialiser_not is = is.1 refl

-- ---- rule 11, a handler's first instruction

range : Protected
range = record { start = 0; end = 1; handler = 2; catch_type = 11 }

labelled : Labelled
labelled = record { code = instrs.Simple nop ∷ instrs.Simple nop ∷ instrs.Simple return ∷ []; ranges = range ∷ [] }

handler : CodeViolates pool labelled 2 11
unfolding pool labelled range
handler = inr (record { range = range; own = (0, omega arith, refl); begins = refl; catches = inl refl; is = refl })

-- ---- lines of a file

-- one that rule 1 refuses has that line and no other
refused-line : (p b : List ℕ) → IsRefused b → IsLoneLine (p, b) (file_line p 1)
refused-line p b refused = inl (refused, refl)

refused-line_not : (p b : List ℕ) (v : Violation) → IsRefused b → IsLoneLine (p, b) v → v ≡ file_line p 1
refused-line_not p b v refused is = elim is [ inl line ↦ line.1 | inr (c, good, line) ↦ absurd (refused_not_good b c good refused) ]

-- a field's line has no number, and rule 12
field-lines : FieldViolates (class 33) (member 2 1 []) None 12
unfolding class pool member
field-lines = (float-text, refl, refl)

field-lines_not : (FieldViolates (class 33) (member 2 1 []) (Some 0) 12 → ⊥) × (FieldViolates (class 33) (member 2 1 []) None 11 → ⊥)
field-lines_not = (λ is. let none = is.1 in absurd cc, λ is. let rule = is.2 in absurd (omega (arith, rule)))

-- the line of a field, and that of the class's constants
field-line : (p : List ℕ) → IsMemberLine (FieldViolates (class 33)) (member 2 1 [] ∷ []) p (class 33) (record { path = p; member = codes "IF"; number = None; rule = 12 })
unfolding class pool member
field-line p = record { member = member 2 1 []; own = (0, omega arith, refl); number = None; rule = 12; such = (float-text, refl, refl); line = refl }

constants-line : (p : List ℕ) → IsNamingLine p (class 33) (file_line p 12)
unfolding class pool
constants-line p = inr ((NameAndType 2 1, (6, omega arith, refl), float-text), refl)

-- the name F isn't reserved
reserved-line_not : IsReserved (this_name (class 33)) → ⊥
unfolding class pool
reserved-line_not is = elim is [ inl e ↦ absurd cc | inr (inl e) ↦ absurd cc | inr (inr e) ↦ absurd cc ]
