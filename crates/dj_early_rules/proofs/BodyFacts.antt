-- Rule 1 at plain bodies of code and values of fields.
use Rattle.std.proofs.Common.{◌≡◌, ℕ, ◌+◌, ◌*◌, ◌^◌, ◌<◌, List, [], ◌∷◌, get_or, refl, sym, ap, subst, inl, inr, arith, codes, pos, Some}
use Rattle.dj_ops.specs.declared.instruction.Instr.TheVariants as instrs
use Rattle.dj_ops.specs.trusted.Forms.{form_of}
use Rattle.dj_ops.specs.Mnemonics.{return}
use Rattle.dj_cursor.specs.trusted.Spelling.{u2}
use Rattle.dj_pool.specs.trusted.Pool.{Constant, Utf8, Integer, Class, constant_at}
use Rattle.dj_class.specs.trusted.ClassFile.{AttributeInfo, MemberInfo}
use Rattle.dj_class.specs.trusted.Code.{CodeInfo, code_info_bytes, IsCode}
use Rattle.dj_class.proofs.CodeLaws.{one_code}
use Rattle.dj_labels.specs.declared.labelled.Labelled.{Labelled}
use Rattle.dj_labels.specs.trusted.Labels.{IsLabelled}
use Rattle.dj_report.proofs.Sorted.{contains_none, contains_cases}
use Rattle.dj_early_rules.specs.trusted.Malformed.{IsNoBody, HasTwoMaps, IsFaultyCode, IsFaultyBody, IsFaultyMethod, FitsField, IsValueFor, IsFaultyField}

-- 1 to 3 are names of attributes, 4 and 7 descriptors of fields, 5 an int, 6 a class
pool : List Constant
pool =
    Utf8 (codes "Code") ∷ Utf8 (codes "StackMapTable") ∷ Utf8 (codes "ConstantValue") ∷ Utf8 (codes "I") ∷ Integer (pos 7) ∷ Class 4 ∷ Utf8 (codes "Ljava/lang/String;") ∷ []

attribute : ℕ → List ℕ → AttributeInfo
attribute name body = record { name = name; body = body }

-- ---- bodies of code

-- the instruction return alone
returns : List AttributeInfo → CodeInfo
returns attributes = record { max_stack = 0; max_locals = 1; code = return ∷ []; table = []; attributes = attributes }

map-of : AttributeInfo
map-of = attribute 2 (0 ∷ 0 ∷ [])

plain : CodeInfo
plain = returns []

mapped-twice : CodeInfo
mapped-twice = returns (map-of ∷ map-of ∷ [])

plain-is : IsCode (code_info_bytes plain) plain
unfolding plain returns
plain-is = record {
  spelled = refl;
  valid = record {
    max_stack = omega arith;
    max_locals = omega arith;
    some_code = omega arith;
    few_code = omega arith;
    row_count = omega arith;
    rows = tt;
    attribute_count = omega arith;
    attributes = tt;
  };
}

mapped-twice-is : IsCode (code_info_bytes mapped-twice) mapped-twice
unfolding mapped-twice returns map-of attribute
mapped-twice-is = record {
  spelled = refl;
  valid = record {
    max_stack = omega arith;
    max_locals = omega arith;
    some_code = omega arith;
    few_code = omega arith;
    row_count = omega arith;
    rows = tt;
    attribute_count = omega arith;
    attributes = (record { name = omega arith; body = omega arith }, (record { name = omega arith; body = omega arith }, tt));
  };
}

labelled : Labelled
labelled = record { code = instrs.Simple return ∷ []; ranges = [] }

plain-labelled : IsLabelled (return ∷ []) [] labelled
unfolding labelled form_of
plain-labelled = record {
  starts = 0 ∷ [];
  cut = record {
    first = refl;
    each = (record { later = omega arith; within = omega arith; spelled = record { padding = []; padded = refl; offsets = tt; are = refl }; proper = refl }, tt);
  };
  targets = (tt, tt);
  rows = refl;
  ranges = tt;
}

-- no bytes are no body
no-body : IsNoBody []
no-body code is = let none = is.spelled in absurd cc

two-maps : HasTwoMaps pool mapped-twice
unfolding pool mapped-twice returns map-of attribute
two-maps = omega arith

two-maps_not : (HasTwoMaps pool (returns (map-of ∷ [])) → ⊥) × (HasTwoMaps pool (returns (map-of ∷ attribute 1 [] ∷ [])) → ⊥)
unfolding pool returns map-of attribute
two-maps_not = (λ two. absurd (omega (arith, two)), λ two. absurd (omega (arith, two)))

plain-code_not : IsFaultyCode pool plain → ⊥
unfolding pool plain returns
plain-code_not faulty = elim faulty [
  | inl none ↦ none labelled plain-labelled
  | inr two ↦ absurd (omega (arith, two))
]

plain-body_not : IsFaultyBody pool (code_info_bytes plain) → ⊥
plain-body_not faulty = elim faulty [
  | inl none ↦ none plain plain-is
  | inr (code, is, bad) ↦ plain-code_not (subst (IsFaultyCode pool) (one_code (code_info_bytes plain) code plain is plain-is) bad)
]

-- ---- methods

method : ℕ → List AttributeInfo → MemberInfo
method flags attributes = record { flags = flags; name = 4; desc = 4; attributes = attributes }

code : CodeInfo → AttributeInfo
code info = attribute 1 (code_info_bytes info)

-- without code, with two, native or abstract with one, with an empty body, and with a map too many
faulty-methods : IsFaultyMethod pool (method 1 []) × IsFaultyMethod pool (method 1 (code plain ∷ code plain ∷ [])) × IsFaultyMethod pool (method 257 (code plain ∷ [])) × IsFaultyMethod pool (method 1025 (code plain ∷ []))
    × IsFaultyMethod pool (method 1 (attribute 1 [] ∷ [])) × IsFaultyMethod pool (method 1 (code mapped-twice ∷ []))
unfolding pool method code attribute
faulty-methods = (
  inl ((λ is. elim is [ inl n ↦ n refl | inr a ↦ a refl ]), λ e. absurd (omega (arith, e))),
  inl ((λ is. elim is [ inl n ↦ n refl | inr a ↦ a refl ]), λ e. absurd (omega (arith, e))),
  inr (inl (inl (λ e. absurd cc), λ e. absurd cc)),
  inr (inl (inr (λ e. absurd cc), λ e. absurd cc)),
  inr (inr ([], (0, omega arith, refl), inl no-body)),
  inr (inr (code_info_bytes mapped-twice, (0, omega arith, refl), inr (mapped-twice, mapped-twice-is, inr two-maps))),
)

-- with one body, and abstract without; an attribute of another name is no body
plain-method_not : IsFaultyMethod pool (method 1 (attribute 2 [] ∷ code plain ∷ [])) → ⊥
unfolding pool method code attribute
plain-method_not faulty = elim faulty [
  | inl lacks ↦ lacks.1 refl
  | inr (inl needless) ↦ elim needless.0 [ inl n ↦ n refl | inr a ↦ a refl ]
  | inr (inr (body, own, bad)) ↦ elim (contains_cases (code_info_bytes plain) [] body own) [
    | inl same ↦ plain-body_not (subst (IsFaultyBody pool) (sym same) bad)
    | inr none ↦ contains_none body none
  ]
]

abstract-method_not : IsFaultyMethod pool (method 1025 (attribute 2 [] ∷ [])) → ⊥
unfolding pool method attribute
abstract-method_not faulty = elim faulty [
  | inl lacks ↦ lacks.0 (inr (λ e. absurd cc))
  | inr (inl needless) ↦ needless.1 refl
  | inr (inr (body, own, bad)) ↦ contains_none body own
]

-- ---- values of fields

field : ℕ → List AttributeInfo → MemberInfo
field desc attributes = record { flags = 8; name = 4; desc = desc; attributes = attributes }

value : List ℕ → AttributeInfo
value body = attribute 3 body

int-value : IsValueFor pool 4 (0 ∷ 5 ∷ [])
unfolding pool
int-value = record { index = 5; small = omega arith; are = refl; names = record { constant = Integer (pos 7); found = refl; text = codes "I"; described = refl; fits = inr (inr (inl refl)) } }

-- three bytes
long-value_not : IsValueFor pool 4 (0 ∷ 5 ∷ 0 ∷ []) → ⊥
long-value_not is = let are = is.are in absurd cc

two-bytes : (a b index : ℕ) → a ∷ b ∷ [] ≡ u2 index → index < 2 ^ 16 → index ≡ a * 256 + b
two-bytes a b index are small =
    let high = ap (λ (xs : List ℕ). get_or xs 0 0) are in
    let low = ap (λ (xs : List ℕ). get_or xs 1 0) are in
    omega (arith, high, low, small)

-- a class for an int
class-value_not : IsValueFor pool 4 (0 ∷ 6 ∷ []) → ⊥
unfolding pool
class-value_not is =
    let found : constant_at pool 6 ≡ Some is.names.constant = subst (λ (k : ℕ). constant_at pool k ≡ Some is.names.constant) (two-bytes 0 6 is.index is.are is.small) is.names.found in
    let same : Class 4 ≡ is.names.constant = cc in
    subst (λ (k : Constant). FitsField k is.names.text) (sym same) is.names.fits

-- two values, one of three bytes, and one of another kind
faulty-fields : IsFaultyField pool (field 4 (value (0 ∷ 5 ∷ []) ∷ value (0 ∷ 5 ∷ []) ∷ [])) × IsFaultyField pool (field 4 (value (0 ∷ 5 ∷ 0 ∷ []) ∷ [])) × IsFaultyField pool (field 4 (value (0 ∷ 6 ∷ []) ∷ []))
unfolding pool field value attribute
faulty-fields = (
  inl (omega arith),
  inr (0 ∷ 5 ∷ 0 ∷ [], (0, omega arith, refl), long-value_not),
  inr (0 ∷ 6 ∷ [], (0, omega arith, refl), class-value_not),
)

-- one that fits, and none
int-field_not : IsFaultyField pool (field 4 (value (0 ∷ 5 ∷ []) ∷ [])) → ⊥
unfolding pool field value attribute
int-field_not faulty = elim faulty [
  | inl two ↦ absurd (omega (arith, two))
  | inr (body, own, bad) ↦ elim (contains_cases (0 ∷ 5 ∷ []) [] body own) [
    | inl same ↦ bad (subst (IsValueFor pool 4) same int-value)
    | inr none ↦ contains_none body none
  ]
]

string-field_not : IsFaultyField pool (field 7 (attribute 2 [] ∷ [])) → ⊥
unfolding pool field attribute
string-field_not faulty = elim faulty [
  | inl two ↦ absurd (omega (arith, two))
  | inr (body, own, bad) ↦ contains_none body own
]
