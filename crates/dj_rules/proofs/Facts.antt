-- Rule 5 among three files, what silences rule 19 of a method, and what silences the rules 17 and 18 of a handler, at plain values.
use Rattle.std.proofs.Common.{◌≡◌, ℕ, zero, suc, ◌⊎◌, List, [], ◌∷◌, Option, None, Some, slice_get, refl, sym, ap, ◌∙◌, subst, inl, inr, arith, codes, Contains}
use Rattle.dj_names.specs.declared.descriptor.Base.TheVariants as bases
use Rattle.dj_names.specs.declared.descriptor.Of.TheVariants as ofs
use Rattle.dj_names.specs.declared.descriptor.Ty.{Ty}
use Rattle.dj_names.specs.declared.descriptor.Desc.{Desc}
use Rattle.dj_names.specs.declared.descriptor.Desc.TheVariants as descs
use Rattle.dj_names.specs.trusted.NameReading.{reads_class_name}
use Rattle.dj_names.specs.trusted.DescReading.{dims_read, name_read, class_read, of_read, type_read, params_read, field_read, return_read, method_read, desc_read}
use Rattle.dj_names.specs.trusted.Descriptors.{Describes}
use Rattle.dj_names.proofs.DescLaws.{described_once}
use Rattle.dj_edge.specs.trusted.Held.{File}
use Rattle.dj_ops.specs.declared.instruction.Instr.TheVariants as instrs
use Rattle.dj_ops.specs.Mnemonics.{nop, return}
use Rattle.dj_pool.specs.trusted.Pool.{Constant, Utf8, Class}
use Rattle.dj_pool.proofs.Decides.{tests_decide}
use Rattle.dj_class.specs.trusted.ClassFile.{MemberInfo, ClassFile}
use Rattle.dj_class.specs.trusted.Code.{CodeInfo}
use Rattle.dj_class.proofs.ClassLaws.{one_class_file}
use Rattle.dj_labels.specs.declared.labelled.Protected.{Protected}
use Rattle.dj_labels.specs.declared.labelled.Labelled.{Labelled}
use Rattle.dj_report.specs.declared.report.Violation.{Violation}
use Rattle.dj_report.specs.trusted.Lines.{file_line}
use Rattle.dj_report.proofs.Sorted.{contains_none, contains_cases}
use Rattle.dj_model.specs.trusted.Program.{Program}
use Rattle.dj_declarations.specs.trusted.Files.{desc_in, type_in}
use Rattle.dj_file_rules.specs.trusted.Violations.{this_name}
use Rattle.dj_early_rules.specs.trusted.Code.{IsCodeOf}
use Rattle.dj_early_rules.specs.trusted.Floats.{MentionsFloat, HasFloat}
use Rattle.dj_early_rules.specs.trusted.Malformed.{IsGood}
use Rattle.dj_early_rules.specs.trusted.Methods.{CatchesError, HandlerViolates, MethodViolates}
use Rattle.dj_early_rules.specs.trusted.Rules.{IsDuplicateLine}
use Rattle.dj_link_rules.specs.trusted.Foreign.{IsForeignConstant}
use Rattle.dj_link_rules.specs.trusted.Lines.{HandlerLinkViolates, MethodLinkViolates}
use Rattle.dj_rules.specs.trusted.Lines.{IsUnreported, MethodShapeViolates}

-- ---- rule 5

-- the line is one of rule 5, of a file as a whole
duplicate_line : (files : List File) (v : Violation) → IsDuplicateLine files v → (v.rule ≡ 5) × (v.member ≡ []) × (v.number ≡ None)
duplicate_line files v is = (ap (λ (w : Violation). w.rule) is.line, ap (λ (w : Violation). w.member) is.line, ap (λ (w : Violation). w.number) is.line)

-- and so none of rule 4 or 6
duplicate_line_not : (files : List File) (p : List ℕ) → (IsDuplicateLine files (file_line p 4) → ⊥) × (IsDuplicateLine files (file_line p 6) → ⊥)
duplicate_line_not files p = (
  λ is. let rule = (duplicate_line files (file_line p 4) is).0 in absurd (omega (arith, rule)),
  λ is. let rule = (duplicate_line files (file_line p 6) is).0 in absurd (omega (arith, rule)),
)

module _ (p q r : List ℕ) (a b d : List ℕ) (first second third : ClassFile) (good : IsGood a first) (other : IsGood b second) (last : IsGood d third) where
  abbrev files : List File
  files = (p, a) ∷ (q, b) ∷ (r, d) ∷ []

  -- of three files the first and the third, whatever stands between them
  around : this_name third ≡ this_name first → IsDuplicateLine files (file_line p 5) × IsDuplicateLine files (file_line r 5)
  around same = (
    record { place = 0; file = (p, a); stands = refl; class = first; good = good; double = record { other = 2; apart = λ e. absurd (omega (arith, e)); file = (r, d); stands = refl; class = third; good = last; same = same }; line = refl },
    record { place = 2; file = (r, d); stands = refl; class = third; good = last; double = record { other = 0; apart = λ e. absurd (omega (arith, e)); file = (p, a); stands = refl; class = first; good = good; same = sym same }; line = refl },
  )

  -- where each file stands
  places : (i : ℕ) (file : File) → slice_get files i ≡ Some file → ((i ≡ 0) × ((p, a) ≡ file)) ⊎ (((i ≡ 1) × ((q, b) ≡ file)) ⊎ ((i ≡ 2) × ((r, d) ≡ file)))
  places zero file e = inl (refl, cc)
  places (suc zero) file e = inr (inl (refl, cc))
  places (suc (suc zero)) file e = inr (inr (refl, cc))
  places (suc (suc (suc zero))) file e = absurd cc
  places (suc (suc (suc (suc i)))) file e = absurd cc

  -- a file is one class file
  one_class : (x : List ℕ) (c : ClassFile) (path : List ℕ) (file : File) (e : ClassFile) → IsGood x c → (path, x) ≡ file → IsGood file.1 e → this_name e ≡ this_name c
  one_class x c path file e own is found =
      let same : IsGood x e = subst (λ (f : File). IsGood f.1 e) (sym is) found in
      ap this_name (one_class_file tests_decide x e c same.file own.file)

  -- the one between them has no line where its name is another
  between_not : (this_name second ≡ this_name first → ⊥) → (this_name second ≡ this_name third → ⊥) → (q ≡ p → ⊥) → (q ≡ r → ⊥) → IsDuplicateLine files (file_line q 5) → ⊥
  between_not differs differ apart far is =
      let path : q ≡ is.file.0 = ap (λ (w : Violation). w.path) is.line in
      let two = is.double in
      elim (places is.place is.file is.stands) [
        | inl at ↦ apart (path ∙ sym (ap (λ (f : File). f.0) at.1))
        | inr (inr at) ↦ far (path ∙ sym (ap (λ (f : File). f.0) at.1))
        | inr (inl at) ↦
            let own : this_name is.class ≡ this_name second = one_class b second q is.file is.class other at.1 is.good in
            elim (places two.other two.file two.stands) [
              | inl before ↦ differs (sym own ∙ sym two.same ∙ one_class a first p two.file two.class good before.1 two.good)
              | inr (inl again) ↦ two.apart (again.0 ∙ sym at.0)
              | inr (inr after) ↦ differ (sym own ∙ sym two.same ∙ one_class d third r two.file two.class last after.1 two.good)
            ]
      ]

-- ---- rule 19, judged where nothing else is reported of the method

-- 3 and 5 are names, 4 a descriptor and 6 one with a float
pool : List Constant
pool = Utf8 (codes "A") ∷ Class 1 ∷ Utf8 (codes "n") ∷ Utf8 (codes "()V") ∷ Utf8 (codes "finalize") ∷ Utf8 (codes "F") ∷ []

method : ℕ → ℕ → ℕ → MemberInfo
method flags name desc = record { flags = flags; name = name; desc = desc; attributes = [] }

class : ClassFile
class = record {
  minor = 0;
  major = 52;
  pool = pool;
  flags = 33;
  this_class = 2;
  super_class = 0;
  interfaces = [];
  fields = [];
  methods = [];
  attributes = [];
}

bare : Desc
bare = descs.Method [] None

bare_described : Describes (codes "()V") bare
unfolding bare
bare_described = record { text_is = refl; valid = (tt, tt, omega arith) }

bare_plain : HasFloat (codes "()V") → ⊥
unfolding bare
bare_plain (desc, described, mentions) = elim (subst MentionsFloat (described_once (codes "()V") desc (descs.Method [] None) described bare_described) mentions) [
  | inl (ty, own, is) ↦ contains_none ty own
  | inr none ↦ none
]

float_ty : Ty
float_ty = record { dims = 0; of = ofs.Base bases.Float }

float_text : HasFloat (codes "F")
unfolding float_ty
float_text = (descs.Field float_ty, record { text_is = refl; valid = record { few = omega arith; named = tt } }, inl refl)

no_code : (flags name desc : ℕ) (info : CodeInfo) → IsCodeOf pool (method flags name desc) info → ⊥
unfolding method
no_code flags name desc info own = contains_none own.body own.own

-- a public n()V
plain_unreported : (program : Program) → IsUnreported program class (method 1 3 4)
unfolding class pool method
plain_unreported program = record {
  native = λ set. set refl;
  finalizer = λ is. let name = is.0 in absurd cc;
  early = λ number rule any. elim any [
    | inl (none, inl (inl float, is)) ↦ bare_plain float
    | inl (none, inl (inr map, is)) ↦ no_code 1 3 4 map.0 map.1
    | inl (none, inr (code, is)) ↦ code.1 refl
    | inr within ↦ no_code 1 3 4 within.code.code within.code.own
  ];
  linked = λ number rule reported. no_code 1 3 4 reported.code.code reported.code.own;
}

-- a native one, finalize()V, and one whose descriptor has a float
native_reported : (program : Program) → IsUnreported program class (method 257 3 4) → ⊥
unfolding method
native_reported program unreported = unreported.native (λ e. absurd cc)

finalizer_reported : (program : Program) → IsUnreported program class (method 1 5 4) → ⊥
unfolding class pool method
finalizer_reported program unreported = unreported.finalizer (refl, refl)

float_reported : (program : Program) → IsUnreported program class (method 1 3 6) → ⊥
unfolding class pool method
float_reported program unreported = unreported.early None 12 (inl (refl, inl (inl float_text, refl)))

module _ (program : Program) (c : ClassFile) (m : MemberInfo) where
  -- one line of the rules 9 to 18, at any instruction, silences rule 19 of the method at each
  early_reported : (number other : Option ℕ) (early rule : ℕ) → MethodViolates c m number early → MethodShapeViolates program c m other rule → ⊥
  early_reported number other early rule is shape = shape.unreported.early number early is

  linked_reported : (number other : Option ℕ) (linked rule : ℕ) → MethodLinkViolates program c m number linked → MethodShapeViolates program c m other rule → ⊥
  linked_reported number other linked rule is shape = shape.unreported.linked number linked is

  other_rule_not : (number : Option ℕ) → (MethodShapeViolates program c m number 18 → ⊥) × (MethodShapeViolates program c m number 20 → ⊥)
  other_rule_not number = (
    λ shape. let rule = shape.rule_is in absurd (omega (arith, rule)),
    λ shape. let rule = shape.rule_is in absurd (omega (arith, rule)),
  )

-- ---- the rules 17 and 18 of a handler

-- 2 is a class that may not be caught, and 3 no class
caught : List Constant
caught = Utf8 (codes "java/lang/ThreadDeath") ∷ Class 1 ∷ Utf8 (codes "E") ∷ []

row : ℕ → Protected
row catch_type = record { start = 0; end = 1; handler = 1; catch_type = catch_type }

rows : List Protected → Labelled
rows ranges = record { code = instrs.Simple nop ∷ instrs.Simple return ∷ []; ranges = ranges }

-- it isn't in a library without classes, so rule 17 would be violated
error_foreign : IsForeignConstant [] caught (Class 1)
unfolding caught reads_class_name dims_read name_read class_read of_read type_read params_read field_read return_read method_read desc_read desc_in type_in
error_foreign = (inl refl, inl refl)

-- but rule 11 is
error_reported : HandlerViolates caught (rows (row 2 ∷ [])) 1 11
unfolding caught row rows
error_reported = record { range = row 2; own = (0, omega arith, refl); begins = refl; catches = inl refl; is = refl }

only_row : (r : Protected) → Contains (row 2 ∷ []) r → row 2 ≡ r
only_row r own = elim (contains_cases (row 2) [] r own) [ inl is ↦ is | inr none ↦ absurd (contains_none r none) ]

is_error : CatchesError caught (row 2).catch_type
unfolding caught row
is_error = inl refl

-- and silences both
error_silenced : (program : Program) (number rule : ℕ) → HandlerLinkViolates program caught (rows (row 2 ∷ [])) number rule → ⊥
unfolding rows
error_silenced program number rule v = v.such.0 (subst (λ (r : Protected). CatchesError caught r.catch_type) (only_row v.range v.own) is_error)

-- of its own row alone: another with the same first instruction keeps its line
other_row : (program : Program) → HandlerLinkViolates program caught (rows (row 2 ∷ row 3 ∷ [])) 1 18
unfolding caught row rows
other_row program = record { range = row 3; own = (1, omega arith, refl); begins = refl; such = (λ error. error, inr (λ foreign. foreign.0, (λ e. absurd (omega (arith, e)), inl (λ is. absurd cc)), refl)) }
