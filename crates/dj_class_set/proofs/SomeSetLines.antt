-- The lines of the rules 1 to 16: whatever the files are, there is a list of them.
use Rattle.std.proofs.Common.{◌≡◌, ℕ, zero, suc, ◌⊎◌, List, [], ◌∷◌, Option, Some, None, Contains, slice_get, refl, ap, ◌∙◌, subst, inl, inr}
use Rattle.dj_edge.specs.trusted.Held.{File}
use Rattle.dj_ops.specs.declared.instruction.Instr.{Instr}
use Rattle.dj_pool.specs.trusted.Pool.{Constant}
use Rattle.dj_pool.proofs.Decides.{tests_decide}
use Rattle.dj_class.specs.trusted.ClassFile.{MemberInfo, ClassFile}
use Rattle.dj_class.specs.trusted.Code.{CodeInfo, IsCode}
use Rattle.dj_class.proofs.ClassLaws.{one_class_file}
use Rattle.dj_class.proofs.CodeLaws.{one_code}
use Rattle.dj_labels.specs.declared.labelled.Protected.{Protected}
use Rattle.dj_labels.specs.declared.labelled.Labelled.{Labelled}
use Rattle.dj_labels.specs.trusted.Labels.{IsLabelled}
use Rattle.dj_labels.proofs.Once.{one_labelling_is}
use Rattle.dj_report.specs.declared.report.Violation.{Violation}
use Rattle.dj_report.specs.trusted.Lines.{file_line}
use Rattle.dj_file_rules.specs.trusted.Violations.{member_text, this_name, IsClassLine}
use Rattle.dj_hierarchy_rule.specs.trusted.Hierarchy.{ViolatesHierarchy}
use Rattle.dj_early_rules.specs.trusted.Attributes.{codes_of}
use Rattle.dj_early_rules.specs.trusted.Classes.{IsReserved}
use Rattle.dj_early_rules.specs.trusted.Heads.{head_of, StandsAmong, HasRepeats}
use Rattle.dj_early_rules.specs.trusted.Instructions.{IsDynamic, IsReflection, IsFloat, IsSubroutine, IsBreakpoint, IsMultiArray}
use Rattle.dj_early_rules.specs.trusted.Malformed.{IsRefused, IsGood}
use Rattle.dj_early_rules.specs.trusted.Members.{HasFloatConstant, IsFloatField, IsFloatMethod, HasInterfaceCode}
use Rattle.dj_early_rules.specs.trusted.Methods.{InstrViolates, CatchesError, ViolatesAt, HandlerViolates, CodeViolates, ViolatesWhole, MethodViolates}
use Rattle.dj_early_rules.specs.trusted.Rules.{line_at, IsMemberLine, FieldViolates, IsNamingLine, IsOwnLine, IsLoneLine, IsAmongLoneLines, HasDouble, IsDuplicateLine, IsHierarchyLine, IsEarlyLine}
use Rattle.dj_class_set.proofs.Classical.{bind, decide, IsFinite, finite_same, finite_none, finite_if, finite_either, finite_among}
use Rattle.dj_class_set.proofs.SomeLines.{class_lines}

-- ---- what stands at places of a list

abbrev pub IsAtPlace : {X Y : Type 0} → (ℕ → Y → X → Type 0) → List Y → X → Type 0
IsAtPlace {X} {Y} IsOf ys x = (place : ℕ) × (y : Y) × (slice_get ys place ≡ Some y) × IsOf place y x

at_first_or_later : {X Y : Type 0} (IsOf : ℕ → Y → X → Type 0) (y : Y) (ys : List Y) (x : X) (place : ℕ) (z : Y) → slice_get (y ∷ ys) place ≡ Some z → IsOf place z x
    → IsOf 0 y x ⊎ IsAtPlace (λ k. IsOf (suc k)) ys x
at_first_or_later {X} {Y} IsOf y ys x zero z e is = (let same : z ≡ y = cc in inl (subst (λ (w : Y). IsOf 0 w x) same is))
at_first_or_later IsOf y ys x (suc k) z e is = inr (k, z, e, is)

pub finite_places : {X Y : Type 0} (IsOf : ℕ → Y → X → Type 0) (ys : List Y) → ((place : ℕ) (y : Y) → IsFinite (IsOf place y)) → IsFinite (IsAtPlace IsOf ys)
finite_places {X} {Y} IsOf [] each = finite_none (IsAtPlace IsOf []) (λ x p. nothing p.0 p.1 p.2) where
  nothing : (place : ℕ) (y : Y) → slice_get {X = Y} [] place ≡ Some y → ⊥
  nothing zero y e = absurd cc
  nothing (suc k) y e = absurd cc
finite_places {X} {Y} IsOf (y ∷ ys) each =
    finite_same (λ x. IsOf 0 y x ⊎ IsAtPlace (λ k. IsOf (suc k)) ys x) (IsAtPlace IsOf (y ∷ ys))
    (λ x any. elim any [ inl is ↦ (0, y, refl, is) | inr p ↦ (suc p.0, p.1, p.2, p.3) ])
    (λ x p. at_first_or_later IsOf y ys x p.0 p.1 p.2 p.3)
    (finite_either (IsOf 0 y) (IsAtPlace (λ k. IsOf (suc k)) ys) (each 0 y) (finite_places (λ k. IsOf (suc k)) ys (λ k. each (suc k))))

-- ---- lines of rules

-- lines, one for each rule that is violated
abbrev pub RuleLine : (ℕ → Violation) → (ℕ → Type 0) → Violation → Type 0
RuleLine line_of Violates v = (rule : ℕ) × Violates rule × (v ≡ line_of rule)

pub rule_if : (line_of : ℕ → Violation) (H : Type 0) (rule : ℕ) → IsFinite (RuleLine line_of (λ r. H × (r ≡ rule)))
rule_if line_of H rule =
    finite_same (λ v. H × (v ≡ line_of rule)) (RuleLine line_of (λ r. H × (r ≡ rule)))
    (λ v (h, e). (rule, (h, refl), e))
    (λ v (r, (h, same), e). (h, e ∙ ap line_of same))
    (finite_if H (line_of rule))

pub rule_either : (line_of : ℕ → Violation) (P Q : ℕ → Type 0) → IsFinite (RuleLine line_of P) → IsFinite (RuleLine line_of Q) → IsFinite (RuleLine line_of (λ r. P r ⊎ Q r))
rule_either line_of P Q p q =
    finite_same (λ v. RuleLine line_of P v ⊎ RuleLine line_of Q v) (RuleLine line_of (λ r. P r ⊎ Q r))
    (λ v any. elim any [ inl (r, is, e) ↦ (r, inl is, e) | inr (r, is, e) ↦ (r, inr is, e) ])
    (λ v (r, any, e). elim any [ inl is ↦ inl (r, is, e) | inr is ↦ inr (r, is, e) ])
    (finite_either (RuleLine line_of P) (RuleLine line_of Q) p q)

instr_lines : (line_of : ℕ → Violation) (pool : List Constant) (instr : Instr) → IsFinite (RuleLine line_of (InstrViolates pool instr))
instr_lines line_of pool instr =
    let Dynamics : ℕ → Type 0 = λ r. IsDynamic pool instr × (r ≡ 9) in
    let Reflections : ℕ → Type 0 = λ r. IsReflection pool instr × (r ≡ 10) in
    let Floats : ℕ → Type 0 = λ r. IsFloat pool instr × (r ≡ 12) in
    let Subroutines : ℕ → Type 0 = λ r. IsSubroutine pool instr × (r ≡ 13) in
    let Breakpoints : ℕ → Type 0 = λ r. IsBreakpoint pool instr × (r ≡ 14) in
    let Arrays : ℕ → Type 0 = λ r. IsMultiArray pool instr × (r ≡ 15) in
    rule_either line_of Dynamics (λ r. Reflections r ⊎ (Floats r ⊎ (Subroutines r ⊎ (Breakpoints r ⊎ Arrays r)))) (rule_if line_of (IsDynamic pool instr) 9)
    (rule_either line_of Reflections (λ r. Floats r ⊎ (Subroutines r ⊎ (Breakpoints r ⊎ Arrays r))) (rule_if line_of (IsReflection pool instr) 10)
    (rule_either line_of Floats (λ r. Subroutines r ⊎ (Breakpoints r ⊎ Arrays r)) (rule_if line_of (IsFloat pool instr) 12)
    (rule_either line_of Subroutines (λ r. Breakpoints r ⊎ Arrays r) (rule_if line_of (IsSubroutine pool instr) 13)
    (rule_either line_of Breakpoints Arrays (rule_if line_of (IsBreakpoint pool instr) 14) (rule_if line_of (IsMultiArray pool instr) 15)))))

-- ---- lines of code

-- lines with the number of an instruction, which a condition gives with the rule
abbrev pub NumberedLine : (ℕ → ℕ → Violation) → (ℕ → ℕ → Type 0) → Violation → Type 0
NumberedLine line_of Violates v = (number : ℕ) × RuleLine (line_of number) (Violates number) v

instrs_lines : (line_of : ℕ → ℕ → Violation) (pool : List Constant) (labelled : Labelled) → IsFinite (NumberedLine line_of (ViolatesAt pool labelled))
instrs_lines line_of pool labelled =
    let IsOf : ℕ → Instr → Violation → Type 0 = λ k instr. RuleLine (line_of k) (InstrViolates pool instr) in
    finite_same (IsAtPlace IsOf labelled.code) (NumberedLine line_of (ViolatesAt pool labelled))
    (λ v (k, instr, e, (r, is, line)). (k, (r, record { instr = instr; stands = e; such = is }, line)))
    (λ v (k, (r, is, line)). (k, is.instr, is.stands, (r, is.such, line)))
    (finite_places IsOf labelled.code (λ k instr. instr_lines (line_of k) pool instr))

-- of one row
abbrev RangeLine : (ℕ → ℕ → Violation) → List Constant → Protected → Violation → Type 0
RangeLine line_of pool range v = CatchesError pool range.catch_type × (v ≡ line_of range.handler 11)

handlers_lines : (line_of : ℕ → ℕ → Violation) (pool : List Constant) (labelled : Labelled) → IsFinite (NumberedLine line_of (HandlerViolates pool labelled))
handlers_lines line_of pool labelled =
    finite_same (λ v. (range : Protected) × Contains labelled.ranges range × RangeLine line_of pool range v) (NumberedLine line_of (HandlerViolates pool labelled))
    (λ v (range, own, (catches, line)). (range.handler, (11, record { range = range; own = own; begins = refl; catches = catches; is = refl }, line)))
    (λ v (k, (r, is, line)). (is.range, is.own, (is.catches, line ∙ ap (λ (n : ℕ). line_of n r) is.begins ∙ ap (line_of is.range.handler) is.is)))
    (finite_among (RangeLine line_of pool) labelled.ranges (λ range. finite_if (CatchesError pool range.catch_type) (line_of range.handler 11)))

labelled_lines : (line_of : ℕ → ℕ → Violation) (pool : List Constant) (labelled : Labelled) → IsFinite (NumberedLine line_of (CodeViolates pool labelled))
labelled_lines line_of pool labelled =
    let Instrs = NumberedLine line_of (ViolatesAt pool labelled) in
    let Handlers = NumberedLine line_of (HandlerViolates pool labelled) in
    finite_same (λ v. Instrs v ⊎ Handlers v) (NumberedLine line_of (CodeViolates pool labelled))
    (λ v any. elim any [ inl (k, (r, is, line)) ↦ (k, (r, inl is, line)) | inr (k, (r, is, line)) ↦ (k, (r, inr is, line)) ])
    (λ v (k, (r, any, line)). elim any [ inl is ↦ inl (k, (r, is, line)) | inr is ↦ inr (k, (r, is, line)) ])
    (finite_either Instrs Handlers (instrs_lines line_of pool labelled) (handlers_lines line_of pool labelled))

-- of the code of these parts, by a condition on labelled code
abbrev pub InfoLine : (ℕ → ℕ → Violation) → (Labelled → ℕ → ℕ → Type 0) → CodeInfo → Violation → Type 0
InfoLine line_of Violates code v = (labelled : Labelled) × IsLabelled code.code code.table labelled × NumberedLine line_of (Violates labelled) v

info_lines : (line_of : ℕ → ℕ → Violation) (Violates : Labelled → ℕ → ℕ → Type 0) → ((labelled : Labelled) → IsFinite (NumberedLine line_of (Violates labelled)))
    → (code : CodeInfo) → IsFinite (InfoLine line_of Violates code)
info_lines line_of Violates each code = bind (decide ((labelled : Labelled) × IsLabelled code.code code.table labelled)) (elim [
  | inl (labelled, is) ↦ finite_same (NumberedLine line_of (Violates labelled)) (InfoLine line_of Violates code)
      (λ v line. (labelled, is, line))
      (λ v (other, own, line). subst (λ (l : Labelled). NumberedLine line_of (Violates l) v) (one_labelling_is code.code code.table other labelled own is) line)
      (each labelled)
  | inr not ↦ finite_none (InfoLine line_of Violates code) (λ v (other, own, line). not (other, own))
])

-- of a body of a Code attribute
abbrev pub BodyLine : (ℕ → ℕ → Violation) → (Labelled → ℕ → ℕ → Type 0) → List ℕ → Violation → Type 0
BodyLine line_of Violates body v = (code : CodeInfo) × IsCode body code × InfoLine line_of Violates code v

body_lines : (line_of : ℕ → ℕ → Violation) (Violates : Labelled → ℕ → ℕ → Type 0) → ((labelled : Labelled) → IsFinite (NumberedLine line_of (Violates labelled)))
    → (body : List ℕ) → IsFinite (BodyLine line_of Violates body)
body_lines line_of Violates each body = bind (decide ((code : CodeInfo) × IsCode body code)) (elim [
  | inl (code, is) ↦ finite_same (InfoLine line_of Violates code) (BodyLine line_of Violates body)
      (λ v line. (code, is, line))
      (λ v (other, own, line). subst (λ (c : CodeInfo). InfoLine line_of Violates c v) (one_code body other code own is) line)
      (info_lines line_of Violates each code)
  | inr not ↦ finite_none (BodyLine line_of Violates body) (λ v (other, own, line). not (other, own))
])

-- ---- lines of members

-- lines of one member
abbrev pub OwnMemberLine : (MemberInfo → Option ℕ → ℕ → Type 0) → List ℕ → ClassFile → MemberInfo → Violation → Type 0
OwnMemberLine Violates path c m v = (number : Option ℕ) × (rule : ℕ) × Violates m number rule × (v ≡ line_at path (member_text c.pool m) number rule)

pub member_lines : (Violates : MemberInfo → Option ℕ → ℕ → Type 0) (members : List MemberInfo) (path : List ℕ) (c : ClassFile) → ((m : MemberInfo) → IsFinite (OwnMemberLine Violates path c m))
    → IsFinite (IsMemberLine Violates members path c)
member_lines Violates members path c each =
    finite_same (λ v. (m : MemberInfo) × Contains members m × OwnMemberLine Violates path c m v) (IsMemberLine Violates members path c)
    (λ v (m, own, (number, rule, such, line)). record { member = m; own = own; number = number; rule = rule; such = such; line = line })
    (λ v is. (is.member, is.own, (is.number, is.rule, is.such, is.line)))
    (finite_among (OwnMemberLine Violates path c) members each)

field_lines : (path : List ℕ) (c : ClassFile) (f : MemberInfo) → IsFinite (OwnMemberLine (FieldViolates c) path c f)
field_lines path c f =
    finite_same (λ v. IsFloatField c.pool f × (v ≡ line_at path (member_text c.pool f) None 12)) (OwnMemberLine (FieldViolates c) path c f)
    (λ v (is, line). (None, 12, (is, refl, refl), line))
    (λ v (number, rule, (is, none, twelve), line). (is, line ∙ ap (λ (n : Option ℕ). line_at path (member_text c.pool f) n rule) none ∙ ap (line_at path (member_text c.pool f) None) twelve))
    (finite_if (IsFloatField c.pool f) (line_at path (member_text c.pool f) None 12))

-- of a method as a whole
abbrev WholeLine : List ℕ → ClassFile → MemberInfo → Violation → Type 0
WholeLine path c m = RuleLine (line_at path (member_text c.pool m) None) (ViolatesWhole c m)

whole_lines : (path : List ℕ) (c : ClassFile) (m : MemberInfo) → IsFinite (WholeLine path c m)
whole_lines path c m =
    let line_of = line_at path (member_text c.pool m) None in
    rule_either line_of (λ r. IsFloatMethod c.pool m × (r ≡ 12)) (λ r. HasInterfaceCode c m × (r ≡ 16)) (rule_if line_of (IsFloatMethod c.pool m) 12) (rule_if line_of (HasInterfaceCode c m) 16)

-- of a method at its instructions
abbrev pub numbered_line : List ℕ → ClassFile → MemberInfo → ℕ → ℕ → Violation
numbered_line path c m number rule = line_at path (member_text c.pool m) (Some number) rule

abbrev pub WithinLine : (Labelled → ℕ → ℕ → Type 0) → List ℕ → ClassFile → MemberInfo → Violation → Type 0
WithinLine Violates path c m v = (body : List ℕ) × Contains (codes_of c.pool m) body × BodyLine (numbered_line path c m) Violates body v

pub within_lines : (Violates : Labelled → ℕ → ℕ → Type 0) (path : List ℕ) (c : ClassFile) (m : MemberInfo)
    → ((labelled : Labelled) → IsFinite (NumberedLine (numbered_line path c m) (Violates labelled))) → IsFinite (WithinLine Violates path c m)
within_lines Violates path c m each =
    finite_among (BodyLine (numbered_line path c m) Violates) (codes_of c.pool m) (body_lines (numbered_line path c m) Violates each)

method_lines : (path : List ℕ) (c : ClassFile) (m : MemberInfo) → IsFinite (OwnMemberLine (MethodViolates c) path c m)
method_lines path c m =
    finite_same (λ v. WholeLine path c m v ⊎ WithinLine (CodeViolates c.pool) path c m v) (OwnMemberLine (MethodViolates c) path c m)
    (λ v any. elim any [
      | inl (rule, is, line) ↦ (None, rule, inl (refl, is), line)
      | inr (body, own, (code, is, (labelled, labels, (number, (rule, such, line))))) ↦ (
        Some number,
        rule,
        inr (record { labelled = labelled; code = record { code = code; own = record { body = body; own = own; is = is }; labels = labels }; at = number; number_is = refl; such = such }),
        line,
      )
    ])
    (λ v (number, rule, any, line). elim any [
      | inl (none, is) ↦ inl (rule, is, line ∙ ap (λ (n : Option ℕ). line_at path (member_text c.pool m) n rule) none)
      | inr is ↦ inr (
        is.code.own.body,
        is.code.own.own,
        (is.code.code, is.code.own.is, (is.labelled, is.code.labels, (is.at, (rule, is.such, line ∙ ap (λ (n : Option ℕ). line_at path (member_text c.pool m) n rule) is.number_is)))),
      )
    ])
    (finite_either (WholeLine path c m) (WithinLine (CodeViolates c.pool) path c m) (whole_lines path c m)
    (within_lines (CodeViolates c.pool) path c m (labelled_lines (numbered_line path c m) c.pool)))

-- ---- lines of files

naming_lines : (path : List ℕ) (c : ClassFile) → IsFinite (IsNamingLine path c)
naming_lines path c =
    finite_either (λ v. IsReserved (this_name c) × (v ≡ file_line path 4)) (λ v. HasFloatConstant c × (v ≡ file_line path 12))
    (finite_if (IsReserved (this_name c)) (file_line path 4)) (finite_if (HasFloatConstant c) (file_line path 12))

own_lines : (path : List ℕ) (c : ClassFile) → IsFinite (IsOwnLine path c)
own_lines path c =
    let Fields = IsMemberLine (FieldViolates c) c.fields path c in
    let Methods = IsMemberLine (MethodViolates c) c.methods path c in
    finite_either (IsClassLine path c) (λ v. IsNamingLine path c v ⊎ (Fields v ⊎ Methods v)) (class_lines path c)
    (finite_either (IsNamingLine path c) (λ v. Fields v ⊎ Methods v) (naming_lines path c)
    (finite_either Fields Methods (member_lines (FieldViolates c) c.fields path c (field_lines path c)) (member_lines (MethodViolates c) c.methods path c (method_lines path c))))

-- of the good class file that the bytes are
abbrev IsGoodLine : File → Violation → Type 0
IsGoodLine file v = (c : ClassFile) × IsGood file.1 c × IsOwnLine file.0 c v

good_lines : (file : File) → IsFinite (IsGoodLine file)
good_lines file = bind (decide ((c : ClassFile) × IsGood file.1 c)) (elim [
  | inl (c, is) ↦ finite_same (IsOwnLine file.0 c) (IsGoodLine file)
      (λ v line. (c, is, line))
      (λ v (d, own, line). subst (λ (e : ClassFile). IsOwnLine file.0 e v) (one_class_file tests_decide file.1 d c own.file is.file) line)
      (own_lines file.0 c)
  | inr not ↦ finite_none (IsGoodLine file) (λ v (d, own, line). not (d, own))
])

lone_lines : (file : File) → IsFinite (IsLoneLine file)
lone_lines file =
    finite_either (λ v. IsRefused file.1 × (v ≡ file_line file.0 1)) (IsGoodLine file) (finite_if (IsRefused file.1) (file_line file.0 1)) (good_lines file)

-- the file at the place has a class whose name another has too
abbrev HasDoubleAt : List File → ℕ → File → Type 0
HasDoubleAt files place file = (c : ClassFile) × IsGood file.1 c × HasDouble files place c

duplicate_lines : (files : List File) → IsFinite (IsDuplicateLine files)
duplicate_lines files =
    let IsOf : ℕ → File → Violation → Type 0 = λ place file v. HasDoubleAt files place file × (v ≡ file_line file.0 5) in
    finite_same (IsAtPlace IsOf files) (IsDuplicateLine files)
    (λ v (place, file, stands, ((c, good, double), line)). record { place = place; file = file; stands = stands; class = c; good = good; double = double; line = line })
    (λ v is. (is.place, is.file, is.stands, ((is.class, is.good, is.double), is.line)))
    (finite_places IsOf files (λ place file. finite_if (HasDoubleAt files place file) (file_line file.0 5)))

-- the class of the file violates the rule HIERARCHY
abbrev ViolatesAmong : List File → File → Type 0
ViolatesAmong files file = (c : ClassFile) × IsGood file.1 c × (ViolatesHierarchy (StandsAmong files) (head_of c) ⊎ HasRepeats c)

hierarchy_lines : (files : List File) → IsFinite (IsHierarchyLine files)
hierarchy_lines files =
    let IsOf : File → Violation → Type 0 = λ file v. ViolatesAmong files file × (v ≡ file_line file.0 6) in
    finite_same (λ v. (file : File) × Contains files file × IsOf file v) (IsHierarchyLine files)
    (λ v (file, own, ((c, good, such), line)). record { file = file; own = own; class = c; good = good; such = such; line = line })
    (λ v is. (is.file, is.own, ((is.class, is.good, is.such), is.line)))
    (finite_among IsOf files (λ file. finite_if (ViolatesAmong files file) (file_line file.0 6)))

-- the lines of the files
pub early_lines : (files : List File) → IsFinite (IsEarlyLine files)
early_lines files =
    finite_either (IsAmongLoneLines files) (λ v. IsDuplicateLine files v ⊎ IsHierarchyLine files v) (finite_among IsLoneLine files lone_lines)
    (finite_either (IsDuplicateLine files) (IsHierarchyLine files) (duplicate_lines files) (hierarchy_lines files))
