-- The lines of the rules 17 to 19, and those of all that `check` judges: whatever the files are, there is a list of them.
use Rattle.std.proofs.Common.{◌≡◌, ℕ, ◌⊎◌, List, ◌++◌, Option, Some, Contains, refl, sym, ap, ◌∙◌, subst, inl, inr}
use Rattle.std.specs.Prelude.{codes, IsSomeAnd}
use Rattle.dj_edge.specs.trusted.Held.{File}
use Rattle.dj_names.specs.trusted.Library.{Library, deterministic_library, raw_library}
use Rattle.dj_names.specs.trusted.Types.{Name}
use Rattle.dj_ops.specs.declared.instruction.Instr.{Instr}
use Rattle.dj_pool.specs.trusted.Pool.{Constant, constant_at}
use Rattle.dj_pool.proofs.Decides.{tests_decide}
use Rattle.dj_class.specs.trusted.ClassFile.{MemberInfo, ClassFile}
use Rattle.dj_class.proofs.ClassLaws.{one_class_file}
use Rattle.dj_labels.specs.declared.labelled.Protected.{Protected}
use Rattle.dj_labels.specs.declared.labelled.Labelled.{Labelled}
use Rattle.dj_model.specs.trusted.Program.{Program}
use Rattle.dj_report.specs.declared.report.Violation.{Violation}
use Rattle.dj_report.specs.trusted.Lines.{file_line}
use Rattle.dj_file_rules.specs.trusted.Violations.{member_text, this_name}
use Rattle.dj_early_rules.specs.trusted.Malformed.{IsGood, IsFaulty, IsFaultyMethod}
use Rattle.dj_early_rules.specs.trusted.Methods.{CatchesError}
use Rattle.dj_early_rules.specs.trusted.Rules.{line_at, IsMemberLine, IsEarlyLine}
use Rattle.dj_declarations.specs.trusted.Files.{declared_program}
use Rattle.dj_link_rules.specs.trusted.Foreign.{IsForeign, IsForeignConstant}
use Rattle.dj_link_rules.specs.trusted.Unlinked.{IsUnlinked, IsUnlinkedCatch}
use Rattle.dj_link_rules.specs.trusted.Lines.{IsFirstOf, IsUnreported, LinkViolates, LinkViolatesAt, CatchViolates, HandlerLinkViolates, CodeLinkViolates, MethodLinkViolates, IsFileLinkLine, IsLinkLine}
use Rattle.dj_model.specs.trusted.Kinds.{Signature}
use Rattle.dj_model.specs.trusted.Shape.{IsShapeFault}
use Rattle.dj_model.proofs.Shapes.{one_shape_fault}
use Rattle.dj_program.specs.trusted.Codes.{CodeParts, code_in}
use Rattle.dj_program.proofs.Once.{one_code_parts}
use Rattle.dj_shape_rule.specs.trusted.Rule.{LacksShape}
use Rattle.dj_rules.specs.trusted.Lines.{MethodShapeViolates, IsFileShapeLine, IsShapeLine, IsLinkedLine}
use Rattle.dj_class_set.specs.trusted.Checked.{AreGoodFiles, HoldsHierarchy, IsLateLine, IsLineBy, AreCheckViolations}
use Rattle.dj_class_set.specs.Checked.{IsCheckLine}
use Rattle.dj_class_set.specs.trusted.RawRules.{LacksEntry, IsRawLine, AreRawViolations}
use Rattle.dj_class_set.proofs.Classical.{NotNot, bind, decide, IsFinite, finite_same, finite_none, finite_one, finite_either, finite_among}
use Rattle.dj_class_set.proofs.InsertedLines.{finite_in_order}
use Rattle.dj_class_set.proofs.GoodFiles.{same_good}
use Rattle.dj_class_set.proofs.SomeSetLines.{IsAtPlace, finite_places, RuleLine, rule_if, rule_either, NumberedLine, OwnMemberLine, member_lines, numbered_line, WithinLine, within_lines, early_lines}

-- ---- lines of rules

-- where a fact holds
rule_given : (line_of : ℕ → Violation) (H : Type 0) (P : ℕ → Type 0) → IsFinite (RuleLine line_of P) → IsFinite (RuleLine line_of (λ r. H × P r))
rule_given line_of H P p = bind (decide H) (elim [
  | inl h ↦ finite_same (RuleLine line_of P) (RuleLine line_of (λ r. H × P r)) (λ v (r, is, e). (r, (h, is), e)) (λ v (r, (on, is), e). (r, is, e)) p
  | inr not ↦ finite_none (RuleLine line_of (λ r. H × P r)) (λ v (r, (on, is), e). not on)
])

first_lines : (line_of : ℕ → Violation) (F U : Type 0) → IsFinite (RuleLine line_of (IsFirstOf F U))
first_lines line_of F U =
    let Second : ℕ → Type 0 = λ r. (F → ⊥) × U × (r ≡ 18) in
    rule_either line_of (λ r. F × (r ≡ 17)) Second (rule_if line_of F 17)
    (finite_same (RuleLine line_of (λ r. ((F → ⊥) × U) × (r ≡ 18))) (RuleLine line_of Second)
    (λ v (r, ((not, is), e), line). (r, (not, is, e), line))
    (λ v (r, (not, is, e), line). (r, ((not, is), e), line))
    (rule_if line_of ((F → ⊥) × U) 18))

instr_lines : (line_of : ℕ → Violation) (program : Program) (own : Name) (pool : List Constant) (instr : Instr) → IsFinite (RuleLine line_of (LinkViolates program own pool instr))
instr_lines line_of program own pool instr =
    rule_given line_of (IsUnreported pool instr) (IsFirstOf (IsForeign program pool instr) (IsUnlinked program own pool instr))
    (first_lines line_of (IsForeign program pool instr) (IsUnlinked program own pool instr))

catch_lines : (line_of : ℕ → Violation) (program : Program) (pool : List Constant) (index : ℕ) → IsFinite (RuleLine line_of (CatchViolates program pool index))
catch_lines line_of program pool index =
    let Foreign : Type 0 = IsSomeAnd (constant_at pool index) (IsForeignConstant program pool) in
    rule_given line_of (CatchesError pool index → ⊥) (IsFirstOf Foreign (IsUnlinkedCatch program pool index))
    (first_lines line_of Foreign (IsUnlinkedCatch program pool index))

-- ---- lines of code

instrs_lines : (line_of : ℕ → ℕ → Violation) (program : Program) (own : Name) (pool : List Constant) (labelled : Labelled)
    → IsFinite (NumberedLine line_of (LinkViolatesAt program own pool labelled))
instrs_lines line_of program own pool labelled =
    let IsOf : ℕ → Instr → Violation → Type 0 = λ k instr. RuleLine (line_of k) (LinkViolates program own pool instr) in
    finite_same (IsAtPlace IsOf labelled.code) (NumberedLine line_of (LinkViolatesAt program own pool labelled))
    (λ v (k, instr, e, (r, is, line)). (k, (r, record { instr = instr; stands = e; such = is }, line)))
    (λ v (k, (r, is, line)). (k, is.instr, is.stands, (r, is.such, line)))
    (finite_places IsOf labelled.code (λ k instr. instr_lines (line_of k) program own pool instr))

handlers_lines : (line_of : ℕ → ℕ → Violation) (program : Program) (pool : List Constant) (labelled : Labelled)
    → IsFinite (NumberedLine line_of (HandlerLinkViolates program pool labelled))
handlers_lines line_of program pool labelled =
    let IsOf : Protected → Violation → Type 0 = λ range. RuleLine (line_of range.handler) (CatchViolates program pool range.catch_type) in
    finite_same (λ v. (range : Protected) × Contains labelled.ranges range × IsOf range v) (NumberedLine line_of (HandlerLinkViolates program pool labelled))
    (λ v (range, own, (r, is, line)). (range.handler, (r, record { range = range; own = own; begins = refl; such = is }, line)))
    (λ v (k, (r, is, line)). (is.range, is.own, (r, is.such, line ∙ ap (λ (n : ℕ). line_of n r) is.begins)))
    (finite_among IsOf labelled.ranges (λ range. catch_lines (line_of range.handler) program pool range.catch_type))

labelled_lines : (line_of : ℕ → ℕ → Violation) (program : Program) (own : Name) (pool : List Constant) (labelled : Labelled)
    → IsFinite (NumberedLine line_of (CodeLinkViolates program own pool labelled))
labelled_lines line_of program own pool labelled =
    let Instrs = NumberedLine line_of (LinkViolatesAt program own pool labelled) in
    let Handlers = NumberedLine line_of (HandlerLinkViolates program pool labelled) in
    finite_same (λ v. Instrs v ⊎ Handlers v) (NumberedLine line_of (CodeLinkViolates program own pool labelled))
    (λ v any. elim any [ inl (k, (r, is, line)) ↦ (k, (r, inl is, line)) | inr (k, (r, is, line)) ↦ (k, (r, inr is, line)) ])
    (λ v (k, (r, any, line)). elim any [ inl is ↦ inl (k, (r, is, line)) | inr is ↦ inr (k, (r, is, line)) ])
    (finite_either Instrs Handlers (instrs_lines line_of program own pool labelled) (handlers_lines line_of program pool labelled))

-- ---- lines of methods and files

method_lines : (program : Program) (path : List ℕ) (c : ClassFile) (m : MemberInfo) → IsFinite (OwnMemberLine (MethodLinkViolates program c) path c m)
method_lines program path c m =
    let Violates : Labelled → ℕ → ℕ → Type 0 = CodeLinkViolates program (this_name c) c.pool in
    finite_same (WithinLine Violates path c m) (OwnMemberLine (MethodLinkViolates program c) path c m)
    (λ v (body, own, (code, is, (labelled, labels, (number, (rule, such, line))))). (
      Some number,
      rule,
      record { labelled = labelled; code = record { code = code; own = record { body = body; own = own; is = is }; labels = labels }; at = number; number_is = refl; such = such },
      line,
    ))
    (λ v (number, rule, is, line). (
      is.code.own.body,
      is.code.own.own,
      (is.code.code, is.code.own.is, (is.labelled, is.code.labels, (is.at, (rule, is.such, line ∙ ap (λ (n : Option ℕ). line_at path (member_text c.pool m) n rule) is.number_is)))),
    ))
    (within_lines Violates path c m (labelled_lines (numbered_line path c m) program (this_name c) c.pool))

-- of a class file
abbrev IsOwnLinkLine : Program → List ℕ → ClassFile → Violation → Type 0
IsOwnLinkLine program path c = IsMemberLine (MethodLinkViolates program c) c.methods path c

file_lines : (program : Program) (file : File) → IsFinite (IsFileLinkLine program file)
file_lines program file = bind (decide ((c : ClassFile) × IsGood file.1 c)) (elim [
  | inl (c, is) ↦ finite_same (IsOwnLinkLine program file.0 c) (IsFileLinkLine program file)
      (λ v line. (c, is, line))
      (λ v (d, own, line). subst (λ (e : ClassFile). IsOwnLinkLine program file.0 e v) (one_class_file tests_decide file.1 d c own.file is.file) line)
      (member_lines (MethodLinkViolates program c) c.methods file.0 c (method_lines program file.0 c))
  | inr not ↦ finite_none (IsFileLinkLine program file) (λ v (d, own, line). not (d, own))
])

link_lines : (program : Program) (files : List File) → IsFinite (IsLinkLine program files)
link_lines program files = finite_among (IsFileLinkLine program) files (file_lines program)

-- ---- lines of rule 19

-- code has one fault at most
one_shape_line : (pool : List Constant) (m : MemberInfo) (a b : Option ℕ) → (IsFaultyMethod pool m → ⊥) → LacksShape pool m a → LacksShape pool m b → a ≡ b
one_shape_line pool m a b sound x y =
    let parts : x.parts ≡ y.parts = one_code_parts pool m x.parts y.parts sound x.code y.code in
    let kinds : x.signature ≡ y.signature = cc (x.kinds, y.kinds) in
    one_shape_fault y.signature (code_in pool y.parts) a b
    (subst (λ (s : Signature). IsShapeFault s (code_in pool y.parts) a) kinds (subst (λ (p : CodeParts). IsShapeFault x.signature (code_in pool p) a) parts x.such)) y.such

shape_lines_of : (program : Program) (path : List ℕ) (c : ClassFile) (m : MemberInfo) (number : Option ℕ) → MethodShapeViolates program c m number 19
    → ((other : Option ℕ) (rule : ℕ) → MethodShapeViolates program c m other rule → other ≡ number) → IsFinite (OwnMemberLine (MethodShapeViolates program c) path c m)
shape_lines_of program path c m number such only =
    let line : Violation = line_at path (member_text c.pool m) number 19 in
    finite_same (λ v. v ≡ line) (OwnMemberLine (MethodShapeViolates program c) path c m)
    (λ v is. (number, 19, such, is))
    (λ v (other, rule, is, reported). reported
    ∙ ap (λ (n : Option ℕ). line_at path (member_text c.pool m) n rule) (only other rule is)
    ∙ ap (line_at path (member_text c.pool m) number) is.rule_is)
    (finite_one line)

shape_method_lines : (program : Program) (path : List ℕ) (c : ClassFile) (m : MemberInfo) → (IsFaultyMethod c.pool m → ⊥) → IsFinite (OwnMemberLine (MethodShapeViolates program c) path c m)
shape_method_lines program path c m sound = bind (decide ((number : Option ℕ) × MethodShapeViolates program c m number 19)) (elim [
  | inl (number, such) ↦ shape_lines_of program path c m number such (λ other rule is. one_shape_line c.pool m other number sound is.lacks such.lacks)
  | inr not ↦ finite_none (OwnMemberLine (MethodShapeViolates program c) path c m)
      (λ v (other, rule, is, reported). not (other, record { unreported = is.unreported; lacks = is.lacks; rule_is = refl }))
])

-- of a class file without faulty parts
abbrev IsOwnShapeLine : Program → List ℕ → ClassFile → Violation → Type 0
IsOwnShapeLine program path c = IsMemberLine (MethodShapeViolates program c) c.methods path c

shape_member_lines : (program : Program) (path : List ℕ) (c : ClassFile) → (IsFaulty c → ⊥) → IsFinite (IsOwnShapeLine program path c)
shape_member_lines program path c whole =
    let IsOf : MemberInfo → Violation → Type 0 = λ m v. Contains c.methods m × OwnMemberLine (MethodShapeViolates program c) path c m v in
    finite_same (λ v. (m : MemberInfo) × Contains c.methods m × IsOf m v) (IsOwnShapeLine program path c)
    (λ v (m, own, (also, (number, rule, such, line))). record { member = m; own = own; number = number; rule = rule; such = such; line = line })
    (λ v is. (is.member, is.own, (is.own, (is.number, is.rule, is.such, is.line))))
    (finite_among IsOf c.methods (λ m. bind (decide (Contains c.methods m)) (elim [
      | inl own ↦ finite_same (OwnMemberLine (MethodShapeViolates program c) path c m) (IsOf m) (λ v line. (own, line)) (λ v (also, line). line)
          (shape_method_lines program path c m (λ faulty. whole (inl (m, own, faulty))))
      | inr not ↦ finite_none (IsOf m) (λ v (own, line). not own)
    ])))

shape_file_lines : (program : Program) (file : File) → IsFinite (IsFileShapeLine program file)
shape_file_lines program file = bind (decide ((c : ClassFile) × IsGood file.1 c)) (elim [
  | inl (c, is) ↦ finite_same (IsOwnShapeLine program file.0 c) (IsFileShapeLine program file)
      (λ v line. (c, is, line))
      (λ v (d, own, line). subst (λ (e : ClassFile). IsOwnShapeLine program file.0 e v) (one_class_file tests_decide file.1 d c own.file is.file) line)
      (shape_member_lines program file.0 c is.whole)
  | inr not ↦ finite_none (IsFileShapeLine program file) (λ v (d, own, line). not (d, own))
])

linked_lines : (program : Program) (files : List File) → IsFinite (IsLinkedLine program files)
linked_lines program files =
    finite_either (IsLinkLine program files) (IsShapeLine program files) (link_lines program files) (finite_among (IsFileShapeLine program) files (shape_file_lines program))

-- ---- lines of the set

-- of these class files, where the rules 1 to 6 hold
good_lines : (library : Library) (files : List File) → HoldsHierarchy files → (classes : List ClassFile) → AreGoodFiles files classes → IsFinite (IsLateLine library files)
good_lines library files hierarchy classes good =
    let IsOf : List ClassFile → Violation → Type 0 = λ cs. IsLinkedLine (declared_program library cs) files in
    finite_same (IsOf classes) (IsLateLine library files)
    (λ v line. record { hierarchy = hierarchy; classes = classes; good = good; line = line })
    (λ v is. subst (λ (cs : List ClassFile). IsOf cs v) (same_good files is.classes classes is.good good) is.line)
    (linked_lines (declared_program library classes) files)

late_lines : (library : Library) (files : List File) → IsFinite (IsLateLine library files)
late_lines library files = bind (decide (HoldsHierarchy files × ((classes : List ClassFile) × AreGoodFiles files classes))) (elim [
  | inl (hierarchy, (classes, good)) ↦ good_lines library files hierarchy classes good
  | inr not ↦ finite_none (IsLateLine library files) (λ v is. not (is.hierarchy, (is.classes, is.good)))
])

-- those of the rules 1 to 19
lines_by : (library : Library) (files : List File) → IsFinite (IsLineBy library files)
lines_by library files = finite_either (IsEarlyLine files) (IsLateLine library files) (early_lines files) (late_lines library files)

-- the violations of the files, in order
pub some_check_violations : (files : List File) → NotNot ((violations : List Violation) × AreCheckViolations files violations)
some_check_violations files = finite_in_order (IsCheckLine files) (lines_by deterministic_library files)

-- ---- lines of the entry

entry_lines : (files : List File) (class : Name) → IsFinite (LacksEntry files class)
entry_lines files class =
    let line : Violation = file_line (class ++ codes ".class") 20 in
    bind (decide (LacksEntry files class line)) (elim [
      | inl is ↦ finite_same (λ v. v ≡ line) (LacksEntry files class) (λ v e. subst (LacksEntry files class) (sym e) is) (λ v is. is.line) (finite_one line)
      | inr not ↦ finite_none (LacksEntry files class) (λ v is. not (subst (LacksEntry files class) is.line is))
    ])

pub some_raw_violations : (files : List File) (class : Name) → NotNot ((violations : List Violation) × AreRawViolations files class violations)
some_raw_violations files class =
    finite_in_order (IsRawLine files class) (finite_either (IsLineBy raw_library files) (LacksEntry files class) (lines_by raw_library files) (entry_lines files class))
