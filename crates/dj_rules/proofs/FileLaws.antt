-- The lines of files.
use Rattle.std.proofs.Common.{◌≡◌, ℕ, ◌≤◌, ◌⊎◌, ◌↔◌, List, [], map, take, length, Option, Some, None, sym, ◌∙◌, subst, inl, inr, Contains}
use Rattle.std.proofs.lemmas.List.{take_all}
use Rattle.dj_edge.specs.trusted.Held.{File}
use Rattle.dj_pool.proofs.Decides.{tests_decide}
use Rattle.dj_class.specs.trusted.ClassFile.{ClassFile, IsClassFile}
use Rattle.dj_class.proofs.ClassLaws.{one_class_file}
use Rattle.dj_report.specs.declared.report.Violation.{Violation}
use Rattle.dj_report.specs.declared.report.PathFile.{PathFile}
use Rattle.dj_report.specs.trusted.Lines.{file_line}
use Rattle.dj_report.specs.Lines.{Adds, Gains, IsLineAmong}
use Rattle.dj_report.proofs.Sorted.{contains_none}
use Rattle.dj_report.proofs.Adding.{adds_same, adds_nothing, adds_both, adds_part, among_map}
use Rattle.dj_hierarchy_rule.specs.Views.{head_view}
use Rattle.dj_model.specs.trusted.Program.{Program}
use Rattle.dj_file_rules.specs.Views.{path_file_view}
use Rattle.dj_file_rules.specs.trusted.Violations.{IsClassLine}
use Rattle.dj_early_rules.specs.declared.judged.JudgedText.{JudgedText}
use Rattle.dj_early_rules.specs.declared.good.GoodFile.{GoodFile}
use Rattle.dj_early_rules.specs.declared.marks.Mark.{Mark}
use Rattle.dj_early_rules.specs.Judged.{AreTexts}
use Rattle.dj_early_rules.specs.trusted.Malformed.{IsFaulty, IsRefused, IsGood}
use Rattle.dj_early_rules.specs.trusted.Methods.{MethodViolates}
use Rattle.dj_early_rules.specs.trusted.Rules.{IsMemberLine, FieldViolates, IsNamingLine, IsOwnLine, IsLoneLine, IsAmongLoneLines, IsDuplicateLine, IsHierarchyLine, IsEarlyLine}
use Rattle.dj_early_rules.specs.Marks.{AreMarksOf, IsMarkLine}
use Rattle.dj_early_rules.specs.Doubles.{IsRepeatedLine}
use Rattle.dj_early_rules.specs.Kept.{IsOwnersLine}
use Rattle.dj_early_rules.proofs.FileLaws.{member_lines, refused_not_good}
use Rattle.dj_early_rules.proofs.DoubleLaws.{duplicate_lines}
use Rattle.dj_early_rules.proofs.HierarchyLaws.{hierarchy_lines}
use Rattle.dj_link_rules.specs.trusted.Lines.{MethodLinkViolates}
use Rattle.dj_rules.specs.declared.files.JudgedFiles.{JudgedFiles}
use Rattle.dj_rules.specs.declared.kept.Kept.{Kept}
use Rattle.dj_rules.specs.trusted.Lines.{MethodShapeViolates, IsLinkedLine}
use Rattle.dj_rules.specs.Late.{MethodLateViolates, IsFileLateLine}
use Rattle.dj_rules.specs.Reported.{SaysPart, IsJudgedFile, IsReportedFile}
use Rattle.dj_rules.specs.Kept.{AreKept}

-- ---- from marks to lines

-- the marks of methods and then of fields, as lines
pub all_mark_lines : (texts : List JudgedText) (path : List ℕ) (c : ClassFile) (marks0 marks : List Mark) (a b : List Violation) → AreTexts c.pool texts
    → Gains (AreMarksOf texts (MethodViolates c) c.methods) [] marks0 → Gains (AreMarksOf texts (FieldViolates c) c.fields) marks0 marks → Adds (IsLineAmong (IsMarkLine path c.pool) marks) a b
    → Adds (λ v. IsMemberLine (FieldViolates c) c.fields path c v ⊎ IsMemberLine (MethodViolates c) c.methods path c v) a b
all_mark_lines texts path c marks0 marks a b are methods fields =
    adds_same (IsLineAmong (IsMarkLine path c.pool) marks) (λ v. IsMemberLine (FieldViolates c) c.fields path c v ⊎ IsMemberLine (MethodViolates c) c.methods path c v) a b (λ v. (
      λ (mark, m, line). elim ((fields mark).0 m) [
        | inl old ↦ elim ((methods mark).0 old) [
          | inl none ↦ absurd (contains_none mark none)
          | inr is ↦ inr ((member_lines texts (MethodViolates c) c.methods path c are v).0 (mark, is, line))
        ]
        | inr is ↦ inl ((member_lines texts (FieldViolates c) c.fields path c are v).0 (mark, is, line))
      ],
      λ any. elim any [
        | inl is ↦ let own = (member_lines texts (FieldViolates c) c.fields path c are v).1 is in (own.0, (fields own.0).1 (inr own.1), own.2)
        | inr is ↦ let own = (member_lines texts (MethodViolates c) c.methods path c are v).1 is in (own.0, (fields own.0).1 (inl ((methods own.0).1 (inr own.1))), own.2)
      ],
    ))

-- all lines of a class file by itself
pub own_lines : (path : List ℕ) (c : ClassFile) (x0 x1 x2 x3 : List Violation) → Adds (IsClassLine path c) x0 x1 → Adds (IsNamingLine path c) x1 x2
    → Adds (λ v. IsMemberLine (FieldViolates c) c.fields path c v ⊎ IsMemberLine (MethodViolates c) c.methods path c v) x2 x3 → Adds (IsOwnLine path c) x0 x3
own_lines path c x0 x1 x2 x3 class naming members =
    adds_both (IsClassLine path c) (λ v. IsNamingLine path c v ⊎ (IsMemberLine (FieldViolates c) c.fields path c v ⊎ IsMemberLine (MethodViolates c) c.methods path c v)) x0 x1 x3 class
    (adds_both (IsNamingLine path c) (λ v. IsMemberLine (FieldViolates c) c.fields path c v ⊎ IsMemberLine (MethodViolates c) c.methods path c v) x1 x2 x3 naming members)

-- ---- files

pub own_class : (bytes : List ℕ) (c : ClassFile) → IsClassFile bytes c → (IsFaulty c → ⊥) → IsGood bytes c
own_class bytes c is sound = record { file = is; whole = sound }

pub faulty_class : (bytes : List ℕ) (c : ClassFile) → IsClassFile bytes c → IsFaulty c → IsRefused bytes
faulty_class bytes c is faulty = inr (c, is, faulty)

late_of_class : (program : Program) (path bytes : List ℕ) (c : ClassFile) (v : Violation) → IsGood bytes c
    → IsMemberLine (MethodLateViolates program c) c.methods path c v ↔ IsFileLateLine program (path, bytes) v
late_of_class program path bytes c v good = (
  λ line. elim line.such [
    | inl such ↦ inl (c, good, record { member = line.member; own = line.own; number = line.number; rule = line.rule; such = such; line = line.line })
    | inr such ↦ inr (c, good, record { member = line.member; own = line.own; number = line.number; rule = line.rule; such = such; line = line.line })
  ],
  λ any. elim any [
    | inl (d, is, l) ↦
        let line = subst (λ (x : ClassFile). IsMemberLine (MethodLinkViolates program x) x.methods path x v) (one_class_file tests_decide bytes d c is.file good.file) l in
        record { member = line.member; own = line.own; number = line.number; rule = line.rule; such = inl line.such; line = line.line }
    | inr (d, is, l) ↦
        let line = subst (λ (x : ClassFile). IsMemberLine (MethodShapeViolates program x) x.methods path x v) (one_class_file tests_decide bytes d c is.file good.file) l in
        record { member = line.member; own = line.own; number = line.number; rule = line.rule; such = inr line.such; line = line.line }
  ],
)

late_of_refused : (program : Program) (file : PathFile) (v : Violation) → IsRefused file.bytes.now → IsFileLateLine program (path_file_view file) v → ⊥
late_of_refused program file v refused any = elim any [
  | inl (c, good, line) ↦ refused_not_good file.bytes.now c good refused
  | inr (c, good, line) ↦ refused_not_good file.bytes.now c good refused
]

-- what was added of a file that was judged apart
early_of_file : (file : PathFile) (Has : Program → Type 0) (own : JudgedFiles) (none : JudgedFiles) (old new : List Violation) (part : Option GoodFile) → none.early.items ≡ [] → IsJudgedFile file Has none own part
    → Adds (λ v. Contains own.early.items v) old new → Adds (IsLoneLine (path_file_view file)) old new
early_of_file file Has own none old new None empty judged added =
    adds_same (λ v. v ≡ file_line file.path.now 1) (IsLoneLine (path_file_view file)) old new (λ v. (
      λ e. inl (judged.refused, e),
      λ any. elim any [ inl is ↦ is.1 | inr (c, good, line) ↦ absurd (refused_not_good file.bytes.now c good judged.refused) ],
    )) (adds_part (λ v. v ≡ file_line file.path.now 1) old own.early.items new (subst (λ (xs : List Violation). Adds (λ v. v ≡ file_line file.path.now 1) xs own.early.items) empty judged.line) added)
early_of_file file Has own none old new (Some part) empty judged added =
    adds_same (IsOwnLine file.path.now judged.class) (IsLoneLine (path_file_view file)) old new (λ v. (
      λ line. inr (judged.class, judged.good, line),
      λ any. elim any [
        | inl is ↦ absurd (refused_not_good file.bytes.now judged.class judged.good is.0)
        | inr (c, good, line) ↦ subst (λ (d : ClassFile). IsOwnLine file.path.now d v) (one_class_file tests_decide file.bytes.now c judged.class good.file judged.good.file) line
      ],
    )) (adds_part (IsOwnLine file.path.now judged.class) old own.early.items new (subst (λ (xs : List Violation). Adds (IsOwnLine file.path.now judged.class) xs own.early.items) empty judged.lines.early) added)

late_of_file : (file : PathFile) (Has : Program → Type 0) (program : Program) (own : JudgedFiles) (none : JudgedFiles) (old new : List Violation) (part : Option GoodFile) → none.late.items ≡ [] → IsJudgedFile file Has none own part → Has program
    → Adds (λ v. Contains own.late.items v) old new → Adds (IsFileLateLine program (path_file_view file)) old new
late_of_file file Has program own none old new None empty judged has added =
    adds_part (IsFileLateLine program (path_file_view file)) old own.late.items new
    (subst (λ (xs : List Violation). Adds (IsFileLateLine program (path_file_view file)) [] xs) (sym (judged.nothing ∙ empty)) (adds_nothing (IsFileLateLine program (path_file_view file)) [] (λ v. late_of_refused program file v judged.refused))) added
late_of_file file Has program own none old new (Some part) empty judged has added =
    let class = judged.class in
    adds_same (IsMemberLine (MethodLateViolates program class) class.methods file.path.now class) (IsFileLateLine program (path_file_view file)) old new (λ v. late_of_class program file.path.now file.bytes.now class v judged.good)
    (adds_part (IsMemberLine (MethodLateViolates program class) class.methods file.path.now class) old own.late.items new
    (subst (λ (xs : List Violation). Adds (IsMemberLine (MethodLateViolates program class) class.methods file.path.now class) xs own.late.items) empty (judged.lines.late program has)) added)

part_of_file : (file : PathFile) (Has : Program → Type 0) (own none : JudgedFiles) (part : Option GoodFile) → IsJudgedFile file Has none own part → SaysPart file part
part_of_file file Has own none None judged = judged.refused
part_of_file file Has own none (Some part) judged = (judged.class, judged.good, judged.kept)

pub reported_file : (file : PathFile) (Has : Program → Type 0) (own none old new : JudgedFiles) (part : Option GoodFile) → none.early.items ≡ [] → none.late.items ≡ [] → IsJudgedFile file Has none own part
    → Adds (λ v. Contains own.early.items v) old.early.items new.early.items → Adds (λ v. Contains own.late.items v) old.late.items new.late.items → IsReportedFile file Has old new part
reported_file file Has own none old new part empty empty_late judged early late = record {
  early = early_of_file file Has own none old.early.items new.early.items part empty judged early;
  late = λ program has. late_of_file file Has program own none old.late.items new.late.items part empty_late judged has late;
  kept = part_of_file file Has own none part judged;
}

-- ---- all files

abbrev pub IsOwnFileLine : PathFile → Violation → Type 0
IsOwnFileLine file v = IsLoneLine (path_file_view file) v

abbrev pub IsOwnLateLine : Program → PathFile → Violation → Type 0
IsOwnLateLine program file v = IsFileLateLine program (path_file_view file) v

-- the lines of all files
pub all_lone_lines : (files : List PathFile) (n : ℕ) (old found : List Violation) → length files ≤ n → Adds (IsLineAmong IsOwnFileLine (take n files)) old found → Adds (IsAmongLoneLines (map path_file_view files)) old found
all_lone_lines files n old found le adds =
    adds_same (IsLineAmong IsOwnFileLine files) (IsAmongLoneLines (map path_file_view files)) old found (among_map path_file_view IsLoneLine files)
    (subst (λ (xs : List PathFile). Adds (IsLineAmong IsOwnFileLine xs) old found) (take_all n files le) adds)

split_late : (program : Program) (files : List File) (v : Violation) → IsLineAmong (IsFileLateLine program) files v ↔ IsLinkedLine program files v
split_late program files v = (
  λ (file, own, any). elim any [ inl line ↦ inl (file, own, line) | inr line ↦ inr (file, own, line) ],
  λ any. elim any [ inl (file, own, line) ↦ (file, own, inl line) | inr (file, own, line) ↦ (file, own, inr line) ],
)

pub all_late_lines : (program : Program) (files : List PathFile) (n : ℕ) (old found : List Violation) → length files ≤ n → Adds (IsLineAmong (IsOwnLateLine program) (take n files)) old found → Adds (IsLinkedLine program (map path_file_view files)) old found
all_late_lines program files n old found le adds =
    adds_same (IsLineAmong (IsFileLateLine program) (map path_file_view files)) (IsLinkedLine program (map path_file_view files)) old found (split_late program (map path_file_view files))
    (adds_same (IsLineAmong (IsOwnLateLine program) files) (IsLineAmong (IsFileLateLine program) (map path_file_view files)) old found (among_map path_file_view (IsFileLateLine program) files)
    (subst (λ (xs : List PathFile). Adds (IsLineAmong (IsOwnLateLine program) xs) old found) (take_all n files le) adds))

-- all lines of the rules 1 to 16
pub all_early_lines : (files : List PathFile) (kept : Kept) (start lone doubles found : List Violation) → start ≡ [] → Adds (IsAmongLoneLines (map path_file_view files)) start lone → AreKept files kept
    → Adds (IsLineAmong (IsRepeatedLine kept.named.items) kept.named.items) lone doubles → Adds (IsOwnersLine (map head_view kept.heads.items) kept.owners.items) doubles found
    → Adds (IsEarlyLine (map path_file_view files)) [] found
all_early_lines files kept start lone doubles found none lone_are are doubles_are owners_are =
    let seen = map path_file_view files in
    let rest : Adds (λ v. IsDuplicateLine seen v ⊎ IsHierarchyLine seen v) lone found =
    adds_both (IsDuplicateLine seen) (IsHierarchyLine seen) lone doubles found (duplicate_lines files kept.named.items lone doubles are.named doubles_are) (hierarchy_lines files kept.heads.items kept.owners.items doubles found are.owned owners_are) in
    subst (λ (xs : List Violation). Adds (IsEarlyLine seen) xs found) none (adds_both (IsAmongLoneLines seen) (λ v. IsDuplicateLine seen v ⊎ IsHierarchyLine seen v) start lone found lone_are rest)
