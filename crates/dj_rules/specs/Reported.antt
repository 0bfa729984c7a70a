-- Used by the code alone: what the calls that judge methods, class files and files answer.
use Rattle.std.specs.Prelude.{◌≡◌, ℕ, Bool, true, false, List, [], Option, Some, None}
use Rattle.dj_class.specs.trusted.ClassFile.{MemberInfo, ClassFile}
use Rattle.dj_report.specs.declared.report.PathFile.{PathFile}
use Rattle.dj_report.specs.trusted.Lines.{file_line}
use Rattle.dj_report.specs.Lines.{Gains, Adds}
use Rattle.dj_file_rules.specs.Views.{path_file_view}
use Rattle.dj_model.specs.trusted.Program.{Program}
use Rattle.dj_early_rules.specs.declared.judged.JudgedText.{JudgedText}
use Rattle.dj_early_rules.specs.declared.good.GoodFile.{GoodFile}
use Rattle.dj_early_rules.specs.trusted.Malformed.{IsFaulty, IsFaultyMethod, HasFaultyMethod, IsRefused, IsGood}
use Rattle.dj_early_rules.specs.trusted.Methods.{MethodViolates}
use Rattle.dj_early_rules.specs.Marks.{names_in, MarksOf, AreMarksOf}
use Rattle.dj_early_rules.specs.Passes.{IsGoodPart}
use Rattle.dj_early_rules.specs.trusted.Rules.{IsMemberLine, IsOwnLine, IsLoneLine}
use Rattle.dj_rules.specs.declared.lent.Marks.{Marks}
use Rattle.dj_rules.specs.declared.files.JudgedFiles.{JudgedFiles}
use Rattle.dj_rules.specs.Late.{MethodLateViolates, IsFileLateLine}

-- ---- methods

-- the method isn't faulty, and its marks were added
pub record IsReportedMethod (c : ClassFile) (Has : Program → Type 0) (texts : List JudgedText) (m : MemberInfo) (old new : Marks) : Type 0 where
  pub sound : IsFaultyMethod c.pool m → ⊥
  pub early : Gains (MarksOf (names_in texts m) (MethodViolates c m)) old.early.items new.early.items
  pub late : (program : Program) → Has program → Gains (MarksOf (names_in texts m) (MethodLateViolates program c m)) old.late.items new.late.items

-- by the truth value: the marks of the method were added, or the method is faulty
abbrev pub IsJudgedMethod : ClassFile → (Program → Type 0) → List JudgedText → MemberInfo → Marks → Marks → Bool → Type 0
IsJudgedMethod c Has texts m old new true = IsReportedMethod c Has texts m old new
IsJudgedMethod c Has texts m old new false = IsFaultyMethod c.pool m

-- the same for all methods
pub record AreReportedMethods (c : ClassFile) (Has : Program → Type 0) (texts : List JudgedText) (marks : Marks) : Type 0 where
  pub sound : HasFaultyMethod c → ⊥
  pub early : Gains (AreMarksOf texts (MethodViolates c) c.methods) [] marks.early.items
  pub late : (program : Program) → Has program → Gains (AreMarksOf texts (MethodLateViolates program c) c.methods) [] marks.late.items

abbrev pub AreJudgedMethods : ClassFile → (Program → Type 0) → List JudgedText → Option Marks → Type 0
AreJudgedMethods c Has texts (Some marks) = AreReportedMethods c Has texts marks
AreJudgedMethods c Has texts None = HasFaultyMethod c

-- ---- class files

-- the lines of a class file without faulty parts were added
pub record HasOwnLines (path : List ℕ) (c : ClassFile) (Has : Program → Type 0) (old new : JudgedFiles) : Type 0 where
  pub early : Adds (IsOwnLine path c) old.early.items new.early.items
  pub late : (program : Program) → Has program → Adds (IsMemberLine (MethodLateViolates program c) c.methods path c) old.late.items new.late.items

-- the class file has no faulty part, and its lines were added; or it has one, and no line was added
abbrev pub IsJudgedClass : List ℕ → ClassFile → (Program → Type 0) → JudgedFiles → JudgedFiles → Option GoodFile → Type 0
IsJudgedClass path c Has old new (Some part) = (IsFaulty c → ⊥) × (IsGoodPart c part × HasOwnLines path c Has old new)
IsJudgedClass path c Has old new None = IsFaulty c × (new ≡ old)

-- ---- files

-- the file is this good class file, and its lines were added
pub record IsGoodFile (file : PathFile) (Has : Program → Type 0) (old new : JudgedFiles) (part : GoodFile) : Type 0 where
  pub class : ClassFile
  pub good : IsGood file.bytes.now class
  pub kept : IsGoodPart class part
  pub lines : HasOwnLines file.path.now class Has old new

-- rule 1 is violated, and its line was added
pub record IsRefusedFile (file : PathFile) (old new : JudgedFiles) : Type 0 where
  pub refused : IsRefused file.bytes.now
  pub line : Adds (λ v. v ≡ file_line file.path.now 1) old.early.items new.early.items
  pub nothing : new.late.items ≡ old.late.items

abbrev pub IsJudgedFile : PathFile → (Program → Type 0) → JudgedFiles → JudgedFiles → Option GoodFile → Type 0
IsJudgedFile file Has old new None = IsRefusedFile file old new
IsJudgedFile file Has old new (Some part) = IsGoodFile file Has old new part

-- what is kept of the file; none where it violates rule 1
abbrev pub SaysPart : PathFile → Option GoodFile → Type 0
SaysPart file None = IsRefused file.bytes.now
SaysPart file (Some part) = (c : ClassFile) × IsGood file.bytes.now c × IsGoodPart c part

-- the lines of the file by itself were added, and this is kept of it
pub record IsReportedFile (file : PathFile) (Has : Program → Type 0) (old new : JudgedFiles) (part : Option GoodFile) : Type 0 where
  pub early : Adds (IsLoneLine (path_file_view file)) old.early.items new.early.items
  pub late : (program : Program) → Has program → Adds (IsFileLateLine program (path_file_view file)) old.late.items new.late.items
  pub kept : SaysPart file part
