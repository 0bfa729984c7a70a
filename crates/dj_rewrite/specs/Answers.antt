-- What becomes of a class file that is rewritten.
use Rattle.std.specs.Prelude.{◌≡◌, ◌↔◌, ℕ, ◌<◌, List, [], filter, length, codes, Contains}
use Rattle.std.specs.List.{AllByRecursion}
use Rattle.dj_names.specs.trusted.Types.{Name}
use Rattle.dj_pool.specs.trusted.Pool.{Constant}
use Rattle.dj_class.specs.trusted.ClassFile.{MemberInfo, ClassFile, IsValid, class_bytes}
use Rattle.dj_early_rules.specs.trusted.Attributes.{is_named}
use Rattle.dj_model.specs.trusted.Program.{Program}
use Rattle.dj_program.specs.trusted.Programs.{AreSideBySide}
use Rattle.dj_rewritten.specs.Files.{IsRewrittenFile}
use Rattle.dj_rewritten.specs.TooLarge.{HasLargeMethod, IsTooLargeClass}
use Rattle.dj_rewrite_code.specs.Answers.{IsKnownMethod, HasRewrittenBody, HasLargeCode}
use Rattle.dj_rewrite.specs.declared.answers.MethodAnswer.{MethodAnswer}
use Rattle.dj_rewrite.specs.declared.answers.MethodAnswer.TheVariants as answers
use Rattle.dj_rewrite.specs.declared.file.FileAnswer.{FileAnswer}
use Rattle.dj_rewrite.specs.declared.file.FileAnswer.TheVariants as files
use Rattle.dj_rewrite.specs.Rule.{IsTooLargeIn}

abbrev pub desc_of : MemberInfo → ℕ
desc_of m = m.desc

-- the file is valid, no method of it is faulty, and its code makes objects of classes of the program
pub record IsKnownClass (program : Program) (c : ClassFile) : Type 0 where
  pub valid : IsValid c
  pub methods : AllByRecursion (IsKnownMethod program c.pool) c.methods

-- ---- methods

abbrev pub AnswersMethod : Program → List Constant → ℕ → MemberInfo → MethodAnswer → Type 0
AnswersMethod program pool first m answers.Bodiless = filter (is_named pool (codes "Code")) m.attributes ≡ []
AnswersMethod program pool first m (answers.Rewritten code) = HasRewrittenBody program pool first m code
AnswersMethod program pool first m answers.TooLarge = HasLargeCode program pool first m

abbrev pub AreAnswers : Program → List Constant → ℕ → List MemberInfo → List MethodAnswer → Type 0
AreAnswers program pool first methods made = AreSideBySide (AnswersMethod program pool first) methods made

abbrev pub HasLarge : List MethodAnswer → Type 0
HasLarge made = Contains made answers.TooLarge

-- ---- files

-- the bytes are those of the rewritten file, and all of it fits
pub record WritesFile (program : Program) (c : ClassFile) (bytes : List ℕ) : Type 0 where
  pub file : ClassFile
  pub rewritten : IsRewrittenFile program c file
  pub is : bytes ≡ class_bytes file
  pub class_fits : IsTooLargeClass program c → ⊥
  pub methods_fit : HasLargeMethod program c → ⊥

-- some of it doesn't fit, and these texts tell what
pub record AreTooLarge (program : Program) (c : ClassFile) (texts : List Name) : Type 0 where
  pub all : (text : Name) → Contains texts text ↔ IsTooLargeIn program c text
  pub some : 0 < length texts

abbrev pub AnswersFile : Program → ClassFile → FileAnswer → Type 0
AnswersFile program c (files.Written bytes) = WritesFile program c bytes
AnswersFile program c (files.TooLarge texts) = AreTooLarge program c texts.items
