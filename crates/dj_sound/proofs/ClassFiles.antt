-- Files in which no rule is violated are class files.
use Rattle.std.proofs.Common.{List, [], ◌∷◌, Contains, refl, inl, inr}
use Rattle.dj_edge.specs.trusted.Held.{File}
use Rattle.dj_names.specs.trusted.Library.{Library, deterministic_library}
use Rattle.dj_pool.proofs.Decides.{tests_decide}
use Rattle.dj_class.specs.trusted.ClassFile.{ClassFile}
use Rattle.dj_class.specs.Laws.{ClassOrFault, IsOne, IsFaulty}
use Rattle.dj_class.proofs.AnswerLaws.{class_or_fault, faulty_is_malformed}
use Rattle.dj_report.specs.declared.report.Violation.{Violation}
use Rattle.dj_report.specs.trusted.Lines.{file_line}
use Rattle.dj_early_rules.specs.trusted.Malformed.{IsRefused, IsGood}
use Rattle.dj_loader.proofs.Lists.{member_first, member_later, member_none}
use Rattle.dj_class_set.specs.trusted.Checked.{AreGoodFiles, IsLineBy}
use Rattle.dj_sound.specs.Laws.{AreOfBytes, HaveClassFiles}

module _ (library : Library) (files : List File) (silent : (v : Violation) → IsLineBy library files v → ⊥) where
  -- rule 1
  not_refused : (file : File) → Contains files file → IsRefused file.1 → ⊥
  not_refused file m refused = silent (file_line file.0 1) (inl (inl (file, m, inl (refused, refl))))

  good_file : (file : File) → Contains files file → ClassOrFault file.1 → (c : ClassFile) × IsGood file.1 c
  good_file file m (IsOne c is) = (c, record { file = is; whole = λ faulty. not_refused file m (inr (c, is, faulty)) })
  good_file file m (IsFaulty e fault) = absurd (not_refused file m (inl (faulty_is_malformed tests_decide file.1 e fault)))

  pub good_files : (some : List File) → ((file : File) → Contains some file → Contains files file) → AreOfBytes some → (classes : List ClassFile) × AreGoodFiles some classes
  good_files [] own bytes = ([], tt)
  good_files (file ∷ some) own bytes =
      let first = good_file file (own file (member_first file some)) (class_or_fault tests_decide file.1 (bytes file (member_first file some))) in
      let rest = good_files some (λ f m. own f (member_later file some f m)) (λ f m. bytes f (member_later file some f m)) in
      (first.0 ∷ rest.0, (first.1, rest.1))

pub have_class_files : HaveClassFiles
have_class_files files bytes silent =
    let reported = good_files deterministic_library files (λ v line. member_none v ((silent.all v).1 line)) files (λ file m. m) bytes in
    (reported.0, record { good = reported.1; silent = silent })
