-- The lines of files of the rules 17 and 18.
use Rattle.std.proofs.Common.{◌≡◌, ℕ, ◌+◌, ◌≤◌, Bool, List, [], ◌∷◌, ◌++◌, map, take, length, Option, Some, None, refl, sym, ap, ◌∙◌, subst, inl, inr, slice_get}
use Rattle.std.specs.Option.{option_map}
use Rattle.std.proofs.lemmas.List.{take_more, take_all, map-append}
use Rattle.std.proofs.lemmas.Option.{slice_get_within, get_or_from_slice_get, slice_get-map}
use Rattle.dj_pool.proofs.Decides.{tests_decide}
use Rattle.dj_class.specs.trusted.ClassFile.{MemberInfo, ClassFile}
use Rattle.dj_class.proofs.ClassLaws.{one_class_file}
use Rattle.dj_report.specs.declared.report.Violation.{Violation}
use Rattle.dj_report.specs.declared.report.PathFile.{PathFile}
use Rattle.dj_report.specs.Lines.{Adds, Gains, IsLineAmong}
use Rattle.dj_report.proofs.Sorted.{contains_none}
use Rattle.dj_report.proofs.Adding.{adds_same, among_map}
use Rattle.dj_file_rules.specs.Views.{path_file_view}
use Rattle.dj_model.specs.trusted.Program.{Program}
use Rattle.dj_early_rules.specs.declared.judged.JudgedText.{JudgedText}
use Rattle.dj_early_rules.specs.declared.marks.Mark.{Mark}
use Rattle.dj_early_rules.specs.Judged.{AreTexts}
use Rattle.dj_early_rules.specs.trusted.Malformed.{IsGood}
use Rattle.dj_early_rules.specs.Marks.{AreMarksOf, IsMarkLine}
use Rattle.dj_early_rules.specs.trusted.Rules.{IsMemberLine}
use Rattle.dj_early_rules.proofs.FileLaws.{member_lines}
use Rattle.dj_link_rules.specs.trusted.Lines.{MethodLinkViolates, IsFileLinkLine, IsLinkLine}
use Rattle.dj_link_rules.specs.Known.{is_unmakeable, AreUnmakeable}

-- the marks of methods, as lines
pub mark_lines : (texts : List JudgedText) (Violates : MemberInfo → Option ℕ → ℕ → Type 0) (path : List ℕ) (c : ClassFile) (marks : List Mark) (a b : List Violation) → AreTexts c.pool texts
    → Gains (AreMarksOf texts Violates c.methods) [] marks → Adds (IsLineAmong (IsMarkLine path c.pool) marks) a b → Adds (IsMemberLine Violates c.methods path c) a b
mark_lines texts Violates path c marks a b are gains =
    adds_same (IsLineAmong (IsMarkLine path c.pool) marks) (IsMemberLine Violates c.methods path c) a b (λ v. (
      λ (mark, m, line). elim ((gains mark).0 m) [
        | inl none ↦ absurd (contains_none mark none)
        | inr is ↦ (member_lines texts Violates c.methods path c are v).0 (mark, is, line)
      ],
      λ is. let own = (member_lines texts Violates c.methods path c are v).1 is in (own.0, (gains own.0).1 (inr own.1), own.2),
    ))

-- those of a class file are those of its file
pub file_lines : (program : Program) (path bytes : List ℕ) (c : ClassFile) (a b : List Violation) → IsGood bytes c
    → Adds (IsMemberLine (MethodLinkViolates program c) c.methods path c) a b → Adds (IsFileLinkLine program (path, bytes)) a b
file_lines program path bytes c a b good =
    adds_same (IsMemberLine (MethodLinkViolates program c) c.methods path c) (IsFileLinkLine program (path, bytes)) a b (λ v. (
      λ line. (c, good, line),
      λ (d, is, line). subst (λ (x : ClassFile). IsMemberLine (MethodLinkViolates program x) x.methods path x v) (one_class_file tests_decide bytes d c is.file good.file) line,
    ))

abbrev pub IsOwnLinkLine : Program → PathFile → Violation → Type 0
IsOwnLinkLine program file v = IsFileLinkLine program (path_file_view file) v

-- the lines of all files
pub all_link_lines : (program : Program) (files : List PathFile) (n : ℕ) (old found : List Violation) → length files ≤ n
    → Adds (IsLineAmong (IsOwnLinkLine program) (take n files)) old found → Adds (IsLinkLine program (map path_file_view files)) old found
all_link_lines program files n old found le adds =
    adds_same (IsLineAmong (IsOwnLinkLine program) files) (IsLinkLine program (map path_file_view files)) old found (among_map path_file_view (IsFileLinkLine program) files)
    (subst (λ (xs : List PathFile). Adds (IsLineAmong (IsOwnLinkLine program) xs) old found) (take_all n files le) adds)

-- ---- marks of classes

some_pushed : {A B : Type 0} (f : A → B) (xs : List A) (i : ℕ) (ys : List B) (y : B) (x : A) → ys ≡ map f (take i xs) → slice_get xs i ≡ Some x → y ≡ f x → ys ++ y ∷ [] ≡ map f (take (i + 1) xs)
some_pushed f xs i ys y x are found is =
    let more : take (i + 1) xs ≡ take i xs ++ x ∷ [] = take_more xs i x (slice_get_within xs i x found) ∙ ap (λ z. take i xs ++ z ∷ []) (get_or_from_slice_get xs i x x found) in
    (λ k. are k ++ is k ∷ []) ∙ sym (ap (map f) more ∙ map-append f (take i xs) (x ∷ []))

same_some : {B : Type 0} (a b : B) → Some a ≡ Some b → a ≡ b
same_some a b e = cc

pushed_at : {A B : Type 0} (f : A → B) (xs : List A) (i : ℕ) (ys : List B) (y : B) (found : Option A) → ys ≡ map f (take i xs) → slice_get xs i ≡ found → Some y ≡ option_map f found → ys ++ y ∷ [] ≡ map f (take (i + 1) xs)
pushed_at f xs i ys y None are found is = absurd cc
pushed_at f xs i ys y (Some x) are found is = some_pushed f xs i ys y x are found (same_some y (f x) is)

-- what is pushed after the values of the first classes is that of the next
pub pushed : (program : Program) (i : ℕ) (marks : List Bool) (mark : Bool) → marks ≡ map is_unmakeable (take i program) → Some mark ≡ option_map is_unmakeable (slice_get program i) → marks ++ mark ∷ [] ≡ map is_unmakeable (take (i + 1) program)
pushed program i marks mark are is = pushed_at is_unmakeable program i marks mark (slice_get program i) are refl is

pub all_pushed : (program : Program) (i : ℕ) (marks : List Bool) → length program ≤ i → marks ≡ map is_unmakeable (take i program) → AreUnmakeable program marks
all_pushed program i marks le are class =
    ap (λ (xs : List Bool). slice_get xs class) (are ∙ ap (map is_unmakeable) (take_all i program le)) ∙ slice_get-map is_unmakeable program class
