-- The lines of rule 21, by what becomes of class files.
use Rattle.std.proofs.Common.{◌≡◌, List, [], map, take, length, ◌≤◌, ℕ, ◌↔◌, Contains, inl, inr, subst}
use Rattle.std.proofs.lemmas.List.{take_all}
use Rattle.dj_names.specs.trusted.Types.{Name}
use Rattle.dj_class.specs.declared.class.ClassView.{ClassView}
use Rattle.dj_class.specs.trusted.ClassFile.{ClassFile}
use Rattle.dj_class.specs.Views.{class_of}
use Rattle.dj_report.specs.declared.report.Violation.{Violation}
use Rattle.dj_report.specs.trusted.Lines.{AreExactly}
use Rattle.dj_report.specs.trusted.Order.{IsInOrder}
use Rattle.dj_report.specs.Lines.{Adds, IsLineAmong}
use Rattle.dj_report.proofs.Adding.{adds_same, adds_nothing, among_map, exactly_found}
use Rattle.dj_model.specs.trusted.Program.{Program}
use Rattle.dj_rewrite.specs.Answers.{WritesFile, AreTooLarge}
use Rattle.dj_rewrite.specs.Rule.{line_of, IsTooLargeLineIn, IsTooLargeLine}

pub no_lines : (program : Program) (c : ClassFile) (bytes : List ℕ) (found : List Violation) → WritesFile program c bytes → Adds (IsTooLargeLineIn program c) found found
no_lines program c bytes found written = adds_nothing (IsTooLargeLineIn program c) found fits where
  fits : (v : Violation) → IsTooLargeLineIn program c v → ⊥
  fits v (member, inl class, is) = written.class_fits class.0
  fits v (member, inr method, is) = written.methods_fit (method.0, method.1, method.2)

pub lines_told : (program : Program) (c : ClassFile) (texts : List Name) (old new : List Violation) → AreTooLarge program c texts → Adds (IsLineAmong (λ member v. v ≡ line_of c member) texts) old new
    → Adds (IsTooLargeLineIn program c) old new
lines_told program c texts old new large adds =
    adds_same (IsLineAmong (λ member v. v ≡ line_of c member) texts) (IsTooLargeLineIn program c) old new
    (λ v. (λ line. (line.0, (large.all line.0).0 line.1, line.2), λ line. (line.0, (large.all line.0).1 line.1, line.2))) adds

pub found_all : (program : Program) (views : List ClassView) (i : ℕ) (found lines : List Violation) → length views ≤ i
    → Adds (IsLineAmong (λ (view : ClassView). IsTooLargeLineIn program (class_of view)) (take i views)) [] found → IsInOrder lines → ((v : Violation) → Contains lines v ↔ Contains found v)
    → AreExactly (IsTooLargeLine program (map class_of views)) lines
found_all program views i found lines past adds in_order members =
    exactly_found (IsTooLargeLine program (map class_of views)) found lines
    (adds_same (IsLineAmong (λ (view : ClassView). IsTooLargeLineIn program (class_of view)) views) (IsTooLargeLine program (map class_of views)) [] found
    (among_map class_of (IsTooLargeLineIn program) views)
    (subst (λ (list : List ClassView). Adds (IsLineAmong (λ (view : ClassView). IsTooLargeLineIn program (class_of view)) list) [] found) (take_all i views past) adds))
    in_order members
