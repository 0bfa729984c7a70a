use Rattle.std.proofs.Common.{◌≡◌, List, ℕ, subst, sym}
use Rattle.dj_class.specs.Views.{class_of}
use Rattle.dj_report.specs.trusted.Lines.{file_line}
use Rattle.dj_file_rules.specs.trusted.Violations.{IsNamedAs, this_name}
use Rattle.dj_report.proofs.Adding.{adds_when, not_both}
use Rattle.dj_file_rules.proofs.whole.add_name_lines.Goals as goal

pub returns : goal.returns
returns c =
    adds_when (IsNamedAs c.args.path.now (this_name (class_of c.args.view.now)) → ⊥) (λ v. v ≡ file_line c.args.path.now 3)
    c.args.found.now.items c.add_file_line.new.found.items
    (λ is. not_both c.in_ok-is_named_as.field-0 (c.in_ok-is_named_as.ensures.1 (subst (λ (name : List ℕ). IsNamedAs c.args.path.now name) (sym c.class_name.ensures) is)) c.if-branch.false)
    c.in_ok-add_file_line.ensures
