use Rattle.std.proofs.Common.{◌≡◌}
use Rattle.dj_class.specs.Views.{class_of}
use Rattle.dj_report.specs.trusted.Lines.{file_line}
use Rattle.dj_file_rules.specs.trusted.Violations.{HasOtherVersion}
use Rattle.dj_report.proofs.Adding.{adds_when}
use Rattle.dj_file_rules.proofs.whole.add_version_lines.Goals as goal

pub returns : goal.returns
returns c =
    adds_when (HasOtherVersion (class_of c.args.view.now)) (λ v. v ≡ file_line c.args.path.now 2)
    c.args.found.now.items c.add_file_line.new.found.items (c.has_other_version.ensures.0 c.if-not-has_other_version.false)
    c.in_ok-add_file_line.ensures
