use Rattle.std.proofs.Common.{◌≡◌}
use Rattle.std.specs.Prelude.{IsTrue}
use Rattle.dj_report.specs.trusted.Lines.{file_line}
use Rattle.dj_report.proofs.Adding.{adds_when}
use Rattle.dj_early_rules.proofs.lines.add_file_line_if.Goals as goal

pub returns-in_ok-add_file_line : goal.returns-in_ok-add_file_line
returns-in_ok-add_file_line c =
    adds_when (IsTrue c.args.violated) (λ v. v ≡ file_line c.args.path.now c.args.rule) c.args.found.now.items c.add_file_line.new.found.items c.if-violated.true c.in_ok-add_file_line.ensures
