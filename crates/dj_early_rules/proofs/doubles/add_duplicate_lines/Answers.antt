use Rattle.dj_report.proofs.Adding.{on_ok}
use Rattle.dj_early_rules.specs.Doubles.{texts_in}
use Rattle.dj_early_rules.proofs.DoubleLaws.{lines_by_names}
use Rattle.dj_early_rules.proofs.doubles.add_duplicate_lines.Goals as goal

pub returns : goal.returns
returns c =
    on_ok c.add_lines_among.result
    (lines_by_names c.args.files.now (texts_in c.in_ok-names.names) c.args.found.now.items c.add_lines_among.new.found.items c.in_ok-names.ensures) c.add_lines_among.ensures
