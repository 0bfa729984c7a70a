use Rattle.std.proofs.Common.{map}
use Rattle.dj_report.proofs.Adding.{exactly_found}
use Rattle.dj_file_rules.specs.Views.{path_file_view}
use Rattle.dj_early_rules.specs.trusted.Rules.{IsEarlyLine}
use Rattle.dj_rules.proofs.files.rules.Goals as goal

pub returns : goal.returns
returns c =
    exactly_found (IsEarlyLine (map path_file_view c.args.files.now)) c.in_ok-judged.judged.early.items c.in_order.result c.in_ok-judged.ensures.early c.in_order.ensures.ordered c.in_order.ensures.members
