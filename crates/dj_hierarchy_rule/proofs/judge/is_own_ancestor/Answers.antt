use Rattle.std.proofs.Common.{sym}
use Rattle.dj_hierarchy_rule.specs.Views.{seen_view}
use Rattle.dj_hierarchy_rule.proofs.Judging.{not_numbered_there, false_reported}
use Rattle.dj_hierarchy_rule.proofs.judge.is_own_ancestor.Goals as goal

pub returns-in_default : goal.returns-in_default
returns-in_default c = false_reported (λ own. not_numbered_there c.args.hierarchy.now c.requires.known (seen_view c.args.head.now) c.requires.there (sym c.in_default.ensures))
