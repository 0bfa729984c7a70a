use Rattle.dj_kind_trees.proofs.Wrapping.{bare_first}
use Rattle.dj_kind_trees.proofs.trees.Trees.new.Goals as goal

pub returns-clause-first : goal.returns-clause-first
returns-clause-first c = bare_first c.height_for-height.result.0 c.in_ok-first_nodes.field-0.items c.in_ok-first_nodes.ensures
