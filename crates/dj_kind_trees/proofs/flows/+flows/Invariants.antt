use Rattle.dj_kind_trees.proofs.flows.+flows.Given as goal

abbrev pub decreases-flows : goal.decreases-flows
decreases-flows l = l.height
