use Rattle.dj_kind_trees.proofs.replace.+replace.Given as goal

abbrev pub decreases-replace : goal.decreases-replace
decreases-replace l = l.height
