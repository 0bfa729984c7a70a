use Rattle.dj_kind_trees.proofs.put.+put.Given as goal

abbrev pub decreases-put : goal.decreases-put
decreases-put l = l.height
