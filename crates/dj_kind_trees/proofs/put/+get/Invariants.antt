use Rattle.dj_kind_trees.proofs.put.+get.Given as goal

abbrev pub decreases-get : goal.decreases-get
decreases-get l = l.height
