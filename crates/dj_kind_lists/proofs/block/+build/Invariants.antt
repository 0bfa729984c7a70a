use Rattle.dj_kind_lists.proofs.block.+build.Given as goal

abbrev pub decreases-build : goal.decreases-build
decreases-build l = l.height
