use Rattle.dj_kind_trees.proofs.meet.+meet.Given as goal

abbrev pub decreases-meet : goal.decreases-meet
decreases-meet l = l.height
