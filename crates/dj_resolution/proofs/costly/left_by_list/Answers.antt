use Rattle.dj_resolution.proofs.Finding.{has_at}
use Rattle.dj_resolution.proofs.costly.left_by_list.Goals as goal

pub comparisons_in-requires : goal.comparisons_in-requires
comparisons_in-requires c = c.requires _ (has_at c.args.list.now c.loop-class.class-index c.loop-class-test.true)
