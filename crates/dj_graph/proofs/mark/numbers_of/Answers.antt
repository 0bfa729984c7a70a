use Rattle.std.proofs.lemmas.Option.{get_or_from_slice_get}
use Rattle.dj_graph.specs.declared.mark.NodeMark.TheVariants.{Unfound, Closed}
use Rattle.dj_graph.proofs.mark.numbers_of.Goals as goal

pub unreachable-requires : goal.unreachable-requires
unreachable-requires c =
    let found = c.requires c.loop-mark.mark-index c.loop-mark-test.true in
    c.in_default.not-Closed found.0 (get_or_from_slice_get c.args.marks.now c.loop-mark.mark-index (Closed found.0) Unfound found.1)
