use Rattle.std.proofs.Common.{map, sym, subst}
use Rattle.dj_numbering.specs.Shapes.{shape_type}
use Rattle.dj_numbering.specs.Kept.{DoTextsRise}
use Rattle.dj_numbering.proofs.Rising.{texts_rise}
use Rattle.dj_numbering.proofs.Wholes.{spelled_by, some_dims}
use Rattle.dj_numbering.proofs.arrays.components_of.Goals as goal

pub component_of-requires-clause-rise : goal.component_of-requires-clause-rise
component_of-requires-clause-rise c =
    subst DoTextsRise (sym (spelled_by c.args.table.now c.args.wholes.now c.args.shapes.now c.requires.spelled c.requires.arrays c.requires.elements)) (texts_rise (map (shape_type c.args.table.now) c.args.shapes.now) c.requires.arrays.rise)

pub component_of-requires-clause-some : goal.component_of-requires-clause-some
component_of-requires-clause-some c = some_dims c.args.table.now c.args.shapes.now c.requires.arrays.each c.loop-shape.shape-index _ c.loop-shape-test.true
