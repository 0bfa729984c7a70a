use Rattle.std.proofs.Common.{◌≡◌, ◌++◌, map}
use Rattle.std.specs.BTreeMap.{values}
use Rattle.dj_numbering.specs.Shapes.{shape_in}
use Rattle.dj_image.specs.ArrayRows.{AreAllKnown}
use Rattle.dj_image.proofs.arrays.tops_in.Given as goal

-- those so far, and those that follow
abbrev pub invariant-loop-top : goal.invariant-loop-top
invariant-loop-top l = (l.tops.items ++ map (shape_in l.table) l.top-iterator ≡ map (shape_in l.table) (values l.fn.rows)) × AreAllKnown l.table l.top-iterator
