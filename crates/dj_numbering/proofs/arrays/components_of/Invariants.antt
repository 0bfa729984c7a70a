use Rattle.std.proofs.Common.{◌≡◌, map, take}
use Rattle.dj_numbering.specs.Shapes.{shape_type}
use Rattle.dj_numbering.specs.Kept.{component_in, text_in}
use Rattle.dj_numbering.proofs.arrays.components_of.Given as goal

-- the numbers of those so far
abbrev pub invariant-loop-shape : goal.invariant-loop-shape
invariant-loop-shape l = l.components.items ≡ map (component_in l.table (map (text_in l.wholes) l.shapes)) (map (shape_type l.table) (take l.shape-index l.shapes))
