use Rattle.dj_numbering.proofs.Placed.{ArePlacesSoFar}
use Rattle.dj_numbering.proofs.places.object_places.Given as goal

-- those of the fields so far
abbrev pub invariant-loop-field : goal.invariant-loop-field
invariant-loop-field l = ArePlacesSoFar l.table l.field l.places.items
