use Rattle.dj_declarations.specs.MemberRows.{AreCounted}
use Rattle.dj_declarations.proofs.members.places_below.Given as goal

-- the places so far
abbrev pub invariant-loop-place : goal.invariant-loop-place
invariant-loop-place l = AreCounted l.place l.places.items
