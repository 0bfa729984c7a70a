use Rattle.std.proofs.Common.{◌≡◌, map}
use Rattle.dj_member_index.specs.DirectoryRows.{method_named, Numbers, Members, AreKnown, AreSoFar}
use Rattle.dj_member_index.proofs.gather.add_methods.Given as goal

-- the rows so far
abbrev pub invariant-loop-place : goal.invariant-loop-place
invariant-loop-place l =
    (number : Numbers) (members : Members) → AreKnown number l.texts.texts l.known → members l.class ≡ map method_named l.texts.methods → AreSoFar number members l.class 0 l.fn.rows.items → AreSoFar number members l.class l.place l.rows.items
