use Rattle.std.proofs.Common.{ℕ, ◌<◌, []}
use Rattle.dj_straight.specs.trusted.Shape.{Holds}
use Rattle.dj_straight.specs.trusted.Methods.{straight_signature}
use Rattle.dj_straight.specs.Methods.{code_view}
use Rattle.dj_straight.specs.Shaping.{HasRoomOf, StandsBefore}
use Rattle.dj_straight.proofs.shape.shape_fault.Given as goal

abbrev pub invariant-loop-number : goal.invariant-loop-number
invariant-loop-number l = record {
  room : HasRoomOf l.state l.method;
  before : (other : ℕ) → other < l.number → Holds straight_signature (code_view l.method) [] other;
  stands : StandsBefore l.ended (code_view l.method) l.number l.state.kinds;
}
