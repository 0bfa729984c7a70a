use Rattle.std.proofs.Common.{take}
use Rattle.dj_layout.specs.Passes.{ArePlaces}
use Rattle.dj_layout.proofs.places.place_instrs.Given as goal

abbrev pub invariant-loop-i : goal.invariant-loop-i
invariant-loop-i l = ArePlaces (take l.i l.instrs) l.starts.items l.at
