use Rattle.dj_natives.specs.Copies.{takes_at}
use Rattle.dj_natives.proofs.Takings.{TakesTo}
use Rattle.dj_natives.proofs.arrays.taken_before.Given as goal

-- those so far are taken
abbrev pub invariant-loop-at : goal.invariant-loop-at
invariant-loop-at g l =
    TakesTo (takes_at (g.C.Classes.program l.classes) (g.C.Classes.prefix l.classes) (g.C.Classes.types l.classes) l.heap l.copy.target) l.heap l.copy l.at
