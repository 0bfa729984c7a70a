use Rattle.std.proofs.Common.{◌≡◌, take, drop}
use Rattle.dj_names.specs.trusted.Types.{same_name}
use Rattle.dj_natives.specs.Seen.{units_at}
use Rattle.dj_natives.proofs.texts.agree.Given as goal

-- the rest decides
abbrev pub invariant-loop-at : goal.invariant-loop-at
invariant-loop-at l = same_name (take l.count (units_at l.heap l.a)) (take l.count (units_at l.heap l.b))
    ≡ same_name (drop l.at (take l.count (units_at l.heap l.a))) (drop l.at (take l.count (units_at l.heap l.b)))
