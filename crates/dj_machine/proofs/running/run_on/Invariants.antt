use Rattle.dj_machine.proofs.RunLaws.{IsSoFar}
use Rattle.dj_machine.proofs.running.run_on.Given as goal

-- the steps so far
abbrev pub invariant-loop-made : goal.invariant-loop-made
invariant-loop-made g l = IsSoFar l.initial.machine l.machine (g.H.Host.given l.initial.host) (g.H.Host.given l.host) l.fuel l.made
