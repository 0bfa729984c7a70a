use Rattle.dj_resolution.proofs.Subclasses.{IsPassed}
use Rattle.dj_resolution.proofs.numbers.is_among.Given as goal

-- it is none so far
abbrev pub invariant-loop-other : goal.invariant-loop-other
invariant-loop-other l = IsPassed l.numbers l.number l.other-index
