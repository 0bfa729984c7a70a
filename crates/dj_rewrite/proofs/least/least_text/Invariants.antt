use Rattle.dj_rewrite.specs.Steps.{IsLeastUpTo}
use Rattle.dj_rewrite.proofs.least.least_text.Given as goal

-- the least of the texts so far
abbrev pub invariant-loop-text : goal.invariant-loop-text
invariant-loop-text l = IsLeastUpTo l.texts l.text-index l.least
