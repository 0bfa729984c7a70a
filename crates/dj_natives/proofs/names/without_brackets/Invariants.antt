use Rattle.std.proofs.Common.{◌≡◌, ◌≤◌, length}
use Rattle.dj_natives.specs.Names.{after_brackets}
use Rattle.dj_natives.proofs.names.without_brackets.Given as goal

-- the rest has the same elements
abbrev pub invariant-loop-rest : goal.invariant-loop-rest
invariant-loop-rest l = record { after : after_brackets l.rest ≡ after_brackets l.fn.text; few : length l.rest ≤ length l.fn.text }

abbrev pub decreases-loop-rest : goal.decreases-loop-rest
decreases-loop-rest l = length l.rest
