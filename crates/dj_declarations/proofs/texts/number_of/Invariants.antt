use Rattle.std.proofs.Common.{◌-◌}
use Rattle.dj_declarations.proofs.TextLaws.{IsBetween}
use Rattle.dj_declarations.proofs.texts.number_of.Given as goal

-- the text stands between these places, if at all
abbrev pub invariant-loop-low : goal.invariant-loop-low
invariant-loop-low l = IsBetween l.ends l.bytes l.text l.low l.high

abbrev pub decreases-loop-low : goal.decreases-loop-low
decreases-loop-low l = l.high - l.low
