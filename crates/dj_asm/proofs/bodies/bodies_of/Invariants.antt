use Rattle.std.proofs.Common.{ℕ, ◌≤◌, ◌-◌, List, ◌++◌, length, map, drop}
use Rattle.dj_asm_source.specs.LineViews.{line_view}
use Rattle.dj_asm.specs.Filing.{MayHaveBodies, AreBodies}
use Rattle.dj_asm.proofs.bodies.bodies_of.Given as goal

-- the lines that are left may have bodies, and the bodies so far with theirs are those of all
abbrev pub invariant-loop-before : goal.invariant-loop-before
invariant-loop-before l = record {
  may : MayHaveBodies l.pool (map line_view (drop l.before l.lines));
  are : (more : List (List ℕ)) → AreBodies l.pool (map line_view (drop l.before l.lines)) more → AreBodies l.pool (map line_view l.lines) (l.bodies.items ++ more);
  within : l.before ≤ length l.lines;
}

abbrev pub decreases-loop-before : goal.decreases-loop-before
decreases-loop-before l = length l.lines - l.before
