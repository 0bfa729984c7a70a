use Rattle.std.proofs.Common.{All}
use Rattle.dj_loader_tests.specs.Sets.{IsSound}
use Rattle.dj_loader_tests.proofs.set.views_of.Given as goal

-- the class files so far
abbrev pub invariant-loop-file : goal.invariant-loop-file
invariant-loop-file l = All IsSound l.views.items
