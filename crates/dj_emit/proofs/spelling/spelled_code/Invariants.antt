use Rattle.std.proofs.Common.{◌≡◌}
use Rattle.dj_emit.specs.Spelled.{spelled_up_to}
use Rattle.dj_emit.proofs.spelling.spelled_code.Given as goal

abbrev pub invariant-loop-i : goal.invariant-loop-i
invariant-loop-i l = l.out ≡ spelled_up_to l.first l.places.groups.items l.code l.i
