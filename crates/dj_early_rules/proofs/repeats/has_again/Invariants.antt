use Rattle.std.proofs.Common.{map}
use Rattle.dj_class.specs.Members.{member_of}
use Rattle.dj_early_rules.specs.Gathered.{names_of}
use Rattle.dj_early_rules.proofs.RepeatLaws.{AreSeen}
use Rattle.dj_early_rules.proofs.repeats.has_again.Given as goal

-- the names so far, no two of which are the same
abbrev pub invariant-loop-member : goal.invariant-loop-member
invariant-loop-member l = AreSeen l.member-index (names_of l.texts (map member_of l.members)) l.seen
