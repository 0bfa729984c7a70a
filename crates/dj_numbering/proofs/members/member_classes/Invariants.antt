use Rattle.std.proofs.Common.{◌≡◌, length}
use Rattle.dj_numbering.specs.Numbered.{AreMemberClasses}
use Rattle.dj_numbering.proofs.members.member_classes.Given as goal

-- the members so far
abbrev pub invariant-loop-number : goal.invariant-loop-number
invariant-loop-number l = record {
  long : length l.classes.items ≡ l.number;
  homes : AreMemberClasses l.starts l.classes.items;
}
