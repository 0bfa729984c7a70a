use Rattle.std.proofs.Common.{take, Contains}
use Rattle.dj_class.specs.declared.class.MemberView.{MemberView}
use Rattle.dj_class.specs.Members.{member_of}
use Rattle.dj_early_rules.specs.Judged.{StayMarked, AreNamesMarked}
use Rattle.dj_early_rules.proofs.judged.mark_names.Given as goal

-- marks stay, and the names of the members so far are marked
abbrev pub invariant-loop-member : goal.invariant-loop-member
invariant-loop-member l = record {
  stay : StayMarked l.initial.marks l.marks;
  own : (v : MemberView) → Contains (take l.member-index l.members) v → AreNamesMarked l.marks (member_of v);
}
