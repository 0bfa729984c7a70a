use Rattle.std.proofs.Common.{◌≡◌, take}
use Rattle.dj_class.specs.Views.{class_of}
use Rattle.dj_report.specs.Lines.{Adds, IsLineAmong}
use Rattle.dj_rewrite.specs.Rule.{line_of}
use Rattle.dj_rewrite.proofs.lines.add_member_lines.Given as goal

-- the lines of the members so far
abbrev pub invariant-loop-member : goal.invariant-loop-member
invariant-loop-member l = Adds (IsLineAmong (λ member v. v ≡ line_of (class_of l.view) member) (take l.member-index l.members)) l.initial.found.items l.found.items
