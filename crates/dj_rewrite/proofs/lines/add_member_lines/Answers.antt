use Rattle.std.proofs.Common.{◌≡◌, List, subst}
use Rattle.std.proofs.lemmas.List.{take_all}
use Rattle.dj_names.specs.trusted.Types.{Name}
use Rattle.dj_class.specs.Views.{class_of}
use Rattle.dj_report.specs.declared.report.Violation.{Violation}
use Rattle.dj_report.specs.Lines.{Adds, IsLineAmong}
use Rattle.dj_report.proofs.Adding.{adds_read}
use Rattle.dj_rewrite.specs.Rule.{line_of}
use Rattle.dj_rewrite.proofs.lines.add_member_lines.Goals as goal

pub loop-member-preserved : goal.loop-member-preserved
loop-member-preserved c =
    adds_read (λ (member : Name) (v : Violation). v ≡ line_of (class_of c.args.view.now) member) c.args.members.now c.loop-member.member-index c.member-item.result
    c.args.found.now.items c.loop-member.found.items c.add_line.new.found.items c.loop-member-test.true c.member-item.is c.loop-member.invariant
    (subst (λ (line : Violation). Adds (λ v. v ≡ line) c.loop-member.found.items c.add_line.new.found.items) c.in_ok-made.ensures c.in_ok-add_line.ensures)

pub returns : goal.returns
returns c =
    subst (λ (members : List Name). Adds (IsLineAmong (λ member v. v ≡ line_of (class_of c.args.view.now) member) members) c.args.found.now.items c.loop-member.found.items)
    (take_all c.loop-member.member-index c.args.members.now c.loop-member-test.false) c.loop-member.invariant
