use Rattle.std.proofs.Common.{◌+◌, get_or, ap, ◌∙◌, subst, sym, arith}
use Rattle.std.specs.Global.{Vec}
use Rattle.std.proofs.lemmas.List.{get_or_default}
use Rattle.dj_member_index.specs.declared.rows.MemberRow.{MemberRow}
use Rattle.dj_member_index.specs.Calls.{tests, IsTakable, IsWhether}
use Rattle.dj_member_index.proofs.CallLaws.{AreSoFar, all_taken, none_more, one_more}
use Rattle.dj_member_index.proofs.calls.takable.Goals as goal
use Rattle.dj_member_index.proofs.calls.takable.Goals.{then-is_takable+in_ok-push, else-is_takable}

pub loop-row-preserved : goal.loop-row-preserved
loop-row-preserved c =
    let table = c.args.table.now in
    let rows = c.args.rows.now in
    let none : MemberRow = record { name = 0; desc = 0; class = 0; place = 0 } in
    let row : MemberRow = get_or rows c.loop-row.row-index none in
    let own = get_or_default rows c.loop-row.row-index row none c.loop-row-test.true in
    elim c.if-is_takable.branch [
      | then-is_takable+in_ok-push w ↦
          one_more table (tests c.args.private_too) rows c.loop-row.row-index row c.loop-row.taken.items c.if-is_takable.taken.items c.loop-row-test.true own c.loop-row.invariant
          (subst (IsWhether (IsTakable table (tests c.args.private_too) rows row)) w.if-is_takable.true c.is_takable.ensures) (ap (λ (v : Vec MemberRow). v.items) w.taken-is ∙ w.in_ok-push.ensures.items)
      | else-is_takable w ↦
          subst (λ (v : Vec MemberRow). AreSoFar table (tests c.args.private_too) rows (c.loop-row.row-index + 1) v.items) (sym w.taken-is)
          (none_more table (tests c.args.private_too) rows c.loop-row.row-index row c.loop-row.taken.items c.loop-row-test.true own c.loop-row.invariant
          (subst (IsWhether (IsTakable table (tests c.args.private_too) rows row)) w.if-is_takable.false c.is_takable.ensures))
    ]

pub returns : goal.returns
returns c =
    all_taken c.args.table.now (tests c.args.private_too) c.args.rows.now c.loop-row.row-index c.loop-row.taken.items c.put_in_order.new.rows.items (omega (arith, c.loop-row-test.false)) c.requires.are.methods_are.order
    c.loop-row.invariant c.put_in_order.ensures.moved c.put_in_order.ensures.ascend
