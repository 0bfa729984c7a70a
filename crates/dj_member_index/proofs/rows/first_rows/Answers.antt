use Rattle.std.proofs.Common.{◌+◌, ap, ◌∙◌, subst, sym, arith}
use Rattle.std.specs.Global.{Vec}
use Rattle.dj_member_index.specs.declared.rows.MemberRow.{MemberRow}
use Rattle.dj_member_index.proofs.FirstLaws.{AreFirstOf, all_first, first_more, none_first, repeat_more}
use Rattle.dj_member_index.proofs.rows.first_rows.Goals as goal
use Rattle.dj_member_index.proofs.rows.first_rows.Goals.{then-not-is_repeat+in_ok-push, else-not-is_repeat}

pub loop-at-init : goal.loop-at-init
loop-at-init c = none_first c.args.rows.now c.new-firsts.result.items c.new-firsts.ensures.items

pub loop-at-preserved : goal.loop-at-preserved
loop-at-preserved c =
    let rows = c.args.rows.now in
    elim c.if-not-is_repeat.branch [
      | then-not-is_repeat+in_ok-push w ↦
          first_more rows c.requires c.loop-at.at c.loop-at-test.true c.loop-at.firsts.items c.loop-at.invariant c.if-not-is_repeat.firsts.items
          (c.is_repeat.ensures.first w.if-not-is_repeat.true) (ap (λ (v : Vec MemberRow). v.items) w.firsts-is ∙ w.in_ok-push.ensures.items)
      | else-not-is_repeat w ↦
          subst (λ (v : Vec MemberRow). AreFirstOf rows (c.loop-at.at + 1) v.items) (sym w.firsts-is)
          (repeat_more rows c.requires c.loop-at.at c.loop-at-test.true c.loop-at.firsts.items c.loop-at.invariant (c.is_repeat.ensures.repeat w.if-not-is_repeat.false))
    ]

pub returns : goal.returns
returns c =
    all_first c.args.rows.now c.requires c.loop-at.at c.loop-at.firsts.items (omega (arith, c.loop-at-test.false, c.loop-at.auto.at-end)) c.loop-at.invariant
