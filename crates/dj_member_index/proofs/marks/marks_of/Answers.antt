use Rattle.std.proofs.Common.{get_or, ap, ◌∙◌, arith}
use Rattle.std.proofs.lemmas.List.{get_or_default}
use Rattle.dj_member_index.specs.declared.rows.MemberRow.{MemberRow}
use Rattle.dj_member_index.specs.Spans.{mark_of}
use Rattle.dj_member_index.proofs.SpanLaws.{all_marks, more_marks, no_marks}
use Rattle.dj_member_index.proofs.marks.marks_of.Goals as goal

pub loop-row-init : goal.loop-row-init
loop-row-init c = no_marks c.args.spans.now c.args.rows.now c.new-marks.result.items c.new-marks.ensures.items

pub loop-row-preserved : goal.loop-row-preserved
loop-row-preserved c =
    let rows = c.args.rows.now in
    let none : MemberRow = record { name = 0; desc = 0; class = 0; place = 0 } in
    let row : MemberRow = get_or rows c.loop-row.row-index none in
    more_marks c.args.spans.now rows c.loop-row.row-index row c.mark_of-first.result c.mark_of-last.result c.loop-row.marks.items c.push.new.self.items c.push-in-loop-row.new.self.items c.loop-row-test.true
    (get_or_default rows c.loop-row.row-index row none c.loop-row-test.true) c.loop-row.invariant (c.mark_of-first.ensures.is ∙ ap (mark_of row) c.start.ensures) c.mark_of-first.ensures.fits c.mark_of-last.ensures.fits
    c.in_ok-push.ensures.items c.in_ok-push-2.ensures.items

pub returns : goal.returns
returns c =
    all_marks c.args.spans.now c.args.rows.now c.loop-row.row-index c.loop-row.marks.items c.put_in_order.new.rows.items (omega (arith, c.loop-row-test.false)) c.loop-row.invariant c.put_in_order.ensures.moved c.put_in_order.ensures.ascend
