use Rattle.std.proofs.Common.{true, get_or, refl, ◌∙◌, arith}
use Rattle.std.proofs.lemmas.List.{get_or_default}
use Rattle.dj_member_index.specs.declared.rows.MemberRow.{MemberRow}
use Rattle.dj_resolution.proofs.Marking.{adds_all, adds_next, adds_none}
use Rattle.dj_resolution.proofs.declarers.mark_all.Goals as goal

abbrev none : MemberRow
none = record { name = 0; desc = 0; class = 0; place = 0 }

pub loop-row-init : goal.loop-row-init
loop-row-init c = (refl, adds_none (λ row. true) (λ row. row.class) c.args.marks.now)

pub mark_if-requires : goal.mark_if-requires
mark_if-requires c =
    let row : MemberRow = get_or c.args.rows.now c.loop-row.row-index none in
    let lt = c.requires row (c.loop-row.row-index, c.loop-row-test.true, get_or_default c.args.rows.now c.loop-row.row-index row none c.loop-row-test.true) in
    let count = c.loop-row.invariant.0 in
    omega (arith, lt, count)

pub loop-row-preserved : goal.loop-row-preserved
loop-row-preserved c =
    let row : MemberRow = get_or c.args.rows.now c.loop-row.row-index none in (
      c.mark_if.ensures.count ∙ c.loop-row.invariant.0,
      adds_next (λ row. true) (λ row. row.class) c.args.rows.now c.loop-row.row-index row c.args.marks.now c.loop-row.marks c.mark_if.new.marks c.loop-row-test.true
          (get_or_default c.args.rows.now c.loop-row.row-index row none c.loop-row-test.true) c.loop-row.invariant.1 c.mark_if.ensures.bits,
    )

pub returns-clause-count : goal.returns-clause-count
returns-clause-count c = c.loop-row.invariant.0

pub returns-clause-marks : goal.returns-clause-marks
returns-clause-marks c = adds_all (λ row. true) (λ row. row.class) c.args.rows.now c.loop-row.row-index c.args.marks.now c.loop-row.marks c.loop-row-test.false c.loop-row.invariant.1
