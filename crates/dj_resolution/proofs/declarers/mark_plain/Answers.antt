use Rattle.std.proofs.Common.{◌≡◌, ℕ, ◌&&◌, Bool, true, get_or, nat_eq, refl, ◌∙◌, subst, arith, if◌then◌else◌}
use Rattle.std.proofs.lemmas.List.{get_or_default}
use Rattle.dj_member_index.specs.declared.rows.MemberRow.{MemberRow}
use Rattle.dj_resolution.specs.Bits.{in_bits}
use Rattle.dj_resolution.specs.Marked.{is_plain_at}
use Rattle.dj_resolution.proofs.Marking.{adds_all, adds_next, adds_none}
use Rattle.dj_resolution.proofs.declarers.mark_plain.Goals as goal

abbrev none : MemberRow
none = record { name = 0; desc = 0; class = 0; place = 0 }

pub loop-row-init : goal.loop-row-init
loop-row-init c = (refl, adds_none (λ row. is_plain_at c.args.directory.now.program row.class row.place) (λ row. row.class) c.args.marks.now)

pub is_plain_row-requires-clause-there : goal.is_plain_row-requires-clause-there
is_plain_row-requires-clause-there c =
    let row : MemberRow = get_or c.args.rows.now c.loop-row.row-index none in
    c.requires.there row (c.loop-row.row-index, c.loop-row-test.true, get_or_default c.args.rows.now c.loop-row.row-index row none c.loop-row-test.true)

pub is_plain_row-requires-clause-within : goal.is_plain_row-requires-clause-within
is_plain_row-requires-clause-within c =
    let row : MemberRow = get_or c.args.rows.now c.loop-row.row-index none in
    c.requires.within row (c.loop-row.row-index, c.loop-row-test.true, get_or_default c.args.rows.now c.loop-row.row-index row none c.loop-row-test.true)

pub mark_if-requires : goal.mark_if-requires
mark_if-requires c =
    let row : MemberRow = get_or c.args.rows.now c.loop-row.row-index none in
    let lt = c.requires.there row (c.loop-row.row-index, c.loop-row-test.true, get_or_default c.args.rows.now c.loop-row.row-index row none c.loop-row-test.true) in
    let count = c.loop-row.invariant.0 in
    omega (arith, lt, count, c.requires.few)

pub loop-row-preserved : goal.loop-row-preserved
loop-row-preserved c =
    let row : MemberRow = get_or c.args.rows.now c.loop-row.row-index none in (
      c.mark_if.ensures.count ∙ c.loop-row.invariant.0,
      adds_next (λ row. is_plain_at c.args.directory.now.program row.class row.place) (λ row. row.class) c.args.rows.now c.loop-row.row-index row c.args.marks.now c.loop-row.marks c.mark_if.new.marks c.loop-row-test.true
          (get_or_default c.args.rows.now c.loop-row.row-index row none c.loop-row-test.true) c.loop-row.invariant.1
          (subst (λ (b : Bool). (z : ℕ) → in_bits c.mark_if.new.marks z ≡ (if b && nat_eq row.class z then true else in_bits c.loop-row.marks z)) c.is_plain_row.ensures c.mark_if.ensures.bits),
    )

pub returns-clause-count : goal.returns-clause-count
returns-clause-count c = c.loop-row.invariant.0

pub returns-clause-marks : goal.returns-clause-marks
returns-clause-marks c =
    adds_all (λ row. is_plain_at c.args.directory.now.program row.class row.place) (λ row. row.class) c.args.rows.now c.loop-row.row-index c.args.marks.now c.loop-row.marks c.loop-row-test.false c.loop-row.invariant.1
