use Rattle.std.proofs.Common.{◌≡◌, ℕ, ◌*◌, ◌&&◌, true, length, get_or, ltb, nat_eq, refl, ◌∙◌, subst, if◌then◌else◌}
use Rattle.std.proofs.lemmas.List.{get_or_default}
use Rattle.dj_member_index.specs.declared.rows.MemberRow.{MemberRow}
use Rattle.dj_resolution.specs.Bits.{in_bits}
use Rattle.dj_resolution.specs.Ranked.{rank_in}
use Rattle.dj_resolution.proofs.Marking.{adds_all, adds_next, adds_none}
use Rattle.dj_resolution.proofs.declarers.mark_ranks.Goals as goal

abbrev none : MemberRow
none = record { name = 0; desc = 0; class = 0; place = 0 }

pub loop-row-init : goal.loop-row-init
loop-row-init c = (refl, adds_none (λ row. ltb (rank_in c.args.ranks.now row.class) (length c.args.marks.now * 64)) (λ row. rank_in c.args.ranks.now row.class) c.args.marks.now)

pub mark_rank-requires : goal.mark_rank-requires
mark_rank-requires c =
    let row : MemberRow = get_or c.args.rows.now c.loop-row.row-index none in
    c.requires row (c.loop-row.row-index, c.loop-row-test.true, get_or_default c.args.rows.now c.loop-row.row-index row none c.loop-row-test.true)

pub loop-row-preserved : goal.loop-row-preserved
loop-row-preserved c =
    let row : MemberRow = get_or c.args.rows.now c.loop-row.row-index none in
    let rank : ℕ = rank_in c.args.ranks.now row.class in (
      c.mark_rank.ensures.count ∙ c.loop-row.invariant.0,
      adds_next (λ row. ltb (rank_in c.args.ranks.now row.class) (length c.args.marks.now * 64)) (λ row. rank_in c.args.ranks.now row.class) c.args.rows.now c.loop-row.row-index row c.args.marks.now c.loop-row.marks c.mark_rank.new.marks c.loop-row-test.true
          (get_or_default c.args.rows.now c.loop-row.row-index row none c.loop-row-test.true) c.loop-row.invariant.1
          (subst (λ (n : ℕ). (z : ℕ) → in_bits c.mark_rank.new.marks z ≡ (if ltb rank (n * 64) && nat_eq rank z then true else in_bits c.loop-row.marks z)) c.loop-row.invariant.0 c.mark_rank.ensures.bits),
    )

pub returns-clause-marks : goal.returns-clause-marks
returns-clause-marks c =
    adds_all (λ row. ltb (rank_in c.args.ranks.now row.class) (length c.args.marks.now * 64)) (λ row. rank_in c.args.ranks.now row.class) c.args.rows.now c.loop-row.row-index c.args.marks.now c.loop-row.marks c.loop-row-test.false c.loop-row.invariant.1

pub returns-clause-count : goal.returns-clause-count
returns-clause-count c = c.loop-row.invariant.0
