use Rattle.std.proofs.Common.{ℕ, ◌-◌, ◌<◌, length, get_or, subst, arith}
use Rattle.std.proofs.lemmas.List.{get_or_default}
use Rattle.dj_member_index.specs.declared.rows.MemberRow.{MemberRow}
use Rattle.dj_member_index.proofs.RowLaws.{IsPointAt}
use Rattle.dj_member_index.proofs.SpanLaws.{known_before, none_before, others_before}
use Rattle.dj_member_index.proofs.marks.nearest_before.Goals as goal
use Rattle.dj_member_index.proofs.marks.nearest_before.Goals.{then-mark-name-via-then-mark-name, then-mark-name-via-else-mark-name+then-mark-desc}

pub returns-then-at-eq0 : goal.returns-then-at-eq0
returns-then-at-eq0 c spans each =
    none_before c.args.marks.now c.requires spans c.args.name c.args.desc c.args.step c.first_not_below-at.result (omega (arith, c.ranges.step.fits)) (omega (arith, c.ranges.desc.fits))
    (subst (λ (key : ℕ). IsPointAt c.args.marks.now key c.first_not_below-at.result) c.key_of-key.ensures c.first_not_below-at.ensures.point) c.first_not_below-at.ensures.bound (omega (arith, c.if-at-eq0.true))

pub returns-then-mark-name : goal.returns-then-mark-name
returns-then-mark-name c spans each =
    let at : ℕ = c.first_not_below-at.result in
    let some : 0 < at = omega (arith, c.if-at-eq0.false) in
    let within : at - 1 < length c.args.marks.now = omega (arith, some, c.first_not_below-at.ensures.bound) in
    let none : MemberRow = record { name = 0; desc = 0; class = 0; place = 0 } in
    let mark : MemberRow = get_or c.args.marks.now (at - 1) none in
    others_before c.args.marks.now c.requires spans c.args.name c.args.desc c.args.step at (omega (arith, c.ranges.step.fits)) (omega (arith, c.ranges.desc.fits))
    (subst (λ (key : ℕ). IsPointAt c.args.marks.now key at) c.key_of-key.ensures c.first_not_below-at.ensures.point) c.first_not_below-at.ensures.bound mark some
    (get_or_default c.args.marks.now (at - 1) mark none within)
    (elim c.then-mark-name.branch [
      | then-mark-name-via-then-mark-name w ↦ (λ named described. w.if-mark-name.true named)
      | then-mark-name-via-else-mark-name+then-mark-desc w ↦ (λ named described. w.if-mark-desc.true described)
    ])

pub returns : goal.returns
returns c spans each =
    let at : ℕ = c.first_not_below-at.result in
    let some : 0 < at = omega (arith, c.if-at-eq0.false) in
    let within : at - 1 < length c.args.marks.now = omega (arith, some, c.first_not_below-at.ensures.bound) in
    let none : MemberRow = record { name = 0; desc = 0; class = 0; place = 0 } in
    let mark : MemberRow = get_or c.args.marks.now (at - 1) none in
    known_before c.args.marks.now c.requires spans c.args.name c.args.desc c.args.step at (omega (arith, c.ranges.step.fits)) (omega (arith, c.ranges.desc.fits))
    (subst (λ (key : ℕ). IsPointAt c.args.marks.now key at) c.key_of-key.ensures c.first_not_below-at.ensures.point) c.first_not_below-at.ensures.bound mark some
    (get_or_default c.args.marks.now (at - 1) mark none within) c.args.nearest.now c.reported_at.result c.if-mark-name.false c.if-mark-desc.false c.reported_at.ensures each
