use Rattle.std.proofs.Common.{ℕ, List, Option, IfSome, sym, subst}
use Rattle.dj_member_index.specs.declared.rows.MemberRow.{MemberRow}
use Rattle.dj_member_index.specs.Spans.{AreNearest, IsNearestIn}
use Rattle.dj_member_index.proofs.marks.SpanMarks.nearest.Goals as goal

pub returns : goal.returns
returns c spans each =
    let result = c.nearest_before.result in
    let known = subst (λ (nearest : List (Option ℕ)). AreNearest spans c.deref.result.now nearest) (sym c.deref-2.ensures.value) (subst (λ (rows : List MemberRow). AreNearest spans rows c.args.self.now.nearest.items) (sym c.deref.ensures.value) each) in
    subst (λ (step : ℕ). IfSome result (IsNearestIn spans c.args.self.now.rows.items c.args.name c.args.desc step)) c.in_ok-checked_add.ensures.1
    (subst (λ (rows : List MemberRow). IfSome result (IsNearestIn spans rows c.args.name c.args.desc c.in_ok-checked_add.field-0)) c.deref.ensures.value (c.nearest_before.ensures spans known))
