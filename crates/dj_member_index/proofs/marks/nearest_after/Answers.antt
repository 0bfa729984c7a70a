use Rattle.std.proofs.Common.{ℕ, IfSome, length, refl, sym, ◌∙◌, subst}
use Rattle.dj_member_index.specs.Spans.{IsNearestIn}
use Rattle.dj_member_index.proofs.SpanLaws.{ends_cover, start_covers}
use Rattle.dj_member_index.proofs.marks.nearest_after.Goals as goal

pub returns-then-start-mark : goal.returns-then-start-mark
returns-then-start-mark c = start_covers c.args.marks.now c.requires.order c.args.spans.now (length c.args.nearest.now) c.args.mark c.requires.mark (sym c.start-start.ensures ∙ c.if-start-mark.true)

pub returns-then-is_last_end : goal.returns-then-is_last_end
returns-then-is_last_end c =
    ends_cover c.args.marks.now c.requires.order c.args.spans.now (length c.args.nearest.now) c.args.mark c.requires.mark c.args.nearest.now c.nearest_before.result refl c.requires.before
    (c.is_last_end.ensures.end c.if-is_last_end.true) (c.is_last_end.ensures.last c.if-is_last_end.true)
    (subst (λ (step : ℕ). IfSome c.nearest_before.result (IsNearestIn c.args.spans.now c.args.marks.now c.args.mark.name c.args.mark.desc step)) c.start-start.ensures (c.nearest_before.ensures c.args.spans.now c.requires.before))
