use Rattle.std.proofs.Common.{ℕ, List, [], ◌∷◌, Option, length, sym, ap, subst, arith}
use Rattle.std.proofs.lemmas.List.{length-append}
use Rattle.dj_member_index.specs.Spans.{AreNearest, Covers}
use Rattle.dj_member_index.proofs.SpanLaws.{more_nearest}
use Rattle.dj_member_index.proofs.marks.nearest_of.Goals as goal

pub nearest_after-requires-clause-before : goal.nearest_after-requires-clause-before
nearest_after-requires-clause-before c = subst (AreNearest c.args.spans.now c.args.marks.now) (sym c.deref.ensures.value) c.loop-mark.invariant.1

pub loop-mark-preserved : goal.loop-mark-preserved
loop-mark-preserved c =
    let nearest : List (Option ℕ) = c.loop-mark.nearest.items in
    let count = length-append nearest (c.in-Some.near ∷ []) in
    let long = ap length c.in_ok-push.ensures.items in
    let so_far = c.loop-mark.invariant.0 in (
      omega (arith, count, long, so_far),
      more_nearest c.args.spans.now c.args.marks.now nearest c.push.new.self.items c.in-Some.near c.loop-mark.invariant.1
          (subst (λ (known : List (Option ℕ)). Covers c.args.spans.now c.args.marks.now (length known) c.in-Some.near) c.deref.ensures.value c.in-Some.ensures) c.in_ok-push.ensures.items,
    )
