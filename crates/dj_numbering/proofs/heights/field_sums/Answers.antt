use Rattle.std.proofs.Common.{◌≡◌, List, None, Some, Option, get_or, sym, ap, ◌∙◌}
use Rattle.dj_numbering.specs.declared.heights.Height.{Height}
use Rattle.dj_numbering.proofs.FieldSums.{summed_more}
use Rattle.dj_numbering.proofs.heights.field_sums.Goals as goal

pub loop-height-preserved : goal.loop-height-preserved
loop-height-preserved c =
    let at : get_or c.in_ok-heights.heights.items c.loop-height.height-index None ≡ Some c.in-Some.height =
    ap (λ (hs : List (Option Height)). get_or hs c.loop-height.height-index None) (sym c.deref-height-items.ensures.value) ∙ c.in-Some.is in
    summed_more c.args.table.now c.in_ok-heights.heights.items c.loop-height.height-index c.loop-height.sums.items c.push.new.self.items c.in-Some.height c.in_ok-heights.ensures c.loop-height.invariant at c.in_ok-push.ensures.items
