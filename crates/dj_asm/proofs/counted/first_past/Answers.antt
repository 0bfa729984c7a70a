use Rattle.std.proofs.Common.{rules, ◌≡◌, ◌<◌, true, false, ◌∙◌}
use Rattle.dj_asm_source.specs.LineViews.{line_view}
use Rattle.dj_asm.specs.Judging.{is_kind}
use Rattle.dj_asm.proofs.JudgedFirst.{next_counted, next_other}
use Rattle.dj_asm.proofs.counted.first_past.Goals.{then-is_kind+else-count-ge-MOST_LINES, else-is_kind}
use Rattle.dj_asm.proofs.counted.first_past.Goals as goal

pub loop-place-preserved : goal.loop-place-preserved
loop-place-preserved c =
    let kind = c.args.kind in
    let lines = c.args.lines.now in
    let line = c.index-lines-place.result in
    elim c.if-is_kind.branch [
      | then-is_kind+else-count-ge-MOST_LINES w ↦
          let such : true ≡ is_kind kind (line_view line) = search rules in
          let few : c.loop-place.count < 65535 = search rules in
          let next = next_counted kind lines c.loop-place.place c.loop-place.count line c.loop-place-test.true c.index-lines-place.is c.loop-place.invariant.counted c.loop-place.invariant.none such few in
          record { counted = w.count-is ∙ next.0; none = next.1 }
      | else-is_kind w ↦
          let other : false ≡ is_kind kind (line_view line) = search rules in
          let next = next_other kind lines c.loop-place.place c.loop-place.count line c.loop-place-test.true c.index-lines-place.is c.loop-place.invariant.counted c.loop-place.invariant.none other in
          record { counted = w.count-is ∙ next.0; none = next.1 }
    ]
