use Rattle.std.proofs.Common.{rules, ◌≡◌, true, false, Some, ◌∙◌}
use Rattle.dj_asm_source.specs.LineViews.{line_view}
use Rattle.dj_asm_source.specs.trusted.Labels.{is_instruction, label_number}
use Rattle.dj_asm.specs.Judging.{is_wide_line}
use Rattle.dj_asm.proofs.JudgedFirst.{none_wide, next_instruction, next_line}
use Rattle.dj_asm.proofs.reach.first_wide.Goals.{then-is_instruction, else-is_instruction}
use Rattle.dj_asm.proofs.reach.first_wide.Goals as goal

pub loop-place-preserved : goal.loop-place-preserved
loop-place-preserved c =
    let number = label_number c.args.labels.now in
    let starts = c.args.starts.now in
    let stop = c.args.stop in
    let lines = c.args.lines.now in
    let place = c.loop-place.place in
    let count = c.loop-place.count in
    let within = c.loop-place-test.true in
    let so_far = c.loop-place.invariant in
    let judged = c.index-lines-place.result in
    let line = c.index-lines-place-in-loop-place.result in
    let is = c.index-lines-place-in-loop-place.is in
    let near : false ≡ is_wide_line number starts stop count (Some (line_view judged)) = search rules in
    let none = none_wide number starts stop lines place count judged within c.index-lines-place.is so_far.counted so_far.none near in
    elim c.if-is_instruction.branch [
      | then-is_instruction w ↦
          let such : true ≡ is_instruction (line_view line) = search rules in
          record { counted = w.count-is ∙ next_instruction number starts stop lines place count line within is so_far.counted so_far.none such; none = none }
      | else-is_instruction w ↦
          let other : false ≡ is_instruction (line_view line) = search rules in
          record { counted = w.count-is ∙ next_line number starts stop lines place count line within is so_far.counted so_far.none other; none = none }
    ]
