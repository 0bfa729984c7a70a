use Rattle.std.proofs.Common.{◌≡◌, ◌≤◌, ◌+◌, ◌++◌, ℕ, List, map, drop, subst, sym, ◌∙◌}
use Rattle.dj_asm_source.specs.LabelReading.{marks_from, marks_of}
use Rattle.dj_asm_source.specs.LabelViews.{mark_row}
use Rattle.dj_asm_source.specs.LineViews.{line_view}
use Rattle.dj_asm_source.proofs.LabelTables.{number_more, marked_more}
use Rattle.dj_asm_source.proofs.label_table.marks_in.Goals as goal

pub loop-place-preserved : goal.loop-place-preserved
loop-place-preserved c =
    let lines = c.args.lines.now in
    let place = c.loop-place.place in
    let number = c.loop-place.number in
    let line = c.index-lines-place.result in
    let next = c.number_after-number.ensures in
    record {
      marks = subst (λ (n : ℕ). map (mark_row lines) c.push_mark.new.marks.items ++ marks_from (place + 1) n (map line_view (drop (place + 1) lines)) ≡ marks_of (map line_view lines)) (sym next)
          (marked_more lines c.loop-place.marks.items c.push_mark.new.marks.items place number line c.loop-place-test.true c.index-lines-place.is c.in_ok-push_mark.ensures ∙ c.loop-place.invariant.marks);
      number = subst (λ (n : ℕ). n ≤ place + 1) (sym next) (number_more line number place c.loop-place.invariant.number);
    }
