use Rattle.std.proofs.Common.{◌≡◌, map, take}
use Rattle.dj_asm_source.specs.LineViews.{line_view}
use Rattle.dj_asm_source.specs.trusted.Labels.{instruction_count, label_number}
use Rattle.dj_asm.specs.Judging.{NoneBelow, is_wide}
use Rattle.dj_asm.proofs.reach.first_wide.Given as goal

-- the instructions so far, none of them far
abbrev pub invariant-loop-place : goal.invariant-loop-place
invariant-loop-place l = record {
  counted : l.count ≡ instruction_count (take l.place (map line_view l.lines));
  none : NoneBelow (is_wide (label_number l.labels) l.starts l.stop (map line_view l.lines)) l.place;
}
