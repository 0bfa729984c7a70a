use Rattle.std.proofs.Common.{◌≡◌, map, take}
use Rattle.std.specs.List.{count_by}
use Rattle.dj_asm_source.specs.LineViews.{line_view}
use Rattle.dj_asm.specs.Judging.{NoneBelow, is_kind, is_past}
use Rattle.dj_asm.proofs.counted.first_past.Given as goal

-- the lines of the kind so far, none of them one too many
abbrev pub invariant-loop-place : goal.invariant-loop-place
invariant-loop-place l = record {
  counted : l.count ≡ count_by (is_kind l.kind) (take l.place (map line_view l.lines));
  none : NoneBelow (is_past l.kind (map line_view l.lines)) l.place;
}
