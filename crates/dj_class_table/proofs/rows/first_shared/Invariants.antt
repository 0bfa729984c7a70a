use Rattle.std.proofs.Common.{◌≡◌, ◌<◌}
use Rattle.std.specs.declared.cmp.Ordering.TheVariants.{Less}
use Rattle.std.specs.List.{AllAdjacentBelow}
use Rattle.dj_class_table.specs.ClassRows.{class_cmp}
use Rattle.dj_class_table.proofs.rows.first_shared.Given as goal

-- each row so far is below the next
abbrev pub invariant-loop-place : goal.invariant-loop-place
invariant-loop-place l = record {
  some : 0 < l.place;
  below : AllAdjacentBelow (λ a b. class_cmp a b ≡ Less) l.rows l.place;
}
