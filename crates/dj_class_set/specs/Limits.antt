-- Beside trusted/Limits.antt: what no clause of the call `djvm` reaches.
use Rattle.std.specs.Prelude.{◌≤◌}
use Rattle.dj_names.specs.declared.run.Thresholds.{Thresholds}

-- the most that a run may be charged, whatever its thresholds
abbrev pub most_thresholds : Thresholds
most_thresholds = record { alloc = 1073741824; invoke = 1073741824; jump = 1073741824; throw = 1048576 }

-- each threshold is at most its maximum
pub record IsWithinMost (most : Thresholds) : Type 0 where
  pub alloc : most.alloc ≤ most_thresholds.alloc
  pub invoke : most.invoke ≤ most_thresholds.invoke
  pub jump : most.jump ≤ most_thresholds.jump
  pub throw : most.throw ≤ most_thresholds.throw
