-- Beside trusted/Labels.antt: what no clause of the call `djvm` reaches.
use Rattle.std.specs.Prelude.{length}
use Rattle.std.specs.List.{AllByRecursion}
use Rattle.dj_ops.specs.trusted.Instructions.{IsProper}
use Rattle.dj_labels.specs.declared.labelled.Labelled.{Labelled}
use Rattle.dj_labels.specs.trusted.Labels.{HasNumbers, IsRange}

-- ---- labelled code

pub record IsWellFormed (labelled : Labelled) : Type 0 where
  pub proper : AllByRecursion IsProper labelled.code
  pub targets : AllByRecursion (HasNumbers (length labelled.code)) labelled.code
  pub ranges : AllByRecursion (IsRange (length labelled.code)) labelled.ranges
