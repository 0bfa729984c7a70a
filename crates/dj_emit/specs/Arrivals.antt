-- Used by the code alone: which instructions are the first of a handler.
use Rattle.std.specs.Prelude.{◌≡◌, ℕ, ◌<◌, Bool, false, List, length, get_or, nat_eq}
use Rattle.std.specs.List.{list_any}
use Rattle.dj_labels.specs.declared.labelled.Protected.{Protected}

abbrev pub handles : List Protected → ℕ → Bool
handles ranges number = list_any (λ range. nat_eq number range.handler) ranges

-- of this many instructions, by their numbers
pub record AreArrivals (count : ℕ) (ranges : List Protected) (arrives : List Bool) : Type 0 where
  pub all : length arrives ≡ count
  pub each : (k : ℕ) → k < count → get_or arrives k false ≡ handles ranges k
