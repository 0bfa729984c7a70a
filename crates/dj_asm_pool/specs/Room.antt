-- Beside trusted/Room.antt: what no clause of the call `djvm` reaches.
use Rattle.std.specs.Prelude.{ℕ, ◌<◌, Option, Some, None}
use Rattle.dj_asm_pool.specs.trusted.Room.{NoLine}

-- ---- lines

-- the least place that is such, where there is one
abbrev pub IsFirst : (ℕ → Type 0) → Option ℕ → Type 0
IsFirst P (Some place) = P place × ((earlier : ℕ) → earlier < place → P earlier → ⊥)
IsFirst P None = NoLine P
