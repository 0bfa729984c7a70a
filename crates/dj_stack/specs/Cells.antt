-- Local variables with a cell for each that was given a value.
use Rattle.std.specs.Prelude.{◌≡◌, ◌≢◌, ◌≤◌, ℕ, zero, suc, List, [], ◌∷◌, map, get_or, Option, None}
use Rattle.dj_names.specs.declared.run.Value.{Value}
use Rattle.dj_stack.specs.declared.parts.Kind.TheVariants as kinds
use Rattle.dj_stack.specs.declared.parts.Parts.{Parts}
use Rattle.dj_stack.specs.declared.packed.Packed.{Packed}
use Rattle.dj_stack.specs.Parts.{part, parts_in, local_of}

abbrev pub parts_of : Packed → List Parts
parts_of packed = parts_in packed.kinds.items packed.lows.items packed.highs.items

-- what stands in a cell; the cells are counted from 1, and 0 is none
abbrev pub cell : List Parts → ℕ → Option Value
cell cells zero = None
cell cells (suc at) = local_of (get_or cells at (part kinds.Empty 0 0))

abbrev pub variables_in : List ℕ → List Parts → List (Option Value)
variables_in places cells = map (cell cells) places

-- how many have a cell
abbrev pub used_in : List ℕ → ℕ
used_in [] = 0
used_in (zero ∷ places) = used_in places
used_in (suc place ∷ places) = suc (used_in places)

-- this many cells are shared out, each to one
pub record SharedOut (places : List ℕ) (cells : ℕ) : Type 0 where
  pub all : used_in places ≡ cells
  pub within : (i : ℕ) → get_or places i 0 ≤ cells
  pub apart : (i j : ℕ) → get_or places i 0 ≢ 0 → get_or places i 0 ≡ get_or places j 0 → i ≡ j
