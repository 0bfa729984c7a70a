-- Used by the code alone: what its passes hand on to one another.
use Rattle.std.specs.Prelude.{◌≡◌, ℕ, ◌≤◌, ⊤, ℤ, pos, ◌≤ℤ◌, List, ◌++◌, length, Result, Ok, Err}
use Rattle.std.specs.List.{AllByRecursion, flat_map}
use Rattle.dj_ops.specs.declared.instruction.Instr.{Instr}
use Rattle.dj_ops.specs.declared.instruction.Instr.TheVariants as instrs
use Rattle.dj_labels.specs.Faults.{IsFirstWithout}
use Rattle.dj_layout.specs.declared.errors.LayError.{LayError}
use Rattle.dj_layout.specs.declared.errors.LayError.TheVariants as errors
use Rattle.dj_layout.specs.trusted.Places.{starts_from, end_from}
use Rattle.dj_layout.specs.trusted.Layouts.{placed, placed_bytes, most_bytes}
use Rattle.dj_layout.specs.trusted.Faults.{Reaches}
use Rattle.dj_layout.specs.Faults.{IsFirstPast}

-- ---- places

-- the entries of a switch
abbrev pub entry_count : Instr → ℕ
entry_count (instrs.Table low default targets) = length targets
entry_count (instrs.Lookup default pairs) = length pairs
entry_count instr = 0

-- starts, and the end of the last instruction
pub record ArePlaces (instrs : List Instr) (starts : List ℕ) (end : ℕ) : Type 0 where
  pub starts_are : starts ≡ starts_from 0 instrs
  pub end_is : end ≡ end_from 0 instrs
  pub short : end ≤ most_bytes

abbrev pub IsPlaceFault : List Instr → LayError → Type 0
IsPlaceFault instrs (errors.TooLong number) = IsFirstPast instrs number
IsPlaceFault instrs errors.Memory = ⊤
IsPlaceFault instrs e = ⊥

-- ---- bytes

-- an address of code that isn't too long
abbrev pub IsAddress : ℤ → Type 0
IsAddress z = (pos 0 ≤ℤ z) × (z ≤ℤ pos most_bytes)

-- the instruction was appended, or its target is too far away
abbrev pub IsWritten : Result (Unit {0}) LayError → ℕ → List ℕ → List ℕ → ℕ × Instr → Type 0
IsWritten (Ok _) number old new p = (new ≡ old ++ placed_bytes p) × Reaches p
IsWritten (Err (errors.Far far)) number old new p = (far ≡ number) × (Reaches p → ⊥)
IsWritten (Err errors.Memory) number old new p = ⊤
IsWritten (Err e) number old new p = ⊥

-- the bytes of the instructions, which all reach their targets
pub record AreBytes (starts : List ℕ) (instrs : List Instr) (bytes : List ℕ) : Type 0 where
  pub bytes_are : bytes ≡ flat_map placed_bytes (placed starts instrs)
  pub reach : AllByRecursion Reaches (placed starts instrs)

-- the first jump that doesn't reach its target
pub record HasFirstFar (starts : List ℕ) (instrs : List Instr) (number : ℕ) : Type 0 where
  pub jump : ℕ × Instr
  pub first : IsFirstWithout Reaches (placed starts instrs) number jump

abbrev pub IsByteFault : List ℕ → List Instr → LayError → Type 0
IsByteFault starts instrs (errors.Far number) = HasFirstFar starts instrs number
IsByteFault starts instrs errors.Memory = ⊤
IsByteFault starts instrs e = ⊥
