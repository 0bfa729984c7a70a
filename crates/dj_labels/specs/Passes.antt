-- Used by the code alone: what its passes hand on to one another.
use Rattle.std.specs.Prelude.{◌≡◌, ℕ, ◌<◌, ⊤, ℤ, pos, List, [], ◌∷◌, ◌++◌, map, length, slice_get, Some, AllPairs, Contains}
use Rattle.std.specs.List.{AllByRecursion}
use Rattle.dj_ops.specs.declared.instruction.Instr.{Instr}
use Rattle.dj_ops.specs.declared.rows.CatchRow.{CatchRow}
use Rattle.dj_ops.specs.declared.read.OpError.{OpError}
use Rattle.dj_ops.specs.declared.read.OpError.TheVariants as op_errors
use Rattle.dj_ops.specs.trusted.Instructions.{Stands}
use Rattle.dj_labels.specs.declared.errors.CodeError.{CodeError}
use Rattle.dj_labels.specs.declared.errors.CodeError.TheVariants as errors
use Rattle.dj_labels.specs.declared.labelled.Protected.{Protected}
use Rattle.dj_labels.specs.trusted.Targets.{with_targets}
use Rattle.dj_labels.specs.trusted.Labels.{IsCut, IsNumber, HasNumbers, IsRange, address_of, addressed, row_of}
use Rattle.dj_labels.specs.Faults.{IsFirstWithout, IsOpFault, HasStarts, IsRow}

-- ---- what is read

-- instructions start at these addresses, and end with the code
pub record AreStarts (code : List ℕ) (starts : List ℕ) : Type 0 where
  pub instrs : List Instr
  pub cut : IsCut code starts instrs (length code)

-- why no instruction was read at an address
abbrev pub step_error : ℕ → OpError → CodeError
step_error at op_errors.Memory = errors.Memory
step_error at e = errors.Op at

-- the next instruction is refused with its cause
abbrev pub IsStep : List ℕ → ℕ → CodeError → Type 0
IsStep code at (errors.Op address) = (address ≡ at) × ((instr : Instr) (next : ℕ) → Stands code at instr next → ⊥)
IsStep code at errors.Memory = ⊤
IsStep code at e = ⊥

-- the reading of the code is refused with its cause
abbrev pub IsStartsFault : List ℕ → CodeError → Type 0
IsStartsFault code (errors.Op at) = IsOpFault code at
IsStartsFault code errors.Memory = ⊤
IsStartsFault code e = ⊥

-- ---- numbers

-- each comes before the next
abbrev pub IsRising : List ℕ → Type 0
IsRising = AllPairs (λ a b. a < b)

-- ---- targets

-- numbers of instructions, and the addresses at which these start
pub record AreNumbers (starts : List ℕ) (addresses numbers : List ℤ) : Type 0 where
  pub each : AllByRecursion (IsNumber (length starts)) numbers
  pub start : map (address_of starts) numbers ≡ addresses

-- the pairs of a lookup, likewise
pub record ArePairs (starts : List ℕ) (pairs numbered : List (ℤ × ℤ)) : Type 0 where
  pub each : AllByRecursion (IsNumber (length starts)) (map (λ pair. pair.1) numbered)
  pub start : map (λ pair. (pair.0, address_of starts pair.1)) numbered ≡ pairs

-- an instruction, and the same with numbers for targets
pub record IsInstrOf (starts : List ℕ) (instr numbered : Instr) : Type 0 where
  pub each : HasNumbers (length starts) numbered
  pub start : with_targets (address_of starts) numbered ≡ instr

-- the jump at this address is refused, since at one of its targets no instruction starts
abbrev pub LacksStart : List ℕ → ℕ → List ℤ → CodeError → Type 0
LacksStart starts at targets (errors.Target address) = (address ≡ at) × (AllByRecursion (Contains (map pos starts)) targets → ⊥)
LacksStart starts at targets errors.Memory = ⊤
LacksStart starts at targets e = ⊥

-- instructions, and the same with numbers for targets
pub record AreNumbered (starts : List ℕ) (instrs numbered : List Instr) : Type 0 where
  pub each : AllByRecursion (HasNumbers (length starts)) numbered
  pub start : addressed starts numbered ≡ instrs

-- the first of these instructions with a target at which none starts is at this address
pub record IsJumpFault (starts : List ℕ) (instrs : List Instr) (at : ℕ) : Type 0 where
  pub number : ℕ
  pub stands_at : slice_get starts number ≡ Some at
  pub instr : Instr
  pub first : IsFirstWithout (HasStarts starts) instrs number instr

-- the pass over the instructions is refused with its cause
abbrev pub IsNumberingFault : List ℕ → List Instr → CodeError → Type 0
IsNumberingFault starts instrs (errors.Target at) = IsJumpFault starts instrs at
IsNumberingFault starts instrs errors.Memory = ⊤
IsNumberingFault starts instrs e = ⊥

-- the instructions of the code, with numbers for targets
pub record AreInstrs (code starts : List ℕ) (numbered : List Instr) : Type 0 where
  pub cut : IsCut code starts (addressed starts numbered) (length code)
  pub each : AllByRecursion (HasNumbers (length starts)) numbered

-- ---- rows

-- a row, and its range by numbers
pub record IsRangeOf (starts : List ℕ) (size : ℕ) (row : CatchRow) (range : Protected) : Type 0 where
  pub good : IsRange (length starts) range
  pub row_is : row_of (starts ++ size ∷ []) range ≡ row

-- rows, and their ranges
pub record AreRangesOf (starts : List ℕ) (size : ℕ) (rows : List CatchRow) (ranges : List Protected) : Type 0 where
  pub good : AllByRecursion (IsRange (length starts)) ranges
  pub rows_are : map (row_of (starts ++ size ∷ [])) ranges ≡ rows

-- the first row that is no range of instructions
pub record IsRowFault (starts : List ℕ) (size : ℕ) (table : List CatchRow) (number : ℕ) : Type 0 where
  pub row : CatchRow
  pub first : IsFirstWithout (IsRow starts size) table number row

-- the pass over the rows is refused with its cause
abbrev pub IsRowsFault : List ℕ → ℕ → List CatchRow → CodeError → Type 0
IsRowsFault starts size table (errors.Range number) = IsRowFault starts size table number
IsRowsFault starts size table errors.Memory = ⊤
IsRowsFault starts size table e = ⊥
