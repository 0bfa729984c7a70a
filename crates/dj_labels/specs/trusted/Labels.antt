-- Labelled code (JVMS 4.7.3 and chapter 6): instructions in place of bytes, and numbers of instructions in place of addresses.
use Rattle.std.specs.Prelude.{◌≡◌, ℕ, ◌<◌, ◌≤◌, ⊤, ℤ, pos, unsigned_abs, ◌<ℤ◌, ◌≤ℤ◌, List, [], ◌∷◌, ◌++◌, map, length, slice_index}
use Rattle.std.specs.List.{AllByRecursion}
use Rattle.dj_ops.specs.declared.instruction.Instr.{Instr}
use Rattle.dj_ops.specs.declared.rows.CatchRow.{CatchRow}
use Rattle.dj_ops.specs.trusted.Instructions.{Stands}
use Rattle.dj_labels.specs.declared.labelled.Protected.{Protected}
use Rattle.dj_labels.specs.declared.labelled.Labelled.{Labelled}
use Rattle.dj_labels.specs.trusted.Targets.{targets_of, with_targets}

-- ---- where the instructions of code start

-- the first of these addresses, or the end where there is none
abbrev pub first_of : List ℕ → ℕ → ℕ
first_of [] end = end
first_of (start ∷ starts) end = start

-- each instruction reaches from its start to the next start, and the last one to the end
abbrev pub StandUpTo : List ℕ → List ℕ → List Instr → ℕ → Type 0
StandUpTo code [] [] end = ⊤
StandUpTo code (start ∷ starts) (instr ∷ instrs) end =
    Stands code start instr (first_of starts end) × StandUpTo code starts instrs end
StandUpTo code starts instrs end = ⊥

-- the code, from 0 up to the end, is cut into these instructions, which start at these addresses
pub record IsCut (code : List ℕ) (starts : List ℕ) (instrs : List Instr) (end : ℕ) : Type 0 where
  pub first : first_of starts end ≡ 0
  pub each : StandUpTo code starts instrs end

-- ---- numbers of instructions

-- the number of one of this many instructions
abbrev pub IsNumber : ℕ → ℤ → Type 0
IsNumber count number = (pos 0 ≤ℤ number) × (number <ℤ pos count)

-- the address at which the instruction of this number starts
abbrev pub address_of : List ℕ → ℤ → ℤ
address_of starts number = pos (slice_index starts (unsigned_abs number))

-- the targets are numbers of this many instructions
abbrev pub HasNumbers : ℕ → Instr → Type 0
HasNumbers count instr = AllByRecursion (IsNumber count) (targets_of instr)

-- a range of some of this many instructions, and a handler among them
pub record IsRange (count : ℕ) (range : Protected) : Type 0 where
  pub some : range.start < range.end
  pub within : range.end ≤ count
  pub handled : range.handler < count

-- ---- labelled code

-- the instructions at these starts, with addresses for targets
abbrev pub addressed : List ℕ → List Instr → List Instr
addressed starts instrs = map (with_targets (address_of starts)) instrs

-- the row of a range, by the starts of the instructions; a range that ends with the last instruction ends with the code
abbrev pub row_of : List ℕ → Protected → CatchRow
row_of bounds range = record {
  start = slice_index bounds range.start;
  end = slice_index bounds range.end;
  handler = slice_index bounds range.handler;
  catch_type = range.catch_type;
}

-- the code is cut into the instructions, and the table has the ranges; targets and ranges are numbers of instructions
pub record IsLabelled (code : List ℕ) (table : List CatchRow) (labelled : Labelled) : Type 0 where
  pub starts : List ℕ
  pub cut : IsCut code starts (addressed starts labelled.code) (length code)
  pub targets : AllByRecursion (HasNumbers (length labelled.code)) labelled.code
  pub rows : table ≡ map (row_of (starts ++ length code ∷ [])) labelled.ranges
  pub ranges : AllByRecursion (IsRange (length labelled.code)) labelled.ranges
