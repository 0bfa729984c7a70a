-- Code and tables that have no labels, and where the first fault is.
use Rattle.std.specs.Prelude.{◌≡◌, ℕ, ◌<◌, ◌⊎◌, ⊤, pos, List, [], ◌∷◌, ◌++◌, map, length, take, slice_get, Contains, Some, Result, IsErrOf}
use Rattle.std.specs.List.{AllByRecursion}
use Rattle.dj_ops.specs.declared.instruction.Instr.{Instr}
use Rattle.dj_ops.specs.declared.rows.CatchRow.{CatchRow}
use Rattle.dj_ops.specs.trusted.Instructions.{Stands}
use Rattle.dj_labels.specs.declared.labelled.Labelled.{Labelled}
use Rattle.dj_labels.specs.declared.errors.CodeError.{CodeError}
use Rattle.dj_labels.specs.declared.errors.CodeError.TheVariants as errors
use Rattle.dj_labels.specs.trusted.Targets.{targets_of}
use Rattle.dj_labels.specs.trusted.Labels.{IsCut}

-- `number` is that of the first item of a list that doesn't meet the condition
pub record IsFirstWithout {X : Type 0} (P : X → Type 0) (xs : List X) (number : ℕ) (x : X) : Type 0 where
  pub found : slice_get xs number ≡ Some x
  pub lacks : P x → ⊥
  pub before : AllByRecursion P (take number xs)

-- ---- instructions

-- the instructions follow one another up to this address of the code, and there is none at it
pub record IsOpFault (code : List ℕ) (at : ℕ) : Type 0 where
  pub starts : List ℕ
  pub instrs : List Instr
  pub cut : IsCut code starts instrs at
  pub within : at < length code
  pub none : (instr : Instr) (next : ℕ) → Stands code at instr next → ⊥

-- ---- targets

-- at each target an instruction starts
abbrev pub HasStarts : List ℕ → Instr → Type 0
HasStarts starts instr = AllByRecursion (Contains (map pos starts)) (targets_of instr)

-- the first instruction with a target at which none starts is at this address
pub record IsTargetFault (code : List ℕ) (at : ℕ) : Type 0 where
  pub starts : List ℕ
  pub instrs : List Instr
  pub cut : IsCut code starts instrs (length code)
  pub number : ℕ
  pub stands_at : slice_get starts number ≡ Some at
  pub instr : Instr
  pub first : IsFirstWithout (HasStarts starts) instrs number instr

-- ---- rows

-- JVMS 4.7.3, exception_table: the bounds and the handler of a row, in code with these starts and of this length
pub record IsRow (starts : List ℕ) (size : ℕ) (row : CatchRow) : Type 0 where
  pub some : row.start < row.end
  pub start : Contains starts row.start
  pub end : Contains (starts ++ size ∷ []) row.end
  pub handler : Contains starts row.handler

-- the first row that is no range of the code's instructions
pub record IsRangeFault (code : List ℕ) (table : List CatchRow) (number : ℕ) : Type 0 where
  pub starts : List ℕ
  pub instrs : List Instr
  pub cut : IsCut code starts instrs (length code)
  pub targets : AllByRecursion (HasStarts starts) instrs
  pub row : CatchRow
  pub first : IsFirstWithout (IsRow starts (length code)) table number row

-- ---- the cause of a refusal

abbrev pub Refuses : List ℕ → List CatchRow → CodeError → Type 0
Refuses code table (errors.Op at) = IsOpFault code at
Refuses code table (errors.Target at) = IsTargetFault code at
Refuses code table (errors.Range number) = IsRangeFault code table number
Refuses code table errors.Memory = ⊥

-- want of memory has no cause in the code
abbrev pub IsRefused : List ℕ → List CatchRow → CodeError → Type 0
IsRefused code table errors.Memory = ⊤
IsRefused code table e = Refuses code table e

-- this is the answer, unless memory ran out
abbrev pub Yields : Result Labelled CodeError → Result Labelled CodeError → Type 0
Yields result answer = (result ≡ answer) ⊎ IsErrOf result errors.Memory
