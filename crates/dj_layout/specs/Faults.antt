-- Labelled code that doesn't fit, and its first fault.
use Rattle.std.specs.Prelude.{◌≡◌, ℕ, ◌+◌, ◌<◌, ◌≤◌, ◌⊎◌, ⊤, List, length, take, Result, IsErrOf}
use Rattle.dj_ops.specs.declared.instruction.Instr.{Instr}
use Rattle.dj_labels.specs.declared.labelled.Labelled.{Labelled}
use Rattle.dj_labels.specs.Faults.{IsFirstWithout}
use Rattle.dj_layout.specs.declared.laid.Laid.{Laid}
use Rattle.dj_layout.specs.declared.errors.LayError.{LayError}
use Rattle.dj_layout.specs.declared.errors.LayError.TheVariants as errors
use Rattle.dj_layout.specs.trusted.Places.{starts_from, end_from}
use Rattle.dj_layout.specs.trusted.Layouts.{placed, most_bytes}
use Rattle.dj_layout.specs.trusted.Faults.{Reaches}

-- the instruction of this number is the first that ends after the most bytes that code may have
pub record IsFirstPast (instrs : List Instr) (number : ℕ) : Type 0 where
  pub within : number < length instrs
  pub before : end_from 0 (take number instrs) ≤ most_bytes
  pub past : most_bytes < end_from 0 (take (number + 1) instrs)

-- the code has at most the most bytes, and the jump of this number is the first whose target is too far away
pub record IsFirstFar (instrs : List Instr) (number : ℕ) : Type 0 where
  pub short : end_from 0 instrs ≤ most_bytes
  pub jump : ℕ × Instr
  pub first : IsFirstWithout Reaches (placed (starts_from 0 instrs) instrs) number jump

-- ---- the cause of a refusal

abbrev pub Refuses : Labelled → LayError → Type 0
Refuses labelled (errors.TooLong number) = IsFirstPast labelled.code number
Refuses labelled (errors.Far number) = IsFirstFar labelled.code number
Refuses labelled errors.Memory = ⊥

-- the error has its cause in the code, except want of memory
abbrev pub IsRefused : Labelled → LayError → Type 0
IsRefused labelled errors.Memory = ⊤
IsRefused labelled e = Refuses labelled e

-- the result is this answer, unless memory ran out
abbrev pub Yields : Result Laid LayError → Result Laid LayError → Type 0
Yields result answer = (result ≡ answer) ⊎ IsErrOf result errors.Memory
