-- What the call that assembles a text answers.
use Rattle.std.specs.Prelude.{◌≡◌, ℕ, ◌⊎◌, ⊤, nat_le, if◌then◌else◌, List, Option, Some, None, Result, Ok, Err, IsErrOf, slice_get}
use Rattle.dj_asm_source.specs.declared.error.AsmError.{AsmError}
use Rattle.dj_asm_source.specs.declared.error.AsmError.TheVariants as asm_errors
use Rattle.dj_asm.specs.trusted.Texts.{IsTextOfBytes, TextFault}

-- want of memory has no cause in the text
abbrev pub IsAsmFault : List ℕ → AsmError → Type 0
IsAsmFault text asm_errors.Memory = ⊤
IsAsmFault text e = TextFault text e

-- this is the answer, unless memory ran out
abbrev pub Yields : Result (List ℕ) AsmError → Result (List ℕ) AsmError → Type 0
Yields result answer = (result ≡ answer) ⊎ IsErrOf result asm_errors.Memory

-- the file that the text means, or its first fault
abbrev pub GivesFile : List ℕ → Result (List ℕ) AsmError → Type 0
GivesFile text (Ok bytes) = IsTextOfBytes text bytes
GivesFile text (Err e) = IsAsmFault text e

-- the lesser of two places, where there are two
abbrev pub least_of : Option ℕ → Option ℕ → Option ℕ
least_of None other = other
least_of (Some place) None = Some place
least_of (Some place) (Some other) = if nat_le place other then Some place else Some other

-- the fault of the line at a place that is too large
abbrev pub large_at : List ℕ → ℕ → AsmError
large_at numbers place = reported (slice_get numbers place) where
  reported : Option ℕ → AsmError
  reported None = asm_errors.Memory
  reported (Some line) = asm_errors.Large line
