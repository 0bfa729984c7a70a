-- How far the reading of a text has come: the lines that were read, and those that are left.
use Rattle.std.specs.Prelude.{◌≡◌, ℕ, ◌+◌, ◌<◌, ◌≤◌, ⊤, Bool, true, false, List, [], ◌∷◌, ◌++◌, length, Result, Ok, Err}
use Rattle.dj_asm_source.specs.declared.error.AsmError.{AsmError}
use Rattle.dj_asm_source.specs.declared.error.AsmError.TheVariants as asm_errors
use Rattle.dj_asm_source.specs.trusted.Lines.{Line}
use Rattle.dj_asm_source.specs.trusted.Labels.{line_numbers}
use Rattle.dj_asm_source.specs.LineReading.{AreRead, text_read}
use Rattle.dj_asm_source.specs.Unread.{UnreadLines, read_left, numbers_left}
use Rattle.dj_asm_source.specs.SourceLines.{TextLines}

-- no line yet
abbrev pub no_lines : TextLines
no_lines = record { lines = []; numbers = [] }

-- one more at the end
abbrev pub with_last : TextLines → ℕ → Line → TextLines
with_last read number line = record { lines = read.lines ++ line ∷ []; numbers = read.numbers ++ number ∷ [] }

-- lines before those that are left
abbrev pub with_lines : List Line → AreRead → AreRead
with_lines lines (Ok others) = Ok (lines ++ others)
with_lines lines (Err e) = Err e

-- with what is left they are the lines of the text and their numbers
pub record IsReading (text : List ℕ) (read : TextLines) (left : UnreadLines) : Type 0 where
  pub words : text_read text ≡ with_lines read.lines (read_left left)
  pub numbers : line_numbers text ≡ read.numbers ++ numbers_left left
  pub few : length read.lines + length left.rest ≤ length text

-- they are all lines of the text
pub record AreAllRead (text : List ℕ) (read : TextLines) : Type 0 where
  pub words : text_read text ≡ Ok read.lines
  pub numbers : line_numbers text ≡ read.numbers
  pub few : length read.lines ≤ length text

-- the text has this fault where it is read
abbrev pub IsReadFault : List ℕ → AsmError → Type 0
IsReadFault text asm_errors.Memory = ⊤
IsReadFault text e = text_read text ≡ Err e

-- what a row leaves of a text: fewer bytes where there may be more, else nothing
abbrev pub GoesOn : List ℕ → TextLines → UnreadLines → UnreadLines → Result Bool AsmError → Type 0
GoesOn text read old new (Ok true) = IsReading text read new × (length new.rest < length old.rest)
GoesOn text read old new (Ok false) = AreAllRead text read
GoesOn text read old new (Err e) = IsReadFault text e
