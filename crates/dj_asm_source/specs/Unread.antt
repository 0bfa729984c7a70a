-- Lines that are left to read of a text.
use Rattle.std.specs.Prelude.{◌≡◌, ℕ, ◌+◌, ◌<◌, ⊤, List, [], ◌∷◌, length, map, Some, Result, Ok, Err}
use Rattle.std.specs.List.{flat_map, enumerate_from}
use Rattle.std.specs.Str.Lines.{lines}
use Rattle.dj_asm_source.specs.declared.error.AsmError.{AsmError}
use Rattle.dj_asm_source.specs.declared.error.AsmError.TheVariants as asm_errors
use Rattle.dj_asm_source.specs.declared.unread.Row.{Row}
use Rattle.dj_asm_source.specs.declared.unread.Row.TheVariants as rows
use Rattle.dj_asm_tokens.specs.trusted.Words.{Placed, line_tokens}
use Rattle.dj_asm_source.specs.Order.{State, AtClass}
use Rattle.dj_asm_source.specs.declared.reader.Stop.{Stop}
use Rattle.dj_asm_source.specs.declared.reader.Stop.TheVariants as stops
use Rattle.dj_asm_source.specs.declared.syntax.Line.{Line as TheLine}
use Rattle.dj_asm_source.specs.trusted.Lines.{Line}
use Rattle.dj_asm_source.specs.Reading.{Read}
use Rattle.dj_asm_source.specs.LineReading.{AreRead, missing, with_line, lines_from, lines_read}
use Rattle.dj_asm_source.specs.LineViews.{line_view}

-- what may come, the number of the first of them, and their bytes
pub record UnreadLines : Type 0 where
  pub state : State
  pub number : ℕ
  pub rest : List ℕ

-- all lines of a text
abbrev pub all_left : List ℕ → UnreadLines
all_left text = record { state = AtClass; number = 1; rest = text }

-- the number after the last line
abbrev pub end_number : UnreadLines → ℕ
end_number u = length (lines u.rest) + u.number

-- what they are
abbrev pub read_left : UnreadLines → AreRead
read_left u = lines_read (end_number u) (Some u.state) (map line_tokens (enumerate_from u.number (lines u.rest)))

-- the number of a line, if it has tokens
abbrev pub number_if : ℕ → List Placed → List ℕ
number_if n [] = []
number_if n (here ∷ rest) = n ∷ []

abbrev pub numbers_with_words : List (ℕ × List ℕ) → List ℕ
numbers_with_words all = flat_map (λ (l : ℕ × List ℕ). number_if l.0 (line_tokens l)) all

-- the numbers of those that have words
abbrev pub numbers_left : UnreadLines → List ℕ
numbers_left u = numbers_with_words (enumerate_from u.number (lines u.rest))

-- what they are after a line of which this is read
abbrev pub read_after : UnreadLines → Read Line → AreRead
read_after u read =
    lines_from (end_number u) u.state read (λ next. lines_read (end_number u) next (map line_tokens (enumerate_from u.number (lines u.rest))))

-- the error of a stop
abbrev pub stop_fault : ℕ → Stop → AsmError
stop_fault end (stops.Wrong line column) = asm_errors.Syntax line column
stop_fault end (stops.Large line) = asm_errors.Large line
stop_fault end stops.Missing = missing end
stop_fault end stops.Memory = asm_errors.Memory

-- a line, and those that are left now, or the fault
abbrev pub GivesLine : AreRead → UnreadLines → Result TheLine AsmError → Type 0
GivesLine whole new (Ok line) = whole ≡ with_line (line_view line) (read_left new)
GivesLine whole new (Err asm_errors.Memory) = ⊤
GivesLine whole new (Err e) = whole ≡ Err e

-- what a row is, of the lines that were left and those that are left now
abbrev pub GivesRow : UnreadLines → UnreadLines → Result Row AsmError → Type 0
GivesRow old new (Ok (rows.Said number line)) = (number ≡ old.number) × (read_left old ≡ with_line (line_view line) (read_left new))
GivesRow old new (Ok rows.Blank) = read_left old ≡ read_left new
GivesRow old new (Ok rows.End) = read_left old ≡ Ok []
GivesRow old new (Err asm_errors.Memory) = ⊤
GivesRow old new (Err e) = read_left old ≡ Err e

-- which numbers a row leaves, and fewer bytes where it isn't the end
abbrev pub LeavesRow : UnreadLines → UnreadLines → Result Row AsmError → Type 0
LeavesRow old new (Ok (rows.Said number line)) = (numbers_left old ≡ number ∷ numbers_left new) × (length new.rest < length old.rest)
LeavesRow old new (Ok rows.Blank) = (numbers_left old ≡ numbers_left new) × (length new.rest < length old.rest)
LeavesRow old new (Ok rows.End) = numbers_left old ≡ []
LeavesRow old new (Err e) = ⊤
