-- Definitions that only the readers' clauses cite: labels, by two passes over the lines of each method. One collects its labels, the other looks
-- up what each line names. No public clause cites them; proofs/LabelTextLaws says that what it finds is the text's fault.
use Rattle.std.specs.Prelude.{ℕ, suc, ◌+◌, ◌||◌, Bool, true, false, not, List, [], ◌∷◌, length, Option, Some, None, Ok, Err, slice_get, nat_lt, if◌then◌else◌}
use Rattle.std.specs.List.{list_all, prefix_len}
use Rattle.std.specs.Option.{option_map}
use Rattle.dj_asm_source.specs.declared.error.AsmError.{AsmError}
use Rattle.dj_asm_source.specs.declared.error.AsmError.TheVariants as asm_errors
use Rattle.dj_asm_source.specs.trusted.Lines.{Label, Labelled, Line, Abstract, Method, Beside}
use Rattle.dj_asm_source.specs.trusted.Labels.{Use, AtInstruction, Range, is_instruction, instruction_count, uses_of, line_numbers}
use Rattle.dj_asm_tokens.specs.WordReading.{row_of}
use Rattle.dj_asm_source.specs.LineReading.{AreRead, or_else, text_read}

-- ---- the first pass: the labels of a method

-- how many lines and how many instructions come before a label
pub record LabelMark : Type 0 where
  pub place : ℕ
  pub number : ℕ

-- in the order of the lines; the first row of a label counts
abbrev pub Marks : Type 0
Marks = List (Label × LabelMark)

abbrev pub defined_by : Line → Option Label
defined_by (Beside (Labelled label)) = Some label
defined_by line = None

abbrev pub with_mark : Option Label → ℕ → ℕ → Marks → Marks
with_mark None place number marks = marks
with_mark (Some label) place number marks = (label, record { place = place; number = number }) ∷ marks

abbrev pub number_after : Line → ℕ → ℕ
number_after line number = if is_instruction line then suc number else number

-- after this many lines and instructions
unfoldable pub marks_from : ℕ → ℕ → List Line → Marks
marks_from place number [] = []
marks_from place number (line ∷ lines) = with_mark (defined_by line) place number (marks_from (suc place) (number_after line number) lines)

abbrev pub marks_of : List Line → Marks
marks_of lines = marks_from 0 0 lines

-- ---- the second pass: what each line names

abbrev pub is_below : ℕ → Option LabelMark → Bool
is_below count None = false
is_below count (Some mark) = nat_lt mark.number count

abbrev pub is_in_order : Option LabelMark → Option LabelMark → Bool
is_in_order (Some from) (Some to) = nat_lt from.number to.number
is_in_order from to = false

-- in a method of this many instructions
abbrev pub is_met : Marks → ℕ → Use → Bool
is_met marks count (AtInstruction label) = is_below count (row_of marks label)
is_met marks count (Range from to) = is_in_order (row_of marks from) (row_of marks to)

abbrev pub is_before : ℕ → Option LabelMark → Bool
is_before place None = false
is_before place (Some mark) = nat_lt mark.place place

-- the label that the line after this many defines has a row of an earlier line
abbrev pub is_again : Marks → ℕ → Option Label → Bool
is_again marks place None = false
is_again marks place (Some label) = is_before place (row_of marks label)

abbrev pub is_mislabelled : Marks → ℕ → ℕ → Line → Bool
is_mislabelled marks count place line = is_again marks place (defined_by line) || not (list_all (is_met marks count) (uses_of line))

-- the first of the lines after this many
unfoldable pub mislabelled_from : Marks → ℕ → ℕ → List Line → Option ℕ
mislabelled_from marks count place [] = None
mislabelled_from marks count place (line ∷ lines) = if is_mislabelled marks count place line then Some place else mislabelled_from marks count (suc place) lines

abbrev pub mislabelled_in : List Line → Option ℕ
mislabelled_in lines = mislabelled_from (marks_of lines) (instruction_count lines) 0 lines

-- ---- all lines of a text

abbrev pub begins_method : Line → Bool
begins_method (Abstract flags name desc) = true
begins_method (Method flags name desc) = true
begins_method line = false

-- no line follows, or the first of a method
abbrev pub is_cut : List Line → Bool
is_cut [] = true
is_cut (line ∷ lines) = begins_method line

-- a line as the first of the first section, or as a section of its own
abbrev pub with_line_first : Bool → Line → List (List Line) → List (List Line)
with_line_first false line (section ∷ sections) = (line ∷ section) ∷ sections
with_line_first cut line sections = (line ∷ []) ∷ sections

-- the lines before the methods, and those of each method
unfoldable pub sections_of : List Line → List (List Line)
sections_of [] = []
sections_of (line ∷ lines) = with_line_first (is_cut lines) line (sections_of lines)

-- it begins no method
abbrev pub is_inside : Line → Bool
is_inside line = not (begins_method line)

-- how many lines the first section has
abbrev pub section_size : List Line → ℕ
section_size [] = 0
section_size (line ∷ lines) = 1 + prefix_len is_inside lines

unfoldable pub mislabelled_after : ℕ → List (List Line) → Option ℕ
mislabelled_after before [] = None
mislabelled_after before (section ∷ sections) =
    or_else (option_map (λ n. before + n) (mislabelled_in section)) (mislabelled_after (before + length section) sections)

-- how many lines come before the first that is mislabelled
abbrev pub first_mislabelled : List Line → Option ℕ
first_mislabelled lines = mislabelled_after 0 (sections_of lines)

-- ---- texts

abbrev pub label_error : List ℕ → Option ℕ → Option AsmError
label_error numbers None = None
label_error numbers (Some place) = option_map (λ line. asm_errors.Label line) (slice_get numbers place)

-- what is reported of the labels of a text with these lines
abbrev pub labels_fault : List ℕ → List Line → Option AsmError
labels_fault text lines = label_error (line_numbers text) (first_mislabelled lines)

-- what is reported of a text where this was read
abbrev pub read_fault : List ℕ → AreRead → Option AsmError
read_fault text (Ok lines) = labels_fault text lines
read_fault text (Err e) = Some e

-- what is reported of a text in the first two steps
abbrev pub text_fault : List ℕ → Option AsmError
text_fault text = read_fault text (text_read text)
