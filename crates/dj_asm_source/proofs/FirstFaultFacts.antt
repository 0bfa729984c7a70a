-- What reading answers of a text is one thing, and what it is of some texts.
use Rattle.std.proofs.Common.{◌≡◌, ◌≢◌, ℕ, ◌⊎◌, List, [], ◌∷◌, ◌++◌, Option, Some, None, codes, refl, sym, ap, ◌∙◌, inl, inr, arith}
use Rattle.dj_cursor.proofs.Options.{some_is}
use Rattle.dj_names.specs.trusted.DescReading.{class_read, name_read}
use Rattle.dj_names.specs.trusted.NameReading.{reads_class_name}
use Rattle.dj_names.specs.Tests.{class_name_test}
use Rattle.dj_asm_source.specs.declared.error.AsmError.{AsmError}
use Rattle.dj_asm_source.specs.declared.error.AsmError.TheVariants as asm_errors
use Rattle.dj_asm_tokens.specs.trusted.Words.{tokens_after, word_units}
use Rattle.dj_asm_tokens.specs.trusted.Mnemonics.{mnemonics}
use Rattle.dj_asm_source.specs.trusted.Lines.{Line, Class, Super}
use Rattle.dj_asm_source.specs.trusted.Sources.{lines_of}
use Rattle.dj_asm_source.specs.trusted.Faults.{WordFault}
use Rattle.dj_asm_source.specs.trusted.Labels.{LabelFault, line_numbers}
use Rattle.dj_asm_source.specs.LineReading.{lines_read}
use Rattle.dj_asm_source.specs.LabelReading.{marks_from, mislabelled_from, sections_of, mislabelled_after, read_fault, label_error, text_fault}
use Rattle.dj_asm_source.specs.SourceLines.{TextLines, AreLinesOf, IsFirstFault}
use Rattle.dj_asm_source.proofs.TextLaws.{lines_are_read, text_lines}
use Rattle.dj_asm_source.proofs.LabelTextLaws.{none_reported, word_fault_reported, label_fault_reported}
use Rattle.dj_asm_source.proofs.ReadingLaws.{lines_of_source}

-- ---- one answer at most

-- a first fault is reported
is_reported : (text : List ℕ) (e : AsmError) → WordFault text e ⊎ LabelFault text e → text_fault text ≡ Some e
is_reported text e (inl fault) = word_fault_reported text e fault
is_reported text e (inr fault) = label_fault_reported text e fault

fault_is : (text : List ℕ) (e : AsmError) → e ≢ asm_errors.Memory → IsFirstFault text e → text_fault text ≡ Some e
fault_is text asm_errors.Memory other fault = absurd (other refl)
fault_is text (asm_errors.Syntax line column) other fault = is_reported text (asm_errors.Syntax line column) fault
fault_is text (asm_errors.Label line) other fault = is_reported text (asm_errors.Label line) fault
fault_is text (asm_errors.Large line) other fault = is_reported text (asm_errors.Large line) fault

-- a text has one at most
pub one_first_fault : (text : List ℕ) (e f : AsmError) → e ≢ asm_errors.Memory → f ≢ asm_errors.Memory → IsFirstFault text e → IsFirstFault text f → e ≡ f
one_first_fault text e f a b first other = some_is e f (sym (fault_is text e a first) ∙ fault_is text f b other)

none_is_reported : (text : List ℕ) (read : TextLines) → AreLinesOf text read → text_fault text ≡ None
none_is_reported text read are =
    ap (read_fault text) (lines_are_read text are.source are.is_text) ∙ ap (label_error (line_numbers text)) (none_reported are.source are.labelled)

-- and none where it has lines
pub no_fault_of_lines : (text : List ℕ) (read : TextLines) (e : AsmError) → e ≢ asm_errors.Memory → AreLinesOf text read → IsFirstFault text e → ⊥
no_fault_of_lines text read e other are fault = some_or_none (sym (none_is_reported text read are) ∙ fault_is text e other fault) where
  some_or_none : ◌≡◌ {A = Option AsmError} None (Some e) → ⊥
  some_or_none same = absurd cc

-- its lines are some lines at most, and so are their numbers
pub one_reading : (text : List ℕ) (a b : TextLines) → AreLinesOf text a → AreLinesOf text b → (a.lines ≡ b.lines) × (a.numbers ≡ b.numbers)
one_reading text a b are other =
    (are.lines_are ∙ (text_lines text are.source other.source are.is_text other.is_text ∙ sym other.lines_are), are.numbers_are ∙ sym other.numbers_are)

-- ---- a text with lines that have no words

abbrev small : List ℕ
small = 10 ∷ codes ".class 21 A" ++ 10 ∷ codes "# none" ++ 10 ∷ 13 ∷ 10 ∷ codes ".super A"

abbrev small_lines : TextLines
small_lines = record { lines = Class 33 (codes "A") ∷ Super (codes "A") ∷ []; numbers = 2 ∷ 5 ∷ [] }

pub small_is : AreLinesOf small small_lines
unfolding lines_read tokens_after word_units mnemonics class_name_test reads_class_name class_read name_read marks_from mislabelled_from sections_of mislabelled_after
small_is = lines_of_source small small_lines (record { words = refl; numbers = refl; few = omega arith }) refl

-- not all lines are counted, and not only those with words
abbrev counted : List Line → TextLines
counted lines = record { lines = lines; numbers = 1 ∷ 2 ∷ [] }

not_counted : (lines : List Line) → AreLinesOf small (counted lines) → ⊥
not_counted lines are = two_or_one (ap first_of (one_reading small small_lines (counted lines) small_is are).1) where
  first_of : List ℕ → ℕ
  first_of [] = 0
  first_of (n ∷ ns) = n

  two_or_one : ◌≡◌ {A = ℕ} 2 1 → ⊥
  two_or_one e = omega (arith, e)

-- it has no fault
no_fault : (line : ℕ) → IsFirstFault small (asm_errors.Label line) → ⊥
no_fault line fault = no_fault_of_lines small small_lines (asm_errors.Label line) (λ e. absurd cc) small_is fault
