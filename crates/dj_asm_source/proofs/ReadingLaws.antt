-- A text is read row by row, and then its labels are looked at.
use Rattle.std.proofs.Common.{◌≡◌, ℕ, ◌+◌, ◌<◌, ◌≤◌, ◌^◌, true, false, List, [], ◌∷◌, ◌++◌, length, Option, Some, None, Ok, Err, refl, sym, ap, ◌∙◌, subst, inl, inr, arith}
use Rattle.std.proofs.lemmas.List.{append_assoc, append-nil, length-append}
use Rattle.dj_asm_source.specs.declared.error.AsmError.{AsmError}
use Rattle.dj_asm_source.specs.declared.error.AsmError.TheVariants as asm_errors
use Rattle.dj_asm_source.specs.declared.syntax.Line.{Line as TheLine}
use Rattle.dj_asm_source.specs.declared.unread.Row.TheVariants as rows
use Rattle.dj_asm_source.specs.LineViews.{line_view}
use Rattle.dj_asm_source.specs.trusted.Lines.{Line}
use Rattle.dj_asm_source.specs.trusted.Faults.{WordFault}
use Rattle.dj_asm_source.specs.trusted.Labels.{LabelFault}
use Rattle.dj_asm_source.specs.LineReading.{AreRead, with_line, text_read}
use Rattle.dj_asm_source.specs.LabelReading.{first_mislabelled, label_error, labels_fault}
use Rattle.dj_asm_source.specs.Unread.{UnreadLines, all_left, read_left, numbers_left, GivesRow, LeavesRow}
use Rattle.dj_asm_source.specs.SourceLines.{TextLines, AreLinesOf, IsFirstFault}
use Rattle.dj_asm_source.specs.Readings.{no_lines, with_last, with_lines, IsReading, AreAllRead, IsReadFault, GoesOn}
use Rattle.dj_asm_source.proofs.TextLaws.{IsReadRightly, text_read_rightly}
use Rattle.dj_asm_source.proofs.NumberLaws.{line_numbers_are}
use Rattle.dj_asm_source.proofs.LabelTextLaws.{label_fault_is, no_label_fault}

-- ---- row by row

-- no line before those that are left
before_all : (left : AreRead) → left ≡ with_lines [] left
before_all (Ok others) = refl
before_all (Err e) = refl

-- at the start all lines are left
pub starts : (text : List ℕ) → IsReading text no_lines (all_left text)
starts text = record {
  words = before_all (text_read text);
  numbers = line_numbers_are text;
  few = omega arith;
}

-- a line that was read comes after those before it
with_one_more : (lines : List Line) (line : Line) (left : AreRead) → with_lines lines (with_line line left) ≡ with_lines (lines ++ line ∷ []) left
with_one_more lines line (Ok others) = ap (λ all. Ok all) (sym (append_assoc lines (line ∷ []) others))
with_one_more lines line (Err e) = refl

pub goes_on_said : (text : List ℕ) (read : TextLines) (old new : UnreadLines) (number : ℕ) (line : TheLine) → IsReading text read old → GivesRow old new (Ok (rows.Said number line))
    → LeavesRow old new (Ok (rows.Said number line)) → GoesOn text (with_last read number (line_view line)) old new (Ok true)
goes_on_said text read old new number line so gives leaves = (
  record {
    words = so.words ∙ (ap (with_lines read.lines) gives.1 ∙ with_one_more read.lines (line_view line) (read_left new));
    numbers = so.numbers ∙ (ap (λ ns. read.numbers ++ ns) leaves.0 ∙ sym (append_assoc read.numbers (number ∷ []) (numbers_left new)));
    few = omega (arith, so.few, leaves.1, length-append read.lines (line_view line ∷ []));
  },
  leaves.1,
)

pub goes_on_blank : (text : List ℕ) (read : TextLines) (old new : UnreadLines) → IsReading text read old → GivesRow old new (Ok rows.Blank) → LeavesRow old new (Ok rows.Blank)
    → GoesOn text read old new (Ok true)
goes_on_blank text read old new so gives leaves = (
  record {
    words = so.words ∙ ap (with_lines read.lines) gives;
    numbers = so.numbers ∙ ap (λ ns. read.numbers ++ ns) leaves.0;
    few = omega (arith, so.few, leaves.1);
  },
  leaves.1,
)

pub ends : (text : List ℕ) (read : TextLines) (old new : UnreadLines) → IsReading text read old → GivesRow old new (Ok rows.End) → LeavesRow old new (Ok rows.End)
    → GoesOn text read old new (Ok false)
ends text read old new so gives leaves = record {
  words = so.words ∙ (ap (with_lines read.lines) gives ∙ ap (λ all. Ok all) (append-nil read.lines));
  numbers = so.numbers ∙ (ap (λ ns. read.numbers ++ ns) leaves ∙ append-nil read.numbers);
  few = omega (arith, so.few);
}

pub stops : (text : List ℕ) (read : TextLines) (old new : UnreadLines) (e : AsmError) → IsReading text read old → GivesRow old new (Err e) → GoesOn text read old new (Err e)
stops text read old new asm_errors.Memory so gives = tt
stops text read old new (asm_errors.Syntax line column) so gives = so.words ∙ ap (with_lines read.lines) gives
stops text read old new (asm_errors.Label line) so gives = so.words ∙ ap (with_lines read.lines) gives
stops text read old new (asm_errors.Large line) so gives = so.words ∙ ap (with_lines read.lines) gives

-- ---- all lines of a text

-- what their labels say
reported_by : (text : List ℕ) (read : TextLines) (o : Option AsmError) → AreAllRead text read → label_error read.numbers (first_mislabelled read.lines) ≡ o → labels_fault text read.lines ≡ o
reported_by text read o all e = ap (λ numbers. label_error numbers (first_mislabelled read.lines)) all.numbers ∙ e

pub lines_of_source : (text : List ℕ) (read : TextLines) → AreAllRead text read → label_error read.numbers (first_mislabelled read.lines) ≡ None → AreLinesOf text read
lines_of_source text read all e =
    let s = no_label_fault text read.lines all.words (reported_by text read None all e) in
    record { source = s.0; is_text = s.2; labelled = s.3; lines_are = s.1; numbers_are = sym all.numbers }

pub few_lines : (text : List ℕ) (read : TextLines) → AreAllRead text read → length text ≤ 4294967294 → length read.lines < 2 ^ 32
few_lines text read all short = omega (arith, all.few, short)

of_words : (text : List ℕ) (e : AsmError) → WordFault text e → IsFirstFault text e
of_words text asm_errors.Memory fault = tt
of_words text (asm_errors.Syntax line column) fault = inl fault
of_words text (asm_errors.Label line) fault = inl fault
of_words text (asm_errors.Large line) fault = inl fault

of_labels : (text : List ℕ) (e : AsmError) → LabelFault text e → IsFirstFault text e
of_labels text asm_errors.Memory fault = tt
of_labels text (asm_errors.Syntax line column) fault = inr fault
of_labels text (asm_errors.Label line) fault = inr fault
of_labels text (asm_errors.Large line) fault = inr fault

word_fault_of : (text : List ℕ) (e : AsmError) → text_read text ≡ Err e → WordFault text e
word_fault_of text e read = subst (IsReadRightly text) read (text_read_rightly text)

pub read_fault : (text : List ℕ) (e : AsmError) → IsReadFault text e → IsFirstFault text e
read_fault text asm_errors.Memory read = tt
read_fault text (asm_errors.Syntax line column) read = of_words text (asm_errors.Syntax line column) (word_fault_of text (asm_errors.Syntax line column) read)
read_fault text (asm_errors.Label line) read = of_words text (asm_errors.Label line) (word_fault_of text (asm_errors.Label line) read)
read_fault text (asm_errors.Large line) read = of_words text (asm_errors.Large line) (word_fault_of text (asm_errors.Large line) read)

pub label_fault : (text : List ℕ) (read : TextLines) (e : AsmError) → AreAllRead text read → label_error read.numbers (first_mislabelled read.lines) ≡ Some e → IsFirstFault text e
label_fault text read e all reported = of_labels text e (label_fault_is text read.lines e all.words (reported_by text read (Some e) all reported))
