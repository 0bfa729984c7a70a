-- The numbers of labels, by a table of a method's labels.
use Rattle.std.proofs.Common.{◌≡◌, ◌≢◌, ◌⊎◌, inl, inr, ℕ, suc, ◌+◌, Bool, true, false, cond, not, List, [], ◌∷◌, map, take, Option, Some, None, refl, sym, ap, ◌∙◌, arith}
use Rattle.std.specs.List.{prefix_len}
use Rattle.std.specs.Cmp.Lexicographic.{bytes_decides}
use Rattle.std.proofs.lemmas.Bool.{cases_Bool, false≢true, false_from_ne_true}
use Rattle.std.proofs.lemmas.List.Sums.{sum_by-cons}
use Rattle.dj_names.specs.trusted.Types.{same_name}
use Rattle.dj_asm_source.specs.declared.syntax.Line as the_line
use Rattle.dj_asm_source.specs.declared.label_table.LabelPlace as the_place
use Rattle.dj_asm_source.specs.trusted.Lines.{Label, Labelled, Line, Beside}
use Rattle.dj_asm_source.specs.trusted.Labels.{is_instruction, instruction_count, marks, label_number}
use Rattle.dj_asm_source.specs.LineViews.{line_view}
use Rattle.dj_asm_tokens.specs.WordReading.{row_of}
use Rattle.dj_asm_source.specs.LabelReading.{LabelMark, Marks, number_after, marks_from, marks_of}
use Rattle.dj_asm_source.specs.LabelViews.{mark_view}
use Rattle.dj_asm_source.proofs.LabelLaws.{same_line, row_past, row_here, number_more}

-- ---- the number of a label, line by line

abbrev one_if : Line → ℕ
one_if line = cond (is_instruction line) 1 0

abbrev pub count_to : Label → List Line → ℕ
count_to label [] = 0
count_to label (line ∷ more) = cond (not (marks label line)) (one_if line + count_to label more) 0

count_cons : (line : Line) (more : List Line) → instruction_count (line ∷ more) ≡ one_if line + instruction_count more
count_cons line more = sum_by-cons (λ l. cond (is_instruction l) 1 0) line more

pub number_is : (body : List Line) (label : Label) → label_number body label ≡ count_to label body
unfolding label_number
number_is [] label = refl
number_is (line ∷ more) label =
    let n = prefix_len (λ l. not (marks label l)) more in
    elim (cases_Bool (marks label line)) [
      | inl here ↦
          ap (λ b. instruction_count (take (cond (not b) (1 + n) 0) (line ∷ more))) here ∙ sym (ap (λ b. cond (not b) (one_if line + count_to label more) 0) here)
      | inr other ↦
          let one : 1 + n ≡ suc n = omega arith in
          ap (λ b. instruction_count (take (cond (not b) (1 + n) 0) (line ∷ more))) other
          ∙ (ap (λ (k : ℕ). instruction_count (take k (line ∷ more))) one
          ∙ (count_cons line (take n more)
          ∙ (ap (λ (k : ℕ). one_if line + k) (number_is more label) ∙ sym (ap (λ b. cond (not b) (one_if line + count_to label more) 0) other))))
    ]

marks_is : (label : Label) (line : Line) → marks label line ≡ true → line ≡ Beside (Labelled label)
marks_is label (Beside (Labelled other)) e = ap (λ (l : Label). Beside (Labelled l)) ((bytes_decides other label).0 e)
marks_is label line e = absurd (false≢true e)

-- ---- by the rows of a table

-- the number of a row, and all instructions where there is none
abbrev number_in : ℕ → Option LabelMark → ℕ
number_in count None = count
number_in count (Some mark) = mark.number

one_more : (b : Bool) (number n : ℕ) → cond b (suc number) number + n ≡ number + (cond b 1 0 + n)
one_more true number n = omega arith
one_more false number n = omega arith

-- as many as the row of the lines' own table says
abbrev IsCounted : Label → ℕ → ℕ → List Line → Type 0
IsCounted label place number body = number_in (number + instruction_count body) (row_of (marks_from place number body) label) ≡ number + count_to label body

counted_line : (label : Label) (place number : ℕ) (line : Line) (body : List Line) → IsCounted label (suc place) (number_after line number) body
    → (line ≡ Beside (Labelled label)) ⊎ (line ≢ Beside (Labelled label)) → IsCounted label place number (line ∷ body)
unfolding marks_from
counted_line label place number line body more (inl e) =
    ap (λ l. number_in (number + instruction_count (l ∷ body)) (row_of (marks_from place number (l ∷ body)) label)) e
    ∙ (ap (number_in (number + instruction_count (Beside (Labelled label) ∷ body))) (row_here label place number (marks_from (suc place) number body))
    ∙ (omega arith
    ∙ (sym (ap (λ b. number + cond (not b) (0 + count_to label body) 0) ((bytes_decides label label).1 refl))
    ∙ sym (ap (λ l. number + count_to label (l ∷ body)) e))))
counted_line label place number line body more (inr n) =
    let other : marks label line ≡ false = false_from_ne_true (marks label line) (λ e. n (marks_is label line e)) in
    ap (number_in (number + instruction_count (line ∷ body))) (row_past label line place number (marks_from (suc place) (number_after line number) body) n)
    ∙ (ap (λ (k : ℕ). number_in k (row_of (marks_from (suc place) (number_after line number) body) label)) (sym (number_more line number body))
    ∙ (more
    ∙ (one_more (is_instruction line) number (count_to label body)
    ∙ sym (ap (λ b. number + cond (not b) (one_if line + count_to label body) 0) other))))

counted_from : (label : Label) (place number : ℕ) (body : List Line) → IsCounted label place number body
unfolding marks_from
counted_from label place number [] = refl
counted_from label place number (line ∷ body) = counted_line label place number line body (counted_from label (suc place) (number_after line number) body) (same_line label line)

by_row : (body : List Line) (label : Label) → number_in (instruction_count body) (row_of (marks_of body) label) ≡ label_number body label
by_row body label =
    let none : instruction_count body ≡ 0 + instruction_count body = omega arith in
    let same : 0 + count_to label body ≡ count_to label body = omega arith in
    ap (λ (k : ℕ). number_in k (row_of (marks_of body) label)) none ∙ (counted_from label 0 0 body ∙ (same ∙ sym (number_is body label)))

by_rows : (table : Marks) (body : List Line) (label : Label) → ((l : Label) → row_of table l ≡ row_of (marks_of body) l)
    → number_in (instruction_count body) (row_of table label) ≡ label_number body label
by_rows table body label alike = ap (number_in (instruction_count body)) (alike label) ∙ by_row body label

pub number_of_mark : (table : Marks) (lines : List the_line.Line) (label : Label) (mark : the_place.LabelPlace) → ((l : Label) → row_of table l ≡ row_of (marks_of (map line_view lines)) l)
    → Some (mark_view mark) ≡ row_of table label → mark.number ≡ label_number (map line_view lines) label
number_of_mark table lines label mark alike e =
    ap (number_in (instruction_count (map line_view lines))) e ∙ by_rows table (map line_view lines) label alike

pub number_of_none : (table : Marks) (lines : List the_line.Line) (label : Label) (count : ℕ) → ((l : Label) → row_of table l ≡ row_of (marks_of (map line_view lines)) l)
    → None ≡ row_of table label → count ≡ instruction_count (map line_view lines) → count ≡ label_number (map line_view lines) label
number_of_none table lines label count alike e counted =
    counted ∙ (ap (number_in (instruction_count (map line_view lines))) e ∙ by_rows table (map line_view lines) label alike)
