-- Lines that name labels wrongly, by a table of labels and section by section.
use Rattle.std.proofs.Common.{◌≡◌, ℕ, suc, ◌+◌, ◌<◌, ◌≤◌, Bool, true, false, cond, not, ◌&&◌, ◌||◌, List, [], ◌∷◌, ◌++◌, length, map, get_or, take, drop, Option, Some, None, option_map, refl, sym, ap, ◌∙◌, arith}
use Rattle.std.specs.List.{list_all}
use Rattle.std.proofs.lemmas.List.{drop-drop, drop-map, take-map, length-map, length-drop, length-take-le, drop_all, drop_more}
use Rattle.dj_asm_source.specs.declared.syntax.Line as the_line
use Rattle.dj_asm_source.specs.trusted.Lines.{Label, Line}
use Rattle.dj_asm_source.specs.trusted.Labels.{Use, AtInstruction, Range, instruction_count, uses_of}
use Rattle.dj_asm_source.specs.LineViews.{line_view}
use Rattle.dj_asm_tokens.specs.WordReading.{row_of}
use Rattle.dj_asm_source.specs.LineReading.{or_else}
use Rattle.dj_asm_source.specs.LabelReading.{Marks, defined_by, marks_of, is_below, is_in_order, is_before, is_met, is_again, is_mislabelled, mislabelled_from, mislabelled_in, sections_of, section_size, mislabelled_after}
use Rattle.dj_asm_source.proofs.Sections.{section_step}

-- ---- tables that answer alike

module _ (one other : Marks) (alike : (label : Label) → row_of one label ≡ row_of other label) where
  met_alike : (count : ℕ) (asked : Use) → is_met one count asked ≡ is_met other count asked
  met_alike count (AtInstruction label) = ap (is_below count) (alike label)
  met_alike count (Range from to) = ap (λ o. is_in_order o (row_of one to)) (alike from) ∙ ap (is_in_order (row_of other from)) (alike to)

  all_alike : (count : ℕ) (uses : List Use) → list_all (is_met one count) uses ≡ list_all (is_met other count) uses
  all_alike count [] = refl
  all_alike count (asked ∷ uses) =
      ap (λ b. b && list_all (is_met one count) uses) (met_alike count asked) ∙ ap (λ b. is_met other count asked && b) (all_alike count uses)

  again_alike : (place : ℕ) (label : Option Label) → is_again one place label ≡ is_again other place label
  again_alike place None = refl
  again_alike place (Some label) = ap (is_before place) (alike label)

  line_alike : (count place : ℕ) (line : Line) → is_mislabelled one count place line ≡ is_mislabelled other count place line
  line_alike count place line =
      ap (λ b. b || not (list_all (is_met one count) (uses_of line))) (again_alike place (defined_by line))
      ∙ ap (λ b. is_again other place (defined_by line) || not b) (all_alike count (uses_of line))

  lines_alike : (count place : ℕ) (lines : List Line) → mislabelled_from one count place lines ≡ mislabelled_from other count place lines
  unfolding mislabelled_from
  lines_alike count place [] = refl
  lines_alike count place (line ∷ lines) =
      ap (λ b. cond b (Some place) (mislabelled_from one count (suc place) lines)) (line_alike count place line)
      ∙ ap (λ o. cond (is_mislabelled other count place line) (Some place) o) (lines_alike count (suc place) lines)

-- any table that answers as the lines' own does
pub by_table : (table : Marks) (count : ℕ) (lines : List the_line.Line) → ((label : Label) → row_of table label ≡ row_of (marks_of (map line_view lines)) label)
    → count ≡ instruction_count (map line_view lines) → mislabelled_from table count 0 (map line_view lines) ≡ mislabelled_in (map line_view lines)
by_table table count lines alike e =
    lines_alike table (marks_of (map line_view lines)) alike count 0 (map line_view lines)
    ∙ ap (λ n. mislabelled_from (marks_of (map line_view lines)) n 0 (map line_view lines)) e

-- ---- lists

all_more : (test : Use → Bool) (xs ys : List Use) → list_all test (xs ++ ys) ≡ (list_all test xs && list_all test ys)
all_more test [] ys = refl
all_more test (x ∷ xs) ys = by (test x) (all_more test xs ys) where
  by : (b : Bool) → list_all test (xs ++ ys) ≡ (list_all test xs && list_all test ys) → (b && list_all test (xs ++ ys)) ≡ ((b && list_all test xs) && list_all test ys)
  by true e = e
  by false e = refl

pub all_of_both : (test : Use → Bool) (xs ys : List Use) → (list_all test xs && list_all test ys) ≡ list_all test (xs ++ ys)
all_of_both test xs ys = sym (all_more test xs ys)

-- ---- section by section

section_at : (lines : List Line) → 0 < length lines → sections_of lines ≡ take (section_size lines) lines ∷ sections_of (drop (section_size lines) lines)
section_at [] some = absurd (none some) where
  none : 0 < 0 → ⊥
  none e = omega (arith, e)
section_at (line ∷ lines) some = section_step line lines

module _ (lines : List the_line.Line) (before size : ℕ) (some : before < length lines) (size_is : size ≡ section_size (map line_view (drop before lines)))
    (within : size ≤ length (drop before lines)) where
  left : List Line
  left = map line_view (drop before lines)

  left_some : 0 < length left
  unfolding left
  left_some = omega (arith, some, length-map (drop before lines) line_view, length-drop before lines)

  first_lines : take size left ≡ map line_view (take size (drop before lines))
  unfolding left
  first_lines = take-map line_view size (drop before lines)

  others : drop size left ≡ map line_view (drop (before + size) lines)
  unfolding left
  others = drop-map line_view size (drop before lines) ∙ ap (map line_view) (drop-drop size before lines)

  first_count : length (map line_view (take size (drop before lines))) ≡ size
  first_count = length-map (take size (drop before lines)) line_view ∙ length-take-le size (drop before lines) within

  pub cut : sections_of (map line_view (drop before lines)) ≡ map line_view (take size (drop before lines)) ∷ sections_of (map line_view (drop (before + size) lines))
  unfolding left
  cut =
      section_at left left_some
      ∙ (ap (λ k. take k left ∷ sections_of (drop k left)) (sym size_is)
      ∙ (ap (λ ls. ls ∷ sections_of (drop size left)) first_lines ∙ ap (λ ls. map line_view (take size (drop before lines)) ∷ sections_of ls) others))

  after_cut : (o : Option ℕ) → o ≡ mislabelled_in (map line_view (take size (drop before lines)))
      → mislabelled_after before (sections_of (map line_view (drop before lines)))
      ≡ or_else (option_map (λ n. before + n) o) (mislabelled_after (before + size) (sections_of (map line_view (drop (before + size) lines))))
  unfolding mislabelled_after
  after_cut o e =
      ap (mislabelled_after before) cut
      ∙ (ap (λ p. or_else (option_map (λ n. before + n) p) (mislabelled_after (before + length (map line_view (take size (drop before lines)))) (sections_of (map line_view (drop (before + size) lines))))) (sym e)
      ∙ ap (λ k. or_else (option_map (λ n. before + n) o) (mislabelled_after (before + k) (sections_of (map line_view (drop (before + size) lines))))) first_count)

pub next_section : (lines : List the_line.Line) (before size : ℕ) → before < length lines → size ≡ section_size (map line_view (drop before lines)) → size ≤ length (drop before lines)
    → None ≡ mislabelled_in (map line_view (take size (drop before lines)))
    → mislabelled_after (before + size) (sections_of (map line_view (drop (before + size) lines))) ≡ mislabelled_after before (sections_of (map line_view (drop before lines)))
next_section lines before size some size_is within e = sym (after_cut lines before size some size_is within None e)

pub found_section : (lines : List the_line.Line) (before size place : ℕ) → before < length lines → size ≡ section_size (map line_view (drop before lines)) → size ≤ length (drop before lines)
    → Some place ≡ mislabelled_in (map line_view (take size (drop before lines)))
    → Some (before + place) ≡ mislabelled_after before (sections_of (map line_view (drop before lines)))
found_section lines before size place some size_is within e = sym (after_cut lines before size some size_is within (Some place) e)

pub no_section : (lines : List the_line.Line) (before : ℕ) → length lines ≤ before → None ≡ mislabelled_after before (sections_of (map line_view (drop before lines)))
unfolding mislabelled_after sections_of
no_section lines before past = sym (ap (λ ls. mislabelled_after before (sections_of (map line_view ls))) (drop_all before lines past))

-- ---- line by line

pub right_line : (marks : Marks) (count : ℕ) (lines : List the_line.Line) (place : ℕ) (line : the_line.Line) → place < length lines → line ≡ get_or lines place line
    → false ≡ is_mislabelled marks count place (line_view line)
    → mislabelled_from marks count (place + 1) (map line_view (drop (place + 1) lines)) ≡ mislabelled_from marks count place (map line_view (drop place lines))
unfolding mislabelled_from
right_line marks count lines place line within is e =
    let rest : drop place lines ≡ line ∷ drop (place + 1) lines = drop_more lines place line within ∙ ap (λ l. l ∷ drop (place + 1) lines) (sym is) in
    let one : suc place ≡ place + 1 = omega arith in
    sym (ap (λ ls. mislabelled_from marks count place (map line_view ls)) rest
    ∙ (ap (λ b. cond b (Some place) (mislabelled_from marks count (suc place) (map line_view (drop (place + 1) lines)))) (sym e)
    ∙ ap (λ p. mislabelled_from marks count p (map line_view (drop (place + 1) lines))) one))

pub wrong_line : (marks : Marks) (count : ℕ) (lines : List the_line.Line) (place : ℕ) (line : the_line.Line) → place < length lines → line ≡ get_or lines place line
    → true ≡ is_mislabelled marks count place (line_view line)
    → Some place ≡ mislabelled_from marks count place (map line_view (drop place lines))
unfolding mislabelled_from
wrong_line marks count lines place line within is e =
    let rest : drop place lines ≡ line ∷ drop (place + 1) lines = drop_more lines place line within ∙ ap (λ l. l ∷ drop (place + 1) lines) (sym is) in
    sym (ap (λ ls. mislabelled_from marks count place (map line_view ls)) rest
    ∙ ap (λ b. cond b (Some place) (mislabelled_from marks count (suc place) (map line_view (drop (place + 1) lines)))) (sym e))

pub no_line : (marks : Marks) (count : ℕ) (lines : List the_line.Line) (place : ℕ) → length lines ≤ place → None ≡ mislabelled_from marks count place (map line_view (drop place lines))
unfolding mislabelled_from
no_line marks count lines place past = sym (ap (λ ls. mislabelled_from marks count place (map line_view ls)) (drop_all place lines past))
