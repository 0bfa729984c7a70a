-- The lines with words, counted: they are as many as the lines of the text's source, and the numbers of lines are theirs.
use Rattle.std.proofs.Common.{◌≡◌, ℕ, suc, ◌+◌, Bool, true, false, cond, List, [], ◌∷◌, ◌++◌, length, map, Option, Some, None, Ok, Err, filter, refl, sym, ap, ◌∙◌, arith}
use Rattle.std.specs.List.{flat_map, AllByRecursion, enumerate_from}
use Rattle.std.specs.Str.Lines.{lines}
use Rattle.dj_asm_tokens.specs.trusted.Words.{Token, LineEnd, Placed, tokens_after, line_tokens, end_line}
use Rattle.dj_asm_source.specs.trusted.Lines.{Line}
use Rattle.dj_asm_source.specs.trusted.Sources.{Source, lines_of, IsTextOf}
use Rattle.dj_asm_source.specs.trusted.Labels.{ends_line, line_numbers}
use Rattle.dj_asm_source.specs.Order.{State, AtClass, is_final, after}
use Rattle.dj_asm_source.specs.Reading.{Read, Got, Wrong, Large}
use Rattle.dj_asm_source.specs.LineReading.{AreRead, missing, line, with_line, lines_from, lines_read}
use Rattle.dj_asm_source.specs.Unread.{number_if, numbers_with_words}
use Rattle.dj_asm_tokens.proofs.TokenLaws.{NoEnd, ended_at, tokens_plain}
use Rattle.dj_asm_source.proofs.TextLaws.{lines_are_read}

-- ---- the numbers of lines with words

abbrev is_line_end : Token → Bool
is_line_end LineEnd = true
is_line_end token = false

no_end : (token : Token) → (token ≡ LineEnd → ⊥) → is_line_end token ≡ false
no_end LineEnd n = absurd (n refl)
no_end token n = refl

skip_plain : (tokens more : List Placed) → AllByRecursion NoEnd tokens → filter ends_line (tokens ++ more) ≡ filter ends_line more
skip_plain [] more plain = refl
skip_plain (t ∷ ts) more plain = ap (λ b. cond b (t ∷ filter ends_line (ts ++ more)) (filter ends_line (ts ++ more))) (no_end t.token plain.0) ∙ skip_plain ts more plain.1

abbrev line_of : Placed → ℕ
line_of placed = placed.line

ended_numbers : (n : ℕ) (bytes : List ℕ) (tokens : List Placed) → AllByRecursion NoEnd tokens → map line_of (filter ends_line (ended_at n bytes tokens)) ≡ number_if n (ended_at n bytes tokens)
ended_numbers n bytes [] plain = refl
ended_numbers n bytes (first ∷ more) plain =
    ap (map line_of) (skip_plain (first ∷ more) (record { line = n; column = length bytes + 1; token = LineEnd } ∷ []) plain)

row_numbers : (l : ℕ × List ℕ) → map line_of (filter ends_line (line_tokens l)) ≡ number_if l.0 (line_tokens l)
row_numbers (n, bytes) = ended_numbers n bytes (tokens_after n 1 0 bytes) (tokens_plain n 1 0 bytes)

filter_append : (xs ys : List Placed) → filter ends_line (xs ++ ys) ≡ filter ends_line xs ++ filter ends_line ys
filter_append [] ys = refl
filter_append (x ∷ xs) ys = by (ends_line x) (filter_append xs ys) where
  by : (b : Bool) → filter ends_line (xs ++ ys) ≡ filter ends_line xs ++ filter ends_line ys
      → cond b (x ∷ filter ends_line (xs ++ ys)) (filter ends_line (xs ++ ys)) ≡ cond b (x ∷ filter ends_line xs) (filter ends_line xs) ++ filter ends_line ys
  by true e = ap (λ l. x ∷ l) e
  by false e = e

map_append : (xs ys : List Placed) → map line_of (xs ++ ys) ≡ map line_of xs ++ map line_of ys
map_append [] ys = refl
map_append (x ∷ xs) ys = ap (λ l. line_of x ∷ l) (map_append xs ys)

all_numbers : (all : List (ℕ × List ℕ)) → map line_of (filter ends_line (flat_map line_tokens all)) ≡ numbers_with_words all
all_numbers [] = refl
all_numbers (l ∷ all) =
    ap (map line_of) (filter_append (line_tokens l) (flat_map line_tokens all))
    ∙ (map_append (filter ends_line (line_tokens l)) (filter ends_line (flat_map line_tokens all))
    ∙ (ap (λ ns. ns ++ map line_of (filter ends_line (flat_map line_tokens all))) (row_numbers l) ∙ ap (λ ns. number_if l.0 (line_tokens l) ++ ns) (all_numbers all)))

-- the numbers of a text's lines are those of its lines with words
pub line_numbers_are : (text : List ℕ) → line_numbers text ≡ numbers_with_words (enumerate_from 1 (lines text))
line_numbers_are text = all_numbers (enumerate_from 1 (lines text))

-- ---- as many lines are read

-- one more is read where a line is got
record IsLonger (found : List Line) (more : AreRead) : Type 0 where
  first : Line
  others : List Line
  found_is : found ≡ first ∷ others
  read : more ≡ Ok others

abbrev ok_lines : List Line → AreRead
ok_lines found = Ok found

with_one : (l : Line) (r : AreRead) (found : List Line) → with_line l r ≡ Ok found → IsLonger found r
with_one l (Ok others) found e = record { first = l; others = others; found_is = cc; read = refl }
with_one l (Err x) found e = absurd cc

-- what is counted: a row with tokens is one
abbrev row_count : List Placed → ℕ
row_count [] = 0
row_count (here ∷ rest) = 1

abbrev rows_count : List (List Placed) → ℕ
rows_count [] = 0
rows_count (row ∷ rows) = row_count row + rows_count rows

none_read : (end : ℕ) (b : Bool) (found : List Line) → cond b (ok_lines []) (Err (missing end)) ≡ Ok found → length found ≡ 0
none_read end true found e = let same : [] ≡ found = cc in ap length (sym same)
none_read end false found e = absurd cc

counted : (end : ℕ) (state : Option State) (rows : List (List Placed)) (found : List Line) → lines_read end state rows ≡ Ok found → length found ≡ rows_count rows
unfolding lines_read
counted end None [] found e = absurd cc
counted end None (row ∷ rows) found e = absurd cc
counted end (Some state) [] found e = none_read end (is_final (Some state)) found e
counted end (Some state) ([] ∷ rows) found e = counted end (Some state) rows found e ∙ omega arith
counted end (Some state) ((here ∷ rest) ∷ rows) found e = from (line state (here ∷ rest)) e (λ next others read. counted end next rows others read) where
  from : (x : Read Line) → lines_from end state x (λ next. lines_read end next rows) ≡ Ok found
      → ((next : Option State) (others : List Line) → lines_read end next rows ≡ Ok others → length others ≡ rows_count rows) → length found ≡ 1 + rows_count rows
  from (Got l more) e ih =
      let w = with_one l (lines_read end (after state l) rows) found e in
      let one : length found ≡ suc (length w.others) = ap length w.found_is in
      omega (arith, one, ih (after state l) w.others w.read)
  from (Wrong more) e ih = absurd cc
  from (Large more) e ih = absurd cc

if_count : (n : ℕ) (row : List Placed) (more : List ℕ) → length (number_if n row ++ more) ≡ row_count row + length more
if_count n [] more = omega arith
if_count n (here ∷ rest) more = omega arith

numbers_count : (all : List (ℕ × List ℕ)) → rows_count (map line_tokens all) ≡ length (numbers_with_words all)
numbers_count [] = refl
numbers_count (l ∷ all) = ap (λ n. row_count (line_tokens l) + n) (numbers_count all) ∙ sym (if_count l.0 (line_tokens l) (numbers_with_words all))

-- the lines of a text's source have a number each
pub as_many_lines : (text : List ℕ) (s : Source) → IsTextOf text s → length (lines_of s) ≡ length (line_numbers text)
as_many_lines text s is =
    counted (end_line text) (Some AtClass) (map line_tokens (enumerate_from 1 (lines text))) (lines_of s) (lines_are_read text s is)
    ∙ (numbers_count (enumerate_from 1 (lines text)) ∙ ap length (sym (line_numbers_are text)))
