-- The lines that are left of a text, one after the other.
use Rattle.std.proofs.Common.{◌≡◌, ◌≢◌, ℕ, ◌+◌, ◌<◌, List, [], ◌∷◌, ◌++◌, length, map, Some, None, Ok, Err, refl, sym, ap, ◌∙◌, subst, arith, if◌then◌else◌}
use Rattle.std.specs.List.{enumerate_from}
use Rattle.std.specs.Str.Lines.{lines}
use Rattle.dj_asm_source.specs.declared.reader.Stop.{Stop}
use Rattle.dj_asm_source.specs.declared.reader.Stop.TheVariants as stops
use Rattle.dj_asm_source.specs.declared.unread.Row.TheVariants as rows
use Rattle.dj_asm_source.specs.declared.syntax.Line.{Line as TheLine}
use Rattle.dj_asm_tokens.specs.trusted.Words.{Placed, line_tokens}
use Rattle.dj_asm_source.specs.Order.{State, after, is_final}
use Rattle.dj_asm_source.specs.trusted.Lines.{Line}
use Rattle.dj_asm_source.specs.Reading.{Read, Got, Wrong, Large}
use Rattle.dj_asm_source.specs.LineReading.{AreRead, missing, line, with_line, lines_from, lines_read}
use Rattle.dj_asm_source.specs.Stops.{Stops}
use Rattle.dj_asm_source.specs.Unread.{UnreadLines, end_number, read_left, number_if, numbers_with_words, numbers_left, read_after, stop_fault, GivesLine, LeavesRow}

abbrev unread : State → ℕ → List ℕ → UnreadLines
unread state number rest = record { state = state; number = number; rest = rest }

-- the lines of a list
rows_left : ℕ → State → ℕ → List (List ℕ) → AreRead
rows_left end state number bytes = lines_read end (Some state) (map line_tokens (enumerate_from number bytes))

one_more : (number : ℕ) (bytes : List ℕ) (more : List (List ℕ)) → length (bytes ∷ more) + number ≡ length more + (number + 1)
one_more number bytes more = omega arith

-- a line without words
blank_row : (end : ℕ) (state : State) (tokens : List Placed) (others : List (List Placed)) → tokens ≡ [] → lines_read end (Some state) (tokens ∷ others) ≡ lines_read end (Some state) others
unfolding lines_read
blank_row end state [] others e = refl
blank_row end state (here ∷ rest) others e = absurd cc

pub blank : (state : State) (number : ℕ) (rest bytes more : List ℕ) → lines rest ≡ bytes ∷ lines more → line_tokens (number, bytes) ≡ []
    → read_left (unread state number rest) ≡ read_left (unread state (number + 1) more)
blank state number rest bytes more cut none =
    ap (λ all. lines_read (length all + number) (Some state) (map line_tokens (enumerate_from number all))) cut
    ∙ (ap (λ end. lines_read end (Some state) (map line_tokens (enumerate_from number (bytes ∷ lines more)))) (one_more number bytes (lines more))
    ∙ blank_row (length (lines more) + (number + 1)) state (line_tokens (number, bytes)) (map line_tokens (enumerate_from (number + 1) (lines more))) none)

-- a line with words
worded_row : (end : ℕ) (state : State) (tokens : List Placed) (here : Placed) (rest : List Placed) (others : List (List Placed)) → tokens ≡ here ∷ rest
    → lines_read end (Some state) (tokens ∷ others) ≡ lines_from end state (line state (here ∷ rest)) (λ next. lines_read end next others)
unfolding lines_read
worded_row end state [] here rest others e = absurd cc
worded_row end state (x ∷ xs) here rest others e =
    ap (λ (tokens : List Placed). lines_from end state (line state tokens) (λ next. lines_read end next others)) e

pub worded : (state : State) (number : ℕ) (rest bytes more : List ℕ) (here : Placed) (tokens : List Placed) → lines rest ≡ bytes ∷ lines more → line_tokens (number, bytes) ≡ here ∷ tokens
    → read_left (unread state number rest) ≡ read_after (unread state (number + 1) more) (line state (here ∷ tokens))
worded state number rest bytes more here tokens cut some =
    ap (λ all. lines_read (length all + number) (Some state) (map line_tokens (enumerate_from number all))) cut
    ∙ (ap (λ end. lines_read end (Some state) (map line_tokens (enumerate_from number (bytes ∷ lines more)))) (one_more number bytes (lines more))
    ∙ worded_row (length (lines more) + (number + 1)) state (line_tokens (number, bytes)) here tokens (map line_tokens (enumerate_from (number + 1) (lines more))) some)

-- no line
ended_rows : (end number : ℕ) (state : State) (all : List (List ℕ)) → all ≡ [] → lines_read end (Some state) (map line_tokens (enumerate_from number all)) ≡ (if is_final (Some state) then Ok [] else Err (missing end))
unfolding lines_read
ended_rows end number state [] e = refl
ended_rows end number state (x ∷ xs) e = absurd cc

no_more : (number : ℕ) → 0 + number ≡ number
no_more number = omega arith

pub ended : (state : State) (number : ℕ) (rest : List ℕ) → lines rest ≡ [] → read_left (unread state number rest) ≡ (if is_final (Some state) then Ok [] else Err (missing number))
ended state number rest none =
    ended_rows (length (lines rest) + number) number state (lines rest) none
    ∙ (ap (λ (all : List (List ℕ)). if is_final (Some state) then Ok [] else Err (missing (length all + number))) none
    ∙ ap (λ end. if is_final (Some state) then Ok [] else Err (missing end)) (no_more number))

-- what a line is after which others are left
pub got_next : (u : UnreadLines) (first : Line) (rest : List Placed) (next : State) → after u.state first ≡ Some next
    → read_after u (Got first rest) ≡ with_line first (read_left (unread next u.number u.rest))
got_next u first rest next e = ap (λ state. with_line first (lines_read (end_number u) state (map line_tokens (enumerate_from u.number (lines u.rest))))) e

none_left : (end : ℕ) (others : List (List Placed)) → lines_read end None others ≡ Err (missing end)
unfolding lines_read
none_left end others = refl

pub got_last : (u : UnreadLines) (first : Line) (rest : List Placed) → after u.state first ≡ None → read_after u (Got first rest) ≡ Err (missing (end_number u))
got_last u first rest e =
    ap (λ state. with_line first (lines_read (end_number u) state (map line_tokens (enumerate_from u.number (lines u.rest))))) e
    ∙ ap (with_line first) (none_left (end_number u) (map line_tokens (enumerate_from u.number (lines u.rest))))

pub stopped : (u : UnreadLines) (stop : Stop) (read : Read Line) → Stops stop read → stop ≢ stops.Memory → read_after u read ≡ Err (stop_fault (end_number u) stop)
stopped u stops.Memory read is other = absurd (other refl)
stopped u (stops.Wrong line column) (Got first rest) is other = absurd is
stopped u (stops.Wrong line column) (Wrong []) is other = absurd cc
stopped u (stops.Wrong line column) (Wrong (here ∷ rest)) is other = ap (λ stop. Err (stop_fault (end_number u) stop)) (sym is)
stopped u (stops.Wrong line column) (Large []) is other = absurd cc
stopped u (stops.Wrong line column) (Large (here ∷ rest)) is other = absurd cc
stopped u (stops.Large line) (Got first rest) is other = absurd is
stopped u (stops.Large line) (Wrong []) is other = absurd cc
stopped u (stops.Large line) (Wrong (here ∷ rest)) is other = absurd cc
stopped u (stops.Large line) (Large []) is other = absurd cc
stopped u (stops.Large line) (Large (here ∷ rest)) is other = ap (λ stop. Err (stop_fault (end_number u) stop)) (sym is)
stopped u stops.Missing (Got first rest) is other = absurd is
stopped u stops.Missing (Wrong []) is other = refl
stopped u stops.Missing (Wrong (here ∷ rest)) is other = absurd cc
stopped u stops.Missing (Large []) is other = refl
stopped u stops.Missing (Large (here ∷ rest)) is other = absurd cc

pub stopped_line : (u new : UnreadLines) (stop : Stop) (read : Read Line) → Stops stop read → GivesLine (read_after u read) new (Err (stop_fault (end_number u) stop))
stopped_line u new stops.Memory read is = tt
stopped_line u new (stops.Wrong line column) read is = stopped u (stops.Wrong line column) read is (λ e. absurd cc)
stopped_line u new (stops.Large line) read is = stopped u (stops.Large line) read is (λ e. absurd cc)
stopped_line u new stops.Missing read is = stopped u stops.Missing read is (λ e. absurd cc)

-- ---- the numbers that are left, and the bytes

-- of a first line and those after it
numbers_first : (number : ℕ) (rest bytes more : List ℕ) → lines rest ≡ bytes ∷ lines more
    → numbers_with_words (enumerate_from number (lines rest)) ≡ number_if number (line_tokens (number, bytes)) ++ numbers_with_words (enumerate_from (number + 1) (lines more))
numbers_first number rest bytes more cut = ap (λ all. numbers_with_words (enumerate_from number all)) cut

-- those that are left are these
same_left : (new : UnreadLines) (number : ℕ) (more : List ℕ) → new.number ≡ number → new.rest ≡ more → numbers_with_words (enumerate_from number (lines more)) ≡ numbers_left new
same_left new number more n r =
    ap (λ k. numbers_with_words (enumerate_from k (lines more))) (sym n) ∙ ap (λ bytes. numbers_with_words (enumerate_from new.number (lines bytes))) (sym r)

pub said_leaves : (old new : UnreadLines) (bytes more : List ℕ) (here : Placed) (tokens : List Placed) (line : TheLine) → lines old.rest ≡ bytes ∷ lines more
    → line_tokens (old.number, bytes) ≡ here ∷ tokens → length more < length old.rest → new.number ≡ old.number + 1 → new.rest ≡ more → LeavesRow old new (Ok (rows.Said old.number line))
said_leaves old new bytes more here tokens line cut some fewer n r = (
  numbers_first old.number old.rest bytes more cut
      ∙ ap (λ ts. number_if old.number ts ++ numbers_with_words (enumerate_from (old.number + 1) (lines more))) some
      ∙ ap (λ ns. old.number ∷ ns) (same_left new (old.number + 1) more n r),
  subst (λ bytes. length bytes < length old.rest) (sym r) fewer,
)

pub blank_leaves : (old new : UnreadLines) (bytes more : List ℕ) → lines old.rest ≡ bytes ∷ lines more → line_tokens (old.number, bytes) ≡ [] → length more < length old.rest
    → new.number ≡ old.number + 1 → new.rest ≡ more → LeavesRow old new (Ok rows.Blank)
blank_leaves old new bytes more cut none fewer n r = (
  numbers_first old.number old.rest bytes more cut
      ∙ ap (λ ts. number_if old.number ts ++ numbers_with_words (enumerate_from (old.number + 1) (lines more))) none
      ∙ same_left new (old.number + 1) more n r,
  subst (λ bytes. length bytes < length old.rest) (sym r) fewer,
)

pub none_leaves : (old new : UnreadLines) → lines old.rest ≡ [] → LeavesRow old new (Ok rows.End)
none_leaves old new none = ap (λ all. numbers_with_words (enumerate_from old.number all)) none
