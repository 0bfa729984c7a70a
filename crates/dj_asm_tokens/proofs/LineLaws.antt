-- The tokens of a line, piece by piece.
use Rattle.std.proofs.Common.{◌≡◌, ℕ, zero, suc, ◌+◌, ◌-◌, ◌<◌, ◌≤◌, ◌==◌, Bool, true, false, not, cond, List, [], ◌∷◌, ◌++◌, drop, take, length, slice_index, refl, sym, ap, ◌∙◌, inl, inr, arith}
use Rattle.std.proofs.lemmas.List.{drop_all}
use Rattle.std.specs.List.{position_or_len, slice_split, onto_first}
use Rattle.std.specs.Str.Lines.{lines, lines_of_parts, strip_carriage_return}
use Rattle.std.proofs.lemmas.Bool.{cases_Bool, ne_eqb}
use Rattle.std.proofs.lemmas.List.Splits.{slice_split_first}
use Rattle.dj_asm_tokens.specs.trusted.Words.{Token, Placed, Piece, is_blank, piece_of, placed_at, tokens_after}

pub tokens_skip : (line column k : ℕ) (bytes : List ℕ) → tokens_after line column k bytes ≡ tokens_after line (column + k) 0 (drop k bytes)
unfolding tokens_after
tokens_skip line column zero bytes = ap (λ (n : ℕ). tokens_after line n 0 bytes) (omega arith)
tokens_skip line column (suc k) [] = refl
tokens_skip line column (suc k) (b ∷ bytes) =
    tokens_skip line (column + 1) k bytes ∙ ap (λ (n : ℕ). tokens_after line n 0 (drop k bytes)) (omega arith)

-- a blank takes a column
pub after_blank : (line column b : ℕ) (bytes : List ℕ) → is_blank b ≡ true → tokens_after line column 0 (b ∷ bytes) ≡ tokens_after line (column + 1) 0 bytes
unfolding tokens_after
after_blank line column b bytes e =
    ap (λ (t : Bool). cond t (tokens_after line (column + 1) 0 bytes) (placed_at line column (piece_of (b ∷ bytes)).tokens ++ tokens_after line (column + 1) ((piece_of (b ∷ bytes)).size - 1) bytes)) e

at_piece : (line column b : ℕ) (bytes : List ℕ) → is_blank b ≡ false
    → tokens_after line column 0 (b ∷ bytes) ≡ placed_at line column (piece_of (b ∷ bytes)).tokens ++ tokens_after line (column + 1) ((piece_of (b ∷ bytes)).size - 1) bytes
unfolding tokens_after
at_piece line column b bytes e =
    ap (λ (t : Bool). cond t (tokens_after line (column + 1) 0 bytes) (placed_at line column (piece_of (b ∷ bytes)).tokens ++ tokens_after line (column + 1) ((piece_of (b ∷ bytes)).size - 1) bytes)) e

past_piece : (line column size b : ℕ) (bytes : List ℕ) → 0 < size
    → tokens_after line (column + 1) (size - 1) bytes ≡ tokens_after line (column + size) 0 (drop size (b ∷ bytes))
past_piece line column zero b bytes some = absurd (omega arith)
past_piece line column (suc n) b bytes some =
    ap (λ (k : ℕ). tokens_after line (column + 1) k bytes) (omega arith)
    ∙ tokens_skip line (column + 1) n bytes
    ∙ ap (λ (k : ℕ). tokens_after line k 0 (drop n bytes)) (omega arith)

-- the piece at the beginning, and the tokens after it
pub at_word : (line column : ℕ) (bytes : List ℕ) (piece : Piece) → piece ≡ piece_of bytes → 0 < length bytes → is_blank (slice_index bytes 0) ≡ false → 0 < piece.size
    → tokens_after line column 0 bytes ≡ placed_at line column piece.tokens ++ tokens_after line (column + piece.size) 0 (drop piece.size bytes)
at_word line column [] piece same full word some = absurd (omega arith)
at_word line column (b ∷ bytes) piece same full word some =
    at_piece line column b bytes word
    ∙ ap (λ (p : Piece). placed_at line column p.tokens ++ tokens_after line (column + 1) (p.size - 1) bytes) (sym same)
    ∙ ap (λ (ts : List Placed). placed_at line column piece.tokens ++ ts) (past_piece line column piece.size b bytes some)

-- a comment ends its line
pub at_comment : (line column : ℕ) (bytes : List ℕ) (piece : Piece) → piece ≡ piece_of bytes → 0 < length bytes → is_blank (slice_index bytes 0) ≡ false → piece.tokens ≡ [] → piece.size ≡ length bytes
    → tokens_after line column 0 bytes ≡ []
unfolding tokens_after
at_comment line column bytes piece same full word none all =
    at_word line column bytes piece same full word (omega arith)
    ∙ ap (λ (ts : List Token). placed_at line column ts ++ tokens_after line (column + piece.size) 0 (drop piece.size bytes)) none
    ∙ ap (tokens_after line (column + piece.size) 0) (drop_all piece.size bytes (omega arith))

pub no_rest : (line column : ℕ) (bytes : List ℕ) → length bytes ≡ 0 → tokens_after line column 0 bytes ≡ []
unfolding tokens_after
no_rest line column [] none = refl
no_rest line column (b ∷ bytes) none = absurd (omega arith)

pub step_blank : (line column : ℕ) (bytes rest : List ℕ) → 1 ≤ length bytes → is_blank (slice_index bytes 0) ≡ true → rest ≡ drop 1 bytes
    → tokens_after line (column + 1) 0 rest ≡ tokens_after line column 0 bytes
step_blank line column [] rest full blank left = absurd (omega arith)
step_blank line column (b ∷ bytes) rest full blank left = ap (tokens_after line (column + 1) 0) left ∙ sym (after_blank line column b bytes blank)

pub step_token : (line column : ℕ) (bytes rest : List ℕ) (piece : Piece) (token : Token) → piece ≡ piece_of bytes → 0 < length bytes → is_blank (slice_index bytes 0) ≡ false → 0 < piece.size
    → piece.tokens ≡ token ∷ [] → rest ≡ drop piece.size bytes
    → tokens_after line column 0 bytes ≡ record { line = line; column = column; token = token } ∷ tokens_after line (column + piece.size) 0 rest
step_token line column bytes rest piece token same full word some one left =
    at_word line column bytes piece same full word some
    ∙ ap (λ (ts : List Token). placed_at line column ts ++ tokens_after line (column + piece.size) 0 (drop piece.size bytes)) one
    ∙ ap (λ (bs : List ℕ). record { line = line; column = column; token = token } ∷ tokens_after line (column + piece.size) 0 bs) (sym left)

-- ---- the lines of a text

abbrev pub is_feed : ℕ → Bool
is_feed b = b == 10

one_part : (text : List ℕ) → position_or_len is_feed text ≡ length text → slice_split is_feed text ≡ text ∷ []
one_part [] all = refl
one_part (b ∷ text) all =
    elim (cases_Bool (is_feed b)) [
      | inl e ↦ absurd (let n : cond (not true) (1 + position_or_len is_feed text) 0 ≡ suc (length text) = ap (λ (t : Bool). cond (not t) (1 + position_or_len is_feed text) 0) (sym e) ∙ all in omega arith)
      | inr e ↦
          let n : 1 + position_or_len is_feed text ≡ suc (length text) = ap (λ (t : Bool). cond (not t) (1 + position_or_len is_feed text) 0) (sym e) ∙ all in
          rw e (ap (onto_first b) (one_part text (omega arith)))
    ]

some_parts : (line : List ℕ) (b : ℕ) (parts : List (List ℕ)) → lines_of_parts (line ∷ onto_first b parts) ≡ strip_carriage_return line ∷ lines_of_parts (onto_first b parts)
some_parts line b [] = refl
some_parts line b (part ∷ parts) = refl

more_parts : (line rest : List ℕ) → lines_of_parts (line ∷ slice_split is_feed rest) ≡ strip_carriage_return line ∷ lines_of_parts (slice_split is_feed rest)
more_parts line [] = refl
more_parts line (b ∷ rest) =
    elim (cases_Bool (is_feed b)) [
      | inl e ↦ rw e refl
      | inr e ↦ rw e (some_parts line b (slice_split is_feed rest))
    ]

last_part : (b : ℕ) (text : List ℕ) → lines_of_parts ((b ∷ text) ∷ []) ≡ (b ∷ text) ∷ []
last_part b text = ap (λ (t : Bool). cond t [] ((b ∷ text) ∷ [])) (ne_eqb (suc (length text)) 0 (λ h. absurd (omega arith)))

pub last_line : (text rest : List ℕ) → 0 < length text → position_or_len is_feed text ≡ length text → length rest ≡ 0 → lines text ≡ text ∷ lines rest
last_line [] rest some all none = absurd (omega arith)
last_line (b ∷ text) (c ∷ rest) some all none = absurd (omega arith)
last_line (b ∷ text) [] some all none = ap lines_of_parts (one_part (b ∷ text) all) ∙ last_part b text

pub first_line : (text line rest : List ℕ) (size : ℕ) → size ≡ position_or_len is_feed text → size < length text → line ≡ strip_carriage_return (take size text)
    → rest ≡ drop (size + 1) text → lines text ≡ line ∷ lines rest
first_line text line rest size size_is some line_is rest_is =
    ap lines_of_parts (slice_split_first is_feed text 0 (omega arith))
    ∙ more_parts (take (position_or_len is_feed text) text) (drop (position_or_len is_feed text + 1) text)
    ∙ ap (λ (n : ℕ). strip_carriage_return (take n text) ∷ lines (drop (n + 1) text)) (sym size_is)
    ∙ ap (λ (l : List ℕ). l ∷ lines (drop (size + 1) text)) (sym line_is)
    ∙ ap (λ (r : List ℕ). line ∷ lines r) (sym rest_is)
