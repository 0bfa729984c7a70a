-- A line's tokens end with its end, and it stands nowhere else; a line without words has none.
use Rattle.std.proofs.Common.{◌≡◌, ◌≢◌, ◌⊎◌, ℕ, zero, suc, ◌+◌, Bool, true, false, cond, List, [], ◌∷◌, ◌++◌, length, take, drop, Some, None, not, refl, subst, inl, inr}
use Rattle.std.specs.Prelude.{◌-◌, ◌==◌, ◌||◌, slice_index, if◌then◌else◌}
use Rattle.std.specs.List.{AllByRecursion, list_all, prefix_len}
use Rattle.dj_asm_tokens.specs.trusted.Words.{is_blank, is_plain, word_units, Token, Word, Quoted, LineEnd, Placed, Piece, Opened, bad, word_piece, string_piece, comment_piece, piece_of, placed_at, string_units, tokens_after, line_tokens}

abbrev pub NoEnd : Placed → Type 0
NoEnd placed = placed.token ≢ LineEnd

abbrev NoEnds : Piece → Type 0
NoEnds piece = AllByRecursion (λ t. t ≢ LineEnd) piece.tokens

bad_plain : (bytes : List ℕ) → NoEnds (bad bytes)
bad_plain bytes = (λ e. absurd cc, tt)

either : (b : Bool) (x y : Piece) → NoEnds x → NoEnds y → NoEnds (cond b x y)
either true x y p q = p
either false x y p q = q

-- a string's piece, by what its units are
abbrev string_of : List ℕ → Opened → Piece
string_of bytes None = bad bytes
string_of bytes (Some (units, more)) =
    if (length more == 0) || is_blank (slice_index more 0) then record { tokens = Quoted units ∷ []; size = length bytes - length more }
    else bad bytes

opened_plain : (bytes : List ℕ) (o : Opened) → NoEnds (string_of bytes o)
opened_plain bytes None = bad_plain bytes
opened_plain bytes (Some (units, more)) =
    either ((length more == 0) || is_blank (slice_index more 0)) (record { tokens = Quoted units ∷ []; size = length bytes - length more }) (bad bytes) (λ e. absurd cc, tt) (bad_plain bytes)

string_plain : (bytes : List ℕ) → NoEnds (string_piece bytes)
string_plain bytes = opened_plain bytes (string_units 0 (drop 1 bytes))

word_plain : (bytes : List ℕ) → NoEnds (word_piece bytes)
word_plain bytes =
    let size = prefix_len (λ b. not (is_blank b)) bytes in
    either (list_all is_plain (take size bytes)) (record { tokens = Word (word_units 0 (take size bytes)) ∷ []; size = size }) (bad bytes) (λ e. absurd cc, tt) (bad_plain bytes)

comment_plain : (bytes : List ℕ) → NoEnds (comment_piece bytes)
comment_plain bytes = either (list_all (λ b. is_plain b || is_blank b) bytes) (record { tokens = []; size = length bytes }) (bad bytes) tt (bad_plain bytes)

piece_plain : (bytes : List ℕ) → NoEnds (piece_of bytes)
piece_plain bytes =
    either (slice_index bytes 0 == 35) (comment_piece bytes) (cond (slice_index bytes 0 == 34) (string_piece bytes) (word_piece bytes)) (comment_plain bytes)
    (either (slice_index bytes 0 == 34) (string_piece bytes) (word_piece bytes) (string_plain bytes) (word_plain bytes))

placed_plain : (line column : ℕ) (tokens : List Token) (more : List Placed) → AllByRecursion (λ t. t ≢ LineEnd) tokens → AllByRecursion NoEnd more → AllByRecursion NoEnd (placed_at line column tokens ++ more)
placed_plain line column [] more none others = others
placed_plain line column (t ∷ ts) more none others = (none.0, placed_plain line column ts more none.1 others)

choose_plain : (b : Bool) (xs ys : List Placed) → AllByRecursion NoEnd xs → AllByRecursion NoEnd ys → AllByRecursion NoEnd (cond b xs ys)
choose_plain true xs ys p q = p
choose_plain false xs ys p q = q

pub tokens_plain : (line column skipped : ℕ) (bytes : List ℕ) → AllByRecursion NoEnd (tokens_after line column skipped bytes)
unfolding tokens_after
tokens_plain line column zero [] = tt
tokens_plain line column (suc skipped) [] = tt
tokens_plain line column (suc skipped) (b ∷ bs) = tokens_plain line (column + 1) skipped bs
tokens_plain line column zero (b ∷ bs) =
    choose_plain (is_blank b) (tokens_after line (column + 1) 0 bs) (placed_at line column (piece_of (b ∷ bs)).tokens ++ tokens_after line (column + 1) ((piece_of (b ∷ bs)).size - 1) bs)
    (tokens_plain line (column + 1) 0 bs)
    (placed_plain line column (piece_of (b ∷ bs)).tokens (tokens_after line (column + 1) ((piece_of (b ∷ bs)).size - 1) bs) (piece_plain (b ∷ bs))
    (tokens_plain line (column + 1) ((piece_of (b ∷ bs)).size - 1) bs))

-- ---- rows

-- the tokens of a line with words
pub record IsRow (tokens : List Placed) : Type 0 where
  pub body : List Placed
  pub last : Placed
  pub parts : tokens ≡ body ++ last ∷ []
  pub ended : last.token ≡ LineEnd
  pub plain : AllByRecursion NoEnd body

abbrev pub IsRowOrNone : List Placed → Type 0
IsRowOrNone tokens = (tokens ≡ []) ⊎ IsRow tokens

-- as line_tokens ends a line
abbrev pub ended_at : ℕ → List ℕ → List Placed → List Placed
ended_at line bytes [] = []
ended_at line bytes (first ∷ more) = first ∷ more ++ record { line = line; column = length bytes + 1; token = LineEnd } ∷ []

ended_row : (line : ℕ) (bytes : List ℕ) (tokens : List Placed) → AllByRecursion NoEnd tokens → IsRowOrNone (ended_at line bytes tokens)
ended_row line bytes [] plain = inl refl
ended_row line bytes (first ∷ more) plain =
    inr (record { body = first ∷ more; last = record { line = line; column = length bytes + 1; token = LineEnd }; parts = refl; ended = refl; plain = plain })

pub line_row : (line : ℕ × List ℕ) → IsRowOrNone (line_tokens line)
line_row (line, bytes) = ended_row line bytes (tokens_after line 1 0 bytes) (tokens_plain line 1 0 bytes)

-- nothing of a row stands after the end of its line
pub at_end : (body : List Placed) (last : Placed) (us : List Placed) (e : Placed) (rest : List Placed) → AllByRecursion NoEnd body → e.token ≡ LineEnd → us ++ e ∷ rest ≡ body ++ last ∷ [] → rest ≡ []
at_end [] last [] e rest plain ended same = cc
at_end [] last (u ∷ []) e rest plain ended same = absurd cc
at_end [] last (u ∷ v ∷ us) e rest plain ended same = absurd cc
at_end (b ∷ body) last [] e rest plain ended same = let first : e ≡ b = cc in absurd (plain.0 (subst (λ (p : Placed). p.token ≡ LineEnd) first ended))
at_end (b ∷ body) last (u ∷ us) e rest plain ended same = at_end body last us e rest plain.1 ended (tail u b (us ++ e ∷ rest) (body ++ last ∷ []) same) where
  tail : (x y : Placed) (xs ys : List Placed) → x ∷ xs ≡ y ∷ ys → xs ≡ ys
  tail x y xs ys e = cc
