-- The units of a text's words and strings have sixteen bits, so what they spell is modified UTF-8.
use Rattle.std.proofs.Common.{◌≡◌, ℕ, zero, suc, ◌+◌, ◌-◌, ◌^◌, ◌<◌, ◌≤◌, true, cond, leb, not, List, [], ◌∷◌, ◌++◌, length, map, take, drop, Some, None, inl, inr, subst, arith}
use Rattle.std.specs.Prelude.{◌==◌, ◌||◌, slice_index, slice_range, nat_le}
use Rattle.std.specs.List.{flat_map, AllByRecursion, AllZip, list_all, prefix_len, enumerate_from}
use Rattle.std.specs.Char.{digit_value, is_digit}
use Rattle.std.specs.Str.Parse.{AllDigits, digits_value}
use Rattle.std.specs.Str.Lines.{lines}
use Rattle.std.proofs.lemmas.Bool.{and_parts, or_cases, leb-true, ltb-true, eqb-true, cond_both}
use Rattle.std.proofs.lemmas.List.{length-take, length-drop}
use Rattle.std.proofs.Math.Nat.{pow-le-pow_right}
use Rattle.std.proofs.lemmas.Int.Digits.{digits_value-lt}
use Rattle.dj_names.specs.trusted.ModifiedUtf8.{IsModifiedUtf8}
use Rattle.dj_asm_tokens.specs.trusted.Words.{is_blank, is_plain, begins_escape, escaped_unit, word_units, Opened, with_unit, string_units, Token, Word, Quoted, LineEnd, Placed, Piece, bad, word_piece, string_piece, comment_piece, piece_of, placed_at, tokens_after, line_tokens, tokens_of}
use Rattle.dj_asm_source.specs.trusted.Items.{Item, Exactly, Flags, Number, Called, Text, Ended, Says}
use Rattle.dj_asm_source.specs.trusted.Lines.{Line, items_of}
use Rattle.dj_asm_source.specs.trusted.Sources.{Source, line_items, lines_of, sentence, token_of, IsTextOf}
use Rattle.dj_asm_pool.proofs.Members.{each_append, each_first, each_last}

abbrev pub Sixteen : List ℕ → Type 0
Sixteen units = AllByRecursion (λ u. u < 2 ^ 16) units

-- ---- words and strings

are_digits : (radix : ℕ) (digits : List ℕ) → list_all (λ b. is_digit b radix) digits ≡ true → AllDigits radix digits
are_digits radix [] h = tt
are_digits radix (c ∷ cs) h = let p = and_parts (is_digit c radix) (list_all (λ b. is_digit b radix) cs) h in (ltb-true (digit_value c) radix p.0, are_digits radix cs p.1)

escaped_small : (bytes : List ℕ) → begins_escape bytes ≡ true → escaped_unit bytes < 2 ^ 16
escaped_small bytes e =
    let p = and_parts _ (list_all (λ b. is_digit b 16) (slice_range bytes 2 6)) e in
    let q = and_parts _ (nat_le 6 (length bytes)) p.0 in
    let long = leb-true 6 (length bytes) q.1 in
    let four : length (slice_range bytes 2 6) ≡ 4 = omega (arith, long, length-take 4 (drop 2 bytes), length-drop 2 bytes) in
    let small : escaped_unit bytes < 16 ^ length (slice_range bytes 2 6) = digits_value-lt 16 (slice_range bytes 2 6) (are_digits 16 (slice_range bytes 2 6) p.1) in
    subst (λ (k : ℕ). escaped_unit bytes < 16 ^ k) four small

plain_small : (b : ℕ) → is_plain b ≡ true → b < 2 ^ 16
plain_small b e = let h = leb-true b 126 (and_parts (leb 32 b) (leb b 126) e).1 in omega (arith, h)

word_fits : (skipped : ℕ) (bytes : List ℕ) → list_all is_plain bytes ≡ true → Sixteen (word_units skipped bytes)
unfolding word_units
word_fits zero [] h = tt
word_fits (suc skipped) [] h = tt
word_fits (suc skipped) (b ∷ bs) h = word_fits skipped bs (and_parts (is_plain b) (list_all is_plain bs) h).1
word_fits zero (b ∷ bs) h =
    let p = and_parts (is_plain b) (list_all is_plain bs) h in
    cond_both (begins_escape (b ∷ bs)) (escaped_unit (b ∷ bs) ∷ word_units 5 bs) (b ∷ word_units 0 bs) Sixteen
    (λ escape. (escaped_small (b ∷ bs) escape, word_fits 5 bs p.1))
    (λ plain. (plain_small b p.0, word_fits 0 bs p.1))

abbrev OpenedFits : Opened → Type 0
OpenedFits None = Unit {0}
OpenedFits (Some (units, more)) = Sixteen units

with_fits : (u : ℕ) (o : Opened) → u < 2 ^ 16 → OpenedFits o → OpenedFits (with_unit u o)
with_fits u None lt h = tt
with_fits u (Some (units, more)) lt h = (lt, h)

quoted_small : (b : ℕ) → ((b == 34) || (b == 92)) ≡ true → b < 2 ^ 16
quoted_small b e = elim (or_cases (b == 34) (b == 92) e) [ inl h ↦ let is = eqb-true b 34 h in omega (arith, is) | inr h ↦ let is = eqb-true b 92 h in omega (arith, is) ]

abbrev after_slash : List ℕ → Opened
after_slash bs = cond ((slice_index bs 0 == 34) || (slice_index bs 0 == 92)) (with_unit (slice_index bs 0) (string_units 1 bs)) None

abbrev plain_next : ℕ → List ℕ → Opened
plain_next b bs = cond (is_plain b) (with_unit b (string_units 0 bs)) None

string_fits : (skipped : ℕ) (bytes : List ℕ) → OpenedFits (string_units skipped bytes)
unfolding string_units
string_fits zero [] = tt
string_fits (suc skipped) [] = tt
string_fits (suc skipped) (b ∷ bs) = string_fits skipped bs
string_fits zero (b ∷ bs) =
    cond_both (b == 34) (Some ([], bs)) (cond (begins_escape (b ∷ bs)) (with_unit (escaped_unit (b ∷ bs)) (string_units 5 bs)) (cond (b == 92) (after_slash bs) (plain_next b bs))) OpenedFits
    (λ end. tt)
    (λ further. cond_both (begins_escape (b ∷ bs)) (with_unit (escaped_unit (b ∷ bs)) (string_units 5 bs)) (cond (b == 92) (after_slash bs) (plain_next b bs)) OpenedFits
    (λ escape. with_fits (escaped_unit (b ∷ bs)) (string_units 5 bs) (escaped_small (b ∷ bs) escape) (string_fits 5 bs))
    (λ none. cond_both (b == 92) (after_slash bs) (plain_next b bs) OpenedFits
    (λ slash. cond_both ((slice_index bs 0 == 34) || (slice_index bs 0 == 92)) (with_unit (slice_index bs 0) (string_units 1 bs)) None OpenedFits
    (λ quoted. with_fits (slice_index bs 0) (string_units 1 bs) (quoted_small (slice_index bs 0) quoted) (string_fits 1 bs))
    (λ none. tt))
    (λ none. cond_both (is_plain b) (with_unit b (string_units 0 bs)) None OpenedFits
    (λ plain. with_fits b (string_units 0 bs) (plain_small b plain) (string_fits 0 bs))
    (λ none. tt))))

-- ---- tokens

abbrev pub TokenFits : Token → Type 0
TokenFits (Word units) = Sixteen units
TokenFits (Quoted units) = Sixteen units
TokenFits token = Unit {0}

abbrev PieceFits : Piece → Type 0
PieceFits piece = AllByRecursion TokenFits piece.tokens

-- a string's piece, by what its units are
abbrev string_of : List ℕ → Opened → Piece
string_of bytes None = bad bytes
string_of bytes (Some (units, more)) =
    cond ((length more == 0) || is_blank (slice_index more 0)) (record { tokens = Quoted units ∷ []; size = length bytes - length more }) (bad bytes)

opened_fits : (bytes : List ℕ) (o : Opened) → OpenedFits o → PieceFits (string_of bytes o)
opened_fits bytes None h = (tt, tt)
opened_fits bytes (Some (units, more)) h =
    cond_both ((length more == 0) || is_blank (slice_index more 0)) (record { tokens = Quoted units ∷ []; size = length bytes - length more }) (bad bytes) PieceFits (λ so. (h, tt)) (λ other. (tt, tt))

string_piece_fits : (bytes : List ℕ) → PieceFits (string_piece bytes)
string_piece_fits bytes = opened_fits bytes (string_units 0 (drop 1 bytes)) (string_fits 0 (drop 1 bytes))

word_piece_fits : (bytes : List ℕ) → PieceFits (word_piece bytes)
word_piece_fits bytes =
    let size = prefix_len (λ b. not (is_blank b)) bytes in
    cond_both (list_all is_plain (take size bytes)) (record { tokens = Word (word_units 0 (take size bytes)) ∷ []; size = size }) (bad bytes) PieceFits
    (λ plain. (word_fits 0 (take size bytes) plain, tt)) (λ other. (tt, tt))

comment_fits : (bytes : List ℕ) → PieceFits (comment_piece bytes)
comment_fits bytes = cond_both (list_all (λ b. is_plain b || is_blank b) bytes) (record { tokens = []; size = length bytes }) (bad bytes) PieceFits (λ so. tt) (λ other. (tt, tt))

piece_fits : (bytes : List ℕ) → PieceFits (piece_of bytes)
piece_fits bytes =
    cond_both (slice_index bytes 0 == 35) (comment_piece bytes) (cond (slice_index bytes 0 == 34) (string_piece bytes) (word_piece bytes)) PieceFits (λ so. comment_fits bytes)
    (λ other. cond_both (slice_index bytes 0 == 34) (string_piece bytes) (word_piece bytes) PieceFits (λ so. string_piece_fits bytes) (λ other. word_piece_fits bytes))

abbrev PlacedFits : Placed → Type 0
PlacedFits placed = TokenFits placed.token

placed_fits : (line column : ℕ) (tokens : List Token) → AllByRecursion TokenFits tokens → AllByRecursion PlacedFits (placed_at line column tokens)
placed_fits line column [] h = tt
placed_fits line column (t ∷ ts) h = (h.0, placed_fits line column ts h.1)

tokens_fit : (line column skipped : ℕ) (bytes : List ℕ) → AllByRecursion PlacedFits (tokens_after line column skipped bytes)
unfolding tokens_after
tokens_fit line column zero [] = tt
tokens_fit line column (suc skipped) [] = tt
tokens_fit line column (suc skipped) (b ∷ bs) = tokens_fit line (column + 1) skipped bs
tokens_fit line column zero (b ∷ bs) =
    let rest = tokens_after line (column + 1) ((piece_of (b ∷ bs)).size - 1) bs in
    cond_both (is_blank b) (tokens_after line (column + 1) 0 bs) (placed_at line column (piece_of (b ∷ bs)).tokens ++ rest) (AllByRecursion PlacedFits)
    (λ blank. tokens_fit line (column + 1) 0 bs)
    (λ other. each_append PlacedFits (placed_at line column (piece_of (b ∷ bs)).tokens) rest (placed_fits line column (piece_of (b ∷ bs)).tokens (piece_fits (b ∷ bs)))
    (tokens_fit line (column + 1) ((piece_of (b ∷ bs)).size - 1) bs))

-- as line_tokens ends a line
abbrev ended_at : ℕ → List ℕ → List Placed → List Placed
ended_at line bytes [] = []
ended_at line bytes (first ∷ more) = first ∷ more ++ record { line = line; column = length bytes + 1; token = LineEnd } ∷ []

ended_fits : (line : ℕ) (bytes : List ℕ) (tokens : List Placed) → AllByRecursion PlacedFits tokens → AllByRecursion PlacedFits (ended_at line bytes tokens)
ended_fits line bytes [] h = tt
ended_fits line bytes (first ∷ more) h = each_append PlacedFits (first ∷ more) (record { line = line; column = length bytes + 1; token = LineEnd } ∷ []) h (tt, tt)

line_fits : (line : ℕ × List ℕ) → AllByRecursion PlacedFits (line_tokens line)
line_fits (line, bytes) = ended_fits line bytes (tokens_after line 1 0 bytes) (tokens_fit line 1 0 bytes)

lines_fit : (all : List (ℕ × List ℕ)) → AllByRecursion PlacedFits (flat_map line_tokens all)
lines_fit [] = tt
lines_fit (l ∷ all) = each_append PlacedFits (line_tokens l) (flat_map line_tokens all) (line_fits l) (lines_fit all)

-- ---- items

abbrev pub ItemFits : Item → Type 0
ItemFits (Flags flags) = flags < 2 ^ 16
ItemFits (Called prefix text) = IsModifiedUtf8 text
ItemFits (Text units) = Sixteen units
ItemFits item = Unit {0}

item_fits : (item : Item) (token : Token) → Says item token → TokenFits token → ItemFits item
item_fits (Exactly units) token says fits = tt
item_fits (Flags flags) token says fits =
    let value = says.value in
    let lt : digits_value 16 says.digits < 16 ^ length says.digits = digits_value-lt 16 says.digits says.numeral.1 in
    let le : 16 ^ length says.digits ≤ 65536 = pow-le-pow_right {n = 16} (omega arith) says.few in
    omega (arith, value, lt, le)
item_fits (Number number) token says fits = tt
item_fits (Called prefix text) token says fits =
    let word : Sixteen (prefix ++ says.units) = subst TokenFits says.word fits in
    (says.units, record { text_is = says.value; units_fit = each_last (λ u. u < 2 ^ 16) prefix says.units word })
item_fits (Text units) token says fits = subst TokenFits says fits
item_fits Ended token says fits = tt

items_fit : (items : List Item) (tokens : List Placed) → AllZip Says items (map token_of tokens) → AllByRecursion PlacedFits tokens → AllByRecursion ItemFits items
items_fit [] [] says fits = tt
items_fit [] (t ∷ ts) says fits = tt
items_fit (x ∷ items) [] says fits = absurd says
items_fit (x ∷ items) (t ∷ ts) says fits = (item_fits x t.token says.0 fits.0, items_fit items ts says.1 fits.1)

-- the items of a line have sixteen bits
abbrev pub LineFits : Line → Type 0
LineFits line = AllByRecursion ItemFits (items_of line)

each_line : (all : List Line) → AllByRecursion ItemFits (flat_map line_items all) → AllByRecursion LineFits all
each_line [] fits = tt
each_line (line ∷ all) fits =
    (each_first ItemFits (items_of line) (Ended ∷ []) (each_first ItemFits (line_items line) (flat_map line_items all) fits), each_line all (each_last ItemFits (line_items line) (flat_map line_items all) fits))

-- names and strings of a text's source are modified UTF-8
pub texts_fit : (text : List ℕ) (s : Source) → IsTextOf text s → AllByRecursion LineFits (lines_of s)
texts_fit text s is = each_line (lines_of s) (items_fit (sentence s) (tokens_of text) is.read (lines_fit (enumerate_from 1 (lines text))))
