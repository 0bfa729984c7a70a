-- The words of a text, and where they are: how bytes make words, strings and comments. A line is ended by a line feed; a carriage return right
-- before it is dropped; and the last line may lack its line feed. Blanks, which are spaces and tabs, separate words.
use Rattle.std.specs.Prelude.{ℕ, zero, suc, ◌+◌, ◌-◌, ◌==◌, ◌&&◌, ◌||◌, Bool, not, List, [], ◌∷◌, ◌++◌, length, take, drop, Option, Some, None, slice_index, slice_range, nat_le, if◌then◌else◌}
use Rattle.std.specs.Option.{option_map}
use Rattle.std.specs.List.{flat_map, list_all, prefix_len, enumerate_from}
use Rattle.std.specs.Char.{is_digit}
use Rattle.std.specs.Str.Parse.{digits_value}
use Rattle.std.specs.Str.Lines.{lines}

-- ---- bytes

abbrev pub is_blank : ℕ → Bool
is_blank b = (b == 32) || (b == 9)

-- a space, or a printing byte of ASCII
abbrev pub is_plain : ℕ → Bool
is_plain b = nat_le 32 b && nat_le b 126

-- the bytes begin with `\u` and four hexadecimal digits
abbrev pub begins_escape : List ℕ → Bool
begins_escape bytes =
    (slice_index bytes 0 == 92) && (slice_index bytes 1 == 117) && nat_le 6 (length bytes)
    && list_all (λ b. is_digit b 16) (slice_range bytes 2 6)

-- the one UTF-16 unit that the escape at the beginning means
abbrev pub escaped_unit : List ℕ → ℕ
escaped_unit bytes = digits_value 16 (slice_range bytes 2 6)

-- ---- words and strings

-- the units of a word, once skipped bytes are passed over: an escape is its unit, and any other byte is itself
unfoldable pub word_units : ℕ → List ℕ → List ℕ
word_units skipped [] = []
word_units (suc skipped) (b ∷ bs) = word_units skipped bs
word_units zero (b ∷ bs) = if begins_escape (b ∷ bs) then escaped_unit (b ∷ bs) ∷ word_units 5 bs else b ∷ word_units 0 bs

-- a string's units, and the bytes after it; none where the string isn't closed or has bytes that it may not have
abbrev pub Opened : Type 0
Opened = Option (List ℕ × List ℕ)

abbrev pub with_unit : ℕ → Opened → Opened
with_unit u = option_map (λ (opened : List ℕ × List ℕ). (u ∷ opened.0, opened.1))

-- a string's bytes after its opening quote, once skipped bytes are passed over: up to a quote each byte is itself, but an escape, `\"` and `\\` are one unit each
unfoldable pub string_units : ℕ → List ℕ → Opened
string_units skipped [] = None
string_units (suc skipped) (b ∷ bs) = string_units skipped bs
string_units zero (b ∷ bs) =
    if b == 34 then Some ([], bs)
    else (if begins_escape (b ∷ bs) then with_unit (escaped_unit (b ∷ bs)) (string_units 5 bs)
    else (if b == 92 then (if (slice_index bs 0 == 34) || (slice_index bs 0 == 92) then with_unit (slice_index bs 0) (string_units 1 bs) else None)
    else (if is_plain b then with_unit b (string_units 0 bs)
    else None)))

-- ---- what a line has

pub data Token : Type 0 where
  -- a word, by its units
  Word : List ℕ → Token
  -- a string, by its units
  Quoted : List ℕ → Token
  -- a word, string or comment that no text has
  Bad : Token
  -- the end of a line that has words
  LineEnd : Token

-- a token, and the line and column at which it begins
pub record Placed : Type 0 where
  pub line : ℕ
  pub column : ℕ
  pub token : Token

-- what the bytes begin with, where that is no blank, and how many bytes it has; a comment is no token
pub record Piece : Type 0 where
  pub tokens : List Token
  pub size : ℕ

abbrev pub bad : List ℕ → Piece
bad bytes = record { tokens = Bad ∷ []; size = length bytes }

-- a word goes up to the next blank
abbrev pub word_piece : List ℕ → Piece
word_piece bytes = word_of (take size bytes) where
  size : ℕ
  size = prefix_len (λ b. not (is_blank b)) bytes

  word_of : List ℕ → Piece
  word_of word = if list_all is_plain word then record { tokens = Word (word_units 0 word) ∷ []; size = size } else bad bytes

-- a string goes to the quote that closes it, which the end of the line or a blank follows
abbrev pub string_piece : List ℕ → Piece
string_piece bytes = piece_of (string_units 0 (drop 1 bytes)) where
  piece_of : Opened → Piece
  piece_of None = bad bytes
  piece_of (Some (units, more)) =
      if (length more == 0) || is_blank (slice_index more 0) then record { tokens = Quoted units ∷ []; size = length bytes - length more }
      else bad bytes

-- a comment goes to the end of the line
abbrev pub comment_piece : List ℕ → Piece
comment_piece bytes = if list_all (λ b. is_plain b || is_blank b) bytes then record { tokens = []; size = length bytes } else bad bytes

abbrev pub piece_of : List ℕ → Piece
piece_of bytes =
    if slice_index bytes 0 == 35 then comment_piece bytes
    else (if slice_index bytes 0 == 34 then string_piece bytes
    else word_piece bytes)

abbrev pub placed_at : ℕ → ℕ → List Token → List Placed
placed_at line column [] = []
placed_at line column (token ∷ tokens) = record { line = line; column = column; token = token } ∷ placed_at line column tokens

-- the tokens of a line from this column on, once skipped bytes are passed over: a piece begins at each byte that is no blank and in no earlier piece
unfoldable pub tokens_after : ℕ → ℕ → ℕ → List ℕ → List Placed
tokens_after line column skipped [] = []
tokens_after line column (suc skipped) (b ∷ bs) = tokens_after line (column + 1) skipped bs
tokens_after line column zero (b ∷ bs) =
    if is_blank b then tokens_after line (column + 1) 0 bs
    else placed_at line column (piece_of (b ∷ bs)).tokens ++ tokens_after line (column + 1) ((piece_of (b ∷ bs)).size - 1) bs

-- the end of a line is at the column after its last byte; a line without words is skipped
abbrev pub line_tokens : ℕ × List ℕ → List Placed
line_tokens (line, bytes) = ended (tokens_after line 1 0 bytes) where
  ended : List Placed → List Placed
  ended [] = []
  ended (first ∷ more) = first ∷ more ++ record { line = line; column = length bytes + 1; token = LineEnd } ∷ []

-- ---- a whole text

abbrev pub tokens_of : List ℕ → List Placed
tokens_of text = flat_map line_tokens (enumerate_from 1 (lines text))

-- the number of the line after the last one
abbrev pub end_line : List ℕ → ℕ
end_line text = length (lines text) + 1
