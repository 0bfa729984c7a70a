-- What the code's values show, in the terms of Words.
use Rattle.std.specs.Prelude.{ℕ, ◌+◌, List, [], ◌∷◌, ◌++◌, Bool, true, false, length, unwrap_or}
use Rattle.std.specs.Option.{option_map, option_to_list}
use Rattle.dj_asm_tokens.specs.declared.token.Word as the_word
use Rattle.dj_asm_tokens.specs.declared.token.Quoted as the_string
use Rattle.dj_asm_tokens.specs.declared.token.Token as the_token
use Rattle.dj_asm_tokens.specs.declared.token.Token.TheVariants as tokens
use Rattle.dj_asm_tokens.specs.declared.token.Placed as the_placed
use Rattle.dj_asm_tokens.specs.declared.string.StringStep.{StringStep}
use Rattle.dj_asm_tokens.specs.declared.string.StringStep.TheVariants as steps
use Rattle.dj_asm_tokens.specs.declared.piece.Piece as the_piece
use Rattle.dj_asm_tokens.specs.declared.place.Place as the_place
use Rattle.dj_asm_tokens.specs.declared.tokens.LineTokens as the_line
use Rattle.dj_asm_tokens.specs.trusted.Words.{Token, Word, Quoted, Bad, LineEnd, Placed, Piece, Opened, word_units, string_units, tokens_after}
use Rattle.dj_asm_tokens.specs.Strings.{Step, Closed, Unit, Broken}

abbrev pub units_of : the_word.Word → List ℕ
units_of word = word_units 0 word.bytes.now

-- the units of a string that is closed
abbrev pub opened_units : Opened → List ℕ
opened_units opened = (unwrap_or opened ([], [])).0

abbrev pub string_units_of : the_string.Quoted → List ℕ
string_units_of string = opened_units (string_units 0 string.bytes.now)

abbrev pub token_view : the_token.Token → Token
token_view (tokens.Word word) = Word (units_of word)
token_view (tokens.Quoted string) = Quoted (string_units_of string)
token_view tokens.Bad = Bad
token_view tokens.LineEnd = LineEnd

abbrev pub placed_view : the_placed.Placed → Placed
placed_view placed = record { line = placed.line; column = placed.column; token = token_view placed.token }

-- ---- while a line is read

abbrev pub step_view : StringStep → Step
step_view (steps.Closed rest) = Closed rest.now
step_view (steps.Unit unit rest) = Unit unit rest.now
step_view steps.Broken = Broken

abbrev pub piece_view : the_piece.Piece → Piece
piece_view piece = record { tokens = option_to_list (option_map token_view piece.token); size = piece.size }

abbrev pub left_in_line : the_place.Place → List Placed
left_in_line place = tokens_after place.line place.column 0 place.rest.now

-- the column after the line's last byte
abbrev pub end_of : the_place.Place → ℕ
end_of place = place.column + length place.rest.now

abbrev pub line_end_at : ℕ → ℕ → Placed
line_end_at line column = record { line = line; column = column; token = LineEnd }

-- the tokens that are left of a line, and its end
abbrev pub left_of : the_line.LineTokens → List Placed
left_of at = left at.ended where
  left : Bool → List Placed
  left true = []
  left false = left_in_line at.place ++ line_end_at at.place.line (end_of at.place) ∷ []
