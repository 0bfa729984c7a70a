-- What the code's readers answer, against the readers of Reading.
use Rattle.std.specs.Prelude.{◌≡◌, ◌-◌, ◌^◌, ⊤, ℤ, pos, neg_ℤ, Bool, List, [], ◌∷◌, None, Result, Ok, Err}
use Rattle.dj_asm_source.specs.declared.reader.Stop.{Stop}
use Rattle.dj_asm_source.specs.declared.reader.Stop.TheVariants as stops
use Rattle.dj_asm_source.specs.declared.reader.NumberField.{NumberField}
use Rattle.dj_asm_source.specs.declared.reader.NumberField.TheVariants as fields
use Rattle.dj_asm_source.specs.declared.reader.Spot as the_spot
use Rattle.dj_asm_tokens.specs.trusted.Words.{Word, Placed}
use Rattle.dj_asm_source.specs.Reading.{Read, Got, Wrong, Large, word_of, is_between, is_signed}
use Rattle.dj_asm_tokens.specs.Views.{units_of, left_of}

abbrev pub wrong_stop : List Placed → Stop
wrong_stop [] = stops.Missing
wrong_stop (here ∷ rest) = stops.Wrong here.line here.column

abbrev pub large_stop : List Placed → Stop
large_stop [] = stops.Missing
large_stop (here ∷ rest) = stops.Large here.line

abbrev pub Stops : {A : Type 0} → Stop → Read A → Type 0
Stops stops.Memory read = ⊤
Stops stop (Got a rest) = ⊥
Stops stop (Wrong rest) = stop ≡ wrong_stop rest
Stops stop (Large rest) = stop ≡ large_stop rest

-- what a reader answered is what reading gives, but for want of memory
abbrev pub GivesRead : {X A : Type 0} → (X → A) → (X → List Placed) → Result X Stop → Read A → Type 0
GivesRead view left (Ok x) read = read ≡ Got (view x) (left x)
GivesRead view left (Err stop) read = Stops stop read

-- the first token is no word, or there is none
abbrev pub IsNoWord : Stop → List Placed → Type 0
IsNoWord stop [] = stop ≡ stops.Missing
IsNoWord stop (here ∷ rest) = (word_of here.token ≡ None) × (stop ≡ stops.Wrong here.line here.column)

abbrev pub IsSpot : List Placed → Result the_spot.Spot Stop → Type 0
IsSpot tokens (Ok spot) = tokens ≡ record { line = spot.line; column = spot.column; token = Word (units_of spot.word) } ∷ left_of spot.rest
IsSpot tokens (Err stop) = IsNoWord stop tokens

abbrev pub field_fits : NumberField → ℤ → Bool
field_fits fields.U8 = is_between 0 255
field_fits fields.U16 = is_between 0 65535
field_fits fields.I8 = is_signed 7
field_fits fields.I16 = is_signed 15
field_fits fields.I32 = is_signed 31
field_fits fields.I64 = is_signed 63
field_fits fields.Chop = is_between 1 3

abbrev pub lowest : NumberField → ℤ
lowest fields.U8 = pos 0
lowest fields.U16 = pos 0
lowest fields.I8 = neg_ℤ (pos (2 ^ 7))
lowest fields.I16 = neg_ℤ (pos (2 ^ 15))
lowest fields.I32 = neg_ℤ (pos (2 ^ 31))
lowest fields.I64 = neg_ℤ (pos (2 ^ 63))
lowest fields.Chop = pos 1

abbrev pub highest : NumberField → ℤ
highest fields.U8 = pos 255
highest fields.U16 = pos 65535
highest fields.I8 = pos 127
highest fields.I16 = pos 32767
highest fields.I32 = pos (2 ^ 31 - 1)
highest fields.I64 = pos (2 ^ 63 - 1)
highest fields.Chop = pos 3
