-- What the units of one word say: a row of a table, a place in a list, a label, a number.
use Rattle.std.specs.Prelude.{ℕ, suc, ◌==◌, ◌&&◌, ◌||◌, Bool, ℤ, pos, neg_ℤ, List, [], ◌∷◌, length, Option, Some, None, nat_le, if◌then◌else◌, bytes_eq}
use Rattle.std.specs.List.{list_all}
use Rattle.std.specs.Option.{option_map}
use Rattle.std.specs.Char.{is_digit}
use Rattle.std.specs.Str.Parse.{digits_value}
use Rattle.dj_cursor.specs.trusted.Options.{◌>>=◌}
use Rattle.dj_names.specs.Tests.{class_name_test, array_descriptor_test}

abbrev pub tested : {A : Type 0} → (A → Bool) → A → Option A
tested test a = if test a then Some a else None

-- what the table has at the word
abbrev pub row_of : {K : Type 0} → List (List ℕ × K) → List ℕ → Option K
row_of [] word = None
row_of (row ∷ rows) word = if bytes_eq row.0 word then Some row.1 else row_of rows word

-- the place of a word in a list, counted from n
abbrev pub place_from : ℕ → List (List ℕ) → List ℕ → Option ℕ
place_from n [] word = None
place_from n (w ∷ ws) word = if bytes_eq w word then Some n else place_from (suc n) ws word

-- ---- labels

-- before a colon that ends the word
abbrev pub before_colon : List ℕ → Option (List ℕ)
before_colon [] = None
before_colon (b ∷ []) = if b == 58 then Some [] else None
before_colon (b ∷ c ∷ bs) = option_map (λ label. b ∷ label) (before_colon (c ∷ bs))

abbrev pub is_some_label : List ℕ → Bool
is_some_label label = nat_le 1 (length label)

-- the label that the word defines
abbrev pub label_in : List ℕ → Option (List ℕ)
label_in word = before_colon word >>= tested is_some_label

-- ---- numbers

abbrev pub is_numeral : ℕ → List ℕ → Bool
is_numeral radix digits = nat_le 1 (length digits) && list_all (λ b. is_digit b radix) digits

abbrev pub number_in : List ℕ → Option ℤ
number_in [] = None
number_in (b ∷ bs) =
    if b == 45 then (if is_numeral 10 bs then Some (neg_ℤ (pos (digits_value 10 bs))) else None)
    else (if is_numeral 10 (b ∷ bs) then Some (pos (digits_value 10 (b ∷ bs))) else None)

-- ---- names

abbrev pub class_text_test : List ℕ → Bool
class_text_test text = class_name_test text || array_descriptor_test text
