-- What words mean. An item is what is meant; several words may say the same item.
use Rattle.std.specs.Prelude.{◌≡◌, ℕ, ◌≤◌, ◌⊎◌, ℤ, pos, neg_ℤ, List, ◌∷◌, ◌++◌, length}
use Rattle.std.specs.Str.Parse.{IsNumeral, digits_value}
use Rattle.dj_names.specs.trusted.ModifiedUtf8.{units_text}
use Rattle.dj_asm_tokens.specs.trusted.Words.{Token, Word, Quoted, LineEnd}

pub data Item : Type 0 where
  -- this word
  Exactly : List ℕ → Item
  -- access flags
  Flags : ℕ → Item
  -- a number
  Number : ℤ → Item
  -- these units, which the text spells in modified UTF-8
  Called : List ℕ → List ℕ → Item
  -- a string, by its units
  Text : List ℕ → Item
  -- the end of a line
  Ended : Item

-- one to four hexadecimal digits
pub record SaysFlags (flags : ℕ) (token : Token) : Type 0 where
  pub digits : List ℕ
  pub word : token ≡ Word digits
  pub numeral : IsNumeral 16 digits
  pub few : length digits ≤ 4
  pub value : flags ≡ digits_value 16 digits

-- decimal digits
pub record SaysPlainNumber (number : ℤ) (token : Token) : Type 0 where
  pub digits : List ℕ
  pub word : token ≡ Word digits
  pub numeral : IsNumeral 10 digits
  pub value : number ≡ pos (digits_value 10 digits)

-- a minus, and decimal digits
pub record SaysMinusNumber (number : ℤ) (token : Token) : Type 0 where
  pub digits : List ℕ
  pub word : token ≡ Word (45 ∷ digits)
  pub numeral : IsNumeral 10 digits
  pub value : number ≡ neg_ℤ (pos (digits_value 10 digits))

pub record SaysCalled (prefix text : List ℕ) (token : Token) : Type 0 where
  pub units : List ℕ
  pub word : token ≡ Word (prefix ++ units)
  pub value : text ≡ units_text units

abbrev pub Says : Item → Token → Type 0
Says (Exactly units) token = token ≡ Word units
Says (Flags flags) token = SaysFlags flags token
Says (Number number) token = SaysPlainNumber number token ⊎ SaysMinusNumber number token
Says (Called prefix text) token = SaysCalled prefix text token
Says (Text units) token = token ≡ Quoted units
Says Ended token = token ≡ LineEnd
