-- Definitions that only the readers' clauses cite: reading as functions on the tokens at hand. No public clause cites them;
-- proofs/TextLaws says that what is read of a text is its source or its fault.
use Rattle.std.specs.Prelude.{ℕ, ◌^◌, ◌&&◌, ◌||◌, Bool, true, false, ⊤, ℤ, pos, negsuc, List, [], ◌∷◌, length, take, drop, Option, Some, None, nat_lt, nat_le, if◌then◌else◌, bytes_eq, codes}
use Rattle.std.specs.Option.{option_map}
use Rattle.std.specs.Str.Parse.{digits_value}
use Rattle.dj_cursor.specs.trusted.Options.{◌>>=◌}
use Rattle.dj_names.specs.trusted.Types.{Name}
use Rattle.dj_names.specs.trusted.ModifiedUtf8.{units_text}
use Rattle.dj_asm_tokens.specs.trusted.Words.{Token, Word, Quoted, LineEnd, Placed}
use Rattle.dj_asm_tokens.specs.trusted.Mnemonics.{mnemonics, base_words}
use Rattle.dj_asm_tokens.specs.WordReading.{tested, row_of, place_from, is_some_label, is_numeral, number_in, class_text_test}
use Rattle.dj_asm_source.specs.trusted.Lines.{FrameType, Simple, Object, New}

-- ---- steps

-- what was read, with the tokens after it; or the tokens from the first that isn't allowed; or those from a number on that its field doesn't hold
pub data Read (A : Type 0) : Type 0 where
  Got : A → List Placed → Read A
  Wrong : List Placed → Read A
  Large : List Placed → Read A

abbrev pub Reader : Type 0 → Type 0
Reader A = List Placed → Read A

abbrev pub read_map : {A B : Type 0} → (A → B) → Read A → Read B
read_map f (Got a rest) = Got (f a) rest
read_map f (Wrong rest) = Wrong rest
read_map f (Large rest) = Large rest

abbrev pub read_then : {A B : Type 0} → Read A → Reader B → Read (A × B)
read_then (Got a rest) next = read_map (λ b. (a, b)) (next rest)
read_then (Wrong rest) next = Wrong rest
read_then (Large rest) next = Large rest

-- seen as something else
abbrev pub mapped : {A B : Type 0} → (A → B) → Reader A → Reader B
mapped f reader tokens = read_map f (reader tokens)

-- one after the other
infixr 20 ◌&◌
abbrev pub ◌&◌ : {A B : Type 0} → Reader A → Reader B → Reader (A × B)
(first & second) tokens = read_then (first tokens) second

-- nothing of the tokens
abbrev pub got : {A : Type 0} → A → Reader A
got a tokens = Got a tokens

-- what a token says, where it fits
abbrev pub said_by : {A : Type 0} → (A → Bool) → Option A → Placed → List Placed → Read A
said_by fits None here rest = Wrong (here ∷ rest)
said_by fits (Some a) here rest = if fits a then Got a rest else Large (here ∷ rest)

-- one token
abbrev pub one : {A : Type 0} → (Token → Option A) → (A → Bool) → Reader A
one says fits [] = Wrong []
one says fits (here ∷ rest) = said_by fits (says here.token) here rest

abbrev pub any_size : {A : Type 0} → A → Bool
any_size a = true

-- what a token begins, and what comes after it
abbrev pub begun : {K A : Type 0} → Option K → (K → Reader A) → Placed → List Placed → Read A
begun None next here rest = Wrong (here ∷ rest)
begun (Some k) next here rest = next k rest

abbrev pub choose : {K A : Type 0} → (Token → Option K) → (K → Reader A) → Reader A
choose begins next [] = Wrong []
choose begins next (here ∷ rest) = begun (begins here.token) next here rest

-- ---- words

abbrev pub word_of : Token → Option (List ℕ)
word_of (Word units) = Some units
word_of token = None

abbrev pub string_of : Token → Option (List ℕ)
string_of (Quoted units) = Some units
string_of token = None

abbrev pub end_of : Token → Option ⊤
end_of LineEnd = Some tt
end_of token = None

-- the opcode of the token's word
abbrev pub opcode_of : Token → Option ℕ
opcode_of token = word_of token >>= place_from 0 mnemonics

-- the base type of the token's word
abbrev pub base_of : Token → Option ℕ
base_of token = word_of token >>= place_from 4 base_words

-- this word alone
abbrev pub exactly : List ℕ → Token → Option ⊤
exactly word token = word_of token >>= row_of ((word, tt) ∷ [])

-- ---- numbers

abbrev pub flags_of : Token → Option ℕ
flags_of token = word_of token >>= λ word. if is_numeral 16 word && nat_le (length word) 4 then Some (digits_value 16 word) else None

abbrev pub number_of : Token → Option ℤ
number_of token = word_of token >>= number_in

-- from low up to high, without sign
abbrev pub is_between : ℕ → ℕ → ℤ → Bool
is_between low high (pos n) = nat_le low n && nat_le n high
is_between low high (negsuc n) = false

-- a number that fits this many bits and a sign
abbrev pub is_signed : ℕ → ℤ → Bool
is_signed bits (pos n) = nat_lt n (2 ^ bits)
is_signed bits (negsuc n) = nat_lt n (2 ^ bits)

-- ---- names

-- a text that passes
abbrev pub name_of : (List ℕ → Bool) → Token → Option Name
name_of test token = word_of token >>= λ word. tested test (units_text word)

-- a class that is caught, or any
abbrev pub caught_in : List ℕ → Option (Option Name)
caught_in word = if bytes_eq (codes "any") word then Some None else option_map (λ name. Some name) (tested class_text_test (units_text word))

abbrev pub caught_of : Token → Option (Option Name)
caught_of token = word_of token >>= caught_in

-- ---- types of frames

abbrev pub is_simple_type : List ℕ → Bool
is_simple_type word =
    bytes_eq word (codes "top") || (bytes_eq word (codes "int") || (bytes_eq word (codes "float") || (bytes_eq word (codes "double")
    || (bytes_eq word (codes "long") || (bytes_eq word (codes "null") || bytes_eq word (codes "this"))))))

-- after `ref:` or `new:`
abbrev pub long_type : List ℕ → Option FrameType
long_type word =
    if bytes_eq (take 4 word) (codes "ref:") then option_map (λ name. Object name) (tested class_text_test (units_text (drop 4 word)))
    else (if bytes_eq (take 4 word) (codes "new:") then option_map (λ label. New label) (tested is_some_label (drop 4 word))
    else None)

abbrev pub type_in : List ℕ → Option FrameType
type_in word = if is_simple_type word then Some (Simple word) else long_type word

abbrev pub type_of : Token → Option FrameType
type_of token = word_of token >>= type_in
