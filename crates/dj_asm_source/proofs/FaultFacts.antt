-- Texts with their faults at plain values: what is Syntax at which line and column, and which numbers are Large.
use Rattle.std.proofs.Common.{◌≡◌, ℕ, ℤ, pos, List, [], ◌∷◌, ◌++◌, Option, Some, None, codes, refl, sym, ap, subst, ◌∙◌, nat_abs, slice_index, inl, inr, arith}
use Rattle.dj_names.specs.trusted.Names.{IsNameByte, IsClassName}
use Rattle.dj_asm_source.specs.declared.error.AsmError.{AsmError}
use Rattle.dj_asm_source.specs.declared.error.AsmError.TheVariants as asm_errors
use Rattle.dj_asm_tokens.specs.trusted.Words.{Token, Word, Quoted, Bad, LineEnd, Placed, word_units, string_units, tokens_after}
use Rattle.std.specs.Str.Parse.{IsNumeral, digits_value}
use Rattle.dj_asm_source.specs.trusted.Items.{Number, Says, SaysFlags, SaysCalled, SaysPlainNumber, SaysMinusNumber}
use Rattle.dj_asm_source.specs.trusted.Lines.{FitsBits}
use Rattle.dj_asm_source.specs.trusted.Sources.{Source, FieldSource, MethodSource, IsSource, IsSizedSource, Reads, IsTextOf}
use Rattle.dj_asm_source.specs.trusted.Faults.{Begins, IsMisplaced, IsLargeNumber, IsUnfinished, WordFault}
use Rattle.dj_asm_source.proofs.FaultLaws.{no_fault_of_text, one_word_fault}

-- ---- the least text

letter_a : IsNameByte 65
letter_a = record { not_dot = λ e. omega (arith, e); not_semicolon = λ e. omega (arith, e); not_bracket = λ e. omega (arith, e); not_slash = λ e. omega (arith, e) }

letter_name : IsClassName (65 ∷ [])
letter_name = record { parts = (65 ∷ []) ∷ []; some = λ e. absurd cc; names = (record { some = λ e. absurd cc; bytes = (letter_a, tt) }, tt); joined = refl }

abbrev least : Source
least = record { flags = 33; name = 65 ∷ []; version = None; super = 65 ∷ []; interfaces = []; fields = []; methods = [] }

least_sized : IsSizedSource least
least_sized = ((letter_name, (letter_name, tt)), (tt, (tt, tt)))

flags : SaysFlags 33 (Word (codes "21"))
flags = record { digits = codes "21"; word = refl; numeral = (omega arith, (omega arith, (omega arith, tt))); few = omega arith; value = refl }

name : SaysCalled [] (65 ∷ []) (Word (65 ∷ []))
name = record { units = 65 ∷ []; word = refl; value = refl }

least_text : IsTextOf (codes ".class 21 A" ++ 10 ∷ codes ".super A") least
unfolding tokens_after word_units
least_text = record { allowed = least_sized; read = (refl, (flags, (name, (refl, (refl, (name, (refl, tt))))))) }

-- ---- faults

abbrev at : ℕ → ℕ → Token → Placed
at line column token = record { line = line; column = column; token = token }

none_begun : Begins IsSizedSource []
none_begun = record { source = least; such = least_sized; rest = Word (codes ".class") ∷ Word (codes "21") ∷ Word (65 ∷ []) ∷ LineEnd ∷ Word (codes ".super") ∷ Word (65 ∷ []) ∷ LineEnd ∷ []; read = (refl, (flags, (name, (refl, (refl, (name, (refl, tt))))))) }

flags_begun : Begins IsSizedSource (Word (codes ".class") ∷ Word (codes "21") ∷ [])
flags_begun = record { source = least; such = least_sized; rest = Word (65 ∷ []) ∷ LineEnd ∷ Word (codes ".super") ∷ Word (65 ∷ []) ∷ LineEnd ∷ []; read = (refl, (flags, (name, (refl, (refl, (name, (refl, tt))))))) }

class_begun : Begins IsSizedSource (Word (codes ".class") ∷ Word (codes "21") ∷ Word (65 ∷ []) ∷ LineEnd ∷ [])
class_begun = record { source = least; such = least_sized; rest = Word (codes ".super") ∷ Word (65 ∷ []) ∷ LineEnd ∷ []; read = (refl, (flags, (name, (refl, (refl, (name, (refl, tt))))))) }

-- a missing word is at the column after the line's last byte
no_name : IsMisplaced (codes ".class 21") (asm_errors.Syntax 1 10)
unfolding tokens_after word_units
no_name = record { prefix = at 1 1 (Word (codes ".class")) ∷ at 1 8 (Word (codes "21")) ∷ []; here = at 1 10 LineEnd; at = record { rest = []; parts = refl; good = flags_begun }; none = λ b. let word = b.read.1.1.0.word in absurd cc; reported = refl }

-- a byte outside the grammar
bad_name : IsMisplaced (codes ".class 21 " ++ 65 ∷ 127 ∷ 32 ∷ 65 ∷ []) (asm_errors.Syntax 1 11)
unfolding tokens_after word_units
bad_name = record { prefix = at 1 1 (Word (codes ".class")) ∷ at 1 8 (Word (codes "21")) ∷ []; here = at 1 11 Bad; at = record { rest = at 1 15 LineEnd ∷ []; parts = refl; good = flags_begun }; none = λ b. let word = b.read.1.1.0.word in absurd cc; reported = refl }

-- a word too many
extra_word : IsMisplaced (codes ".class 21 A x") (asm_errors.Syntax 1 13)
unfolding tokens_after word_units
extra_word = record { prefix = at 1 1 (Word (codes ".class")) ∷ at 1 8 (Word (codes "21")) ∷ at 1 11 (Word (65 ∷ [])) ∷ []; here = at 1 13 (Word (codes "x")); at = record { rest = at 1 14 LineEnd ∷ []; parts = refl; good = record { source = least; such = least_sized; rest = LineEnd ∷ Word (codes ".super") ∷ Word (65 ∷ []) ∷ LineEnd ∷ []; read = (refl, (flags, (name, (refl, (refl, (name, (refl, tt))))))) } }; none = λ b. let word = b.read.1.1.1.0 in absurd cc; reported = refl }

-- a string where a word is to stand, after a line and a comment
first_string : IsMisplaced (codes "# c" ++ 10 ∷ codes " \"\"") (asm_errors.Syntax 2 2)
unfolding tokens_after word_units string_units
first_string = record { prefix = []; here = at 2 2 (Quoted []); at = record { rest = at 2 4 LineEnd ∷ []; parts = refl; good = none_begun }; none = λ b. let word = b.read.0 in absurd cc; reported = refl }

-- a missing line is at the line after the last
empty : IsUnfinished [] (asm_errors.Syntax 1 1)
empty = record { good = none_begun; none = λ s text. text.read; reported = refl }

blank_lines : IsUnfinished (10 ∷ 10 ∷ codes "# c" ++ 10 ∷ []) (asm_errors.Syntax 4 1)
unfolding tokens_after
blank_lines = record { good = none_begun; none = λ s text. text.read; reported = refl }

-- what is a text isn't unfinished
whole : (e : AsmError) → IsUnfinished (codes ".class 21 A" ++ 10 ∷ codes ".super A") e → ⊥
whole e fault = fault.none least least_text

-- ---- numbers outside their fields

abbrev versioned : ℤ → Source
versioned major = record { flags = 33; name = 65 ∷ []; version = Some (major, pos 0); super = 65 ∷ []; interfaces = []; fields = []; methods = [] }

number : (digits : List ℕ) → IsNumeral 10 digits → SaysPlainNumber (pos (digits_value 10 digits)) (Word digits)
number digits numeral = record { digits = digits; word = refl; numeral = numeral; value = refl }

zero_number : SaysPlainNumber (pos 0) (Word (codes "0"))
zero_number = number (codes "0") (omega arith, (omega arith, tt))

large_number : SaysPlainNumber (pos 65536) (Word (codes "65536"))
large_number = number (codes "65536") (omega arith, (omega arith, (omega arith, (omega arith, (omega arith, (omega arith, tt))))))

abbrev version_tokens : List Token
version_tokens = Word (codes ".class") ∷ Word (codes "21") ∷ Word (65 ∷ []) ∷ LineEnd ∷ Word (codes ".version") ∷ []

abbrev after_major : List Token
after_major = Word (codes "0") ∷ LineEnd ∷ Word (codes ".super") ∷ Word (65 ∷ []) ∷ LineEnd ∷ []

version_begun : Begins IsSizedSource version_tokens
version_begun = record { source = versioned (pos 0); such = ((letter_name, (tt, (letter_name, tt))), (tt, (((0, refl, omega arith), (0, refl, omega arith)), (tt, tt)))); rest = Word (codes "0") ∷ after_major; read = (refl, (flags, (name, (refl, (refl, (inl zero_number, (inl zero_number, (refl, (refl, (name, (refl, tt))))))))))) }

large_begun : Begins IsSource (version_tokens ++ Word (codes "65536") ∷ [])
large_begun = record { source = versioned (pos 65536); such = (letter_name, (tt, (letter_name, tt))); rest = after_major; read = (refl, (flags, (name, (refl, (refl, (inl large_number, (inl zero_number, (refl, (refl, (name, (refl, tt))))))))))) }

abbrev units_of : Token → List ℕ
units_of (Word units) = units
units_of _ = []

large_plain : (major : ℤ) → FitsBits 16 major → SaysPlainNumber major (Word (codes "65536")) → ⊥
large_plain major (m, is, fits) says =
    let digits : codes "65536" ≡ says.digits = ap units_of says.word in
    let value : pos m ≡ pos (digits_value 10 (codes "65536")) = sym is ∙ (says.value ∙ sym (ap (λ ds. pos (digits_value 10 ds)) digits)) in
    let same : m ≡ 65536 = ap nat_abs value in
    omega (arith, same, fits)

large_minus : (major : ℤ) → SaysMinusNumber major (Word (codes "65536")) → ⊥
large_minus major says = let word = says.word in absurd cc

large_version : (flags : ℕ) (name : List ℕ) (version : Option (ℤ × ℤ)) (super : List ℕ) (interfaces : List (List ℕ)) (fields : List FieldSource) (methods : List MethodSource)
    → IsSizedSource (record { flags = flags; name = name; version = version; super = super; interfaces = interfaces; fields = fields; methods = methods }) → (rest : List Token)
    → Reads (record { flags = flags; name = name; version = version; super = super; interfaces = interfaces; fields = fields; methods = methods }) ((version_tokens ++ Word (codes "65536") ∷ []) ++ rest) → ⊥
large_version flags name None super interfaces fields methods sized rest read = let word = read.1.1.1.1.0 in absurd cc
large_version flags name (Some (major, minor)) super interfaces fields methods sized rest read = by_number read.1.1.1.1.1.0 where
  by_number : Says (Number major) (Word (codes "65536")) → ⊥
  by_number (inl says) = large_plain major sized.1.1.0.0 says
  by_number (inr says) = large_minus major says

-- the major version has 16 bits
large_major : IsLargeNumber (codes ".class 21 A" ++ 10 ∷ codes ".version 65536 x") (asm_errors.Large 2)
unfolding tokens_after word_units
large_major = record {
  prefix = at 1 1 (Word (codes ".class")) ∷ at 1 8 (Word (codes "21")) ∷ at 1 11 (Word (65 ∷ [])) ∷ at 1 12 LineEnd ∷ at 2 1 (Word (codes ".version")) ∷ [];
  here = at 2 10 (Word (codes "65536"));
  at = record { rest = at 2 16 (Word (codes "x")) ∷ at 2 17 LineEnd ∷ []; parts = refl; good = version_begun };
  some = large_begun;
  none = λ b. large_version b.source.flags b.source.name b.source.version b.source.super b.source.interfaces b.source.fields b.source.methods b.such b.rest b.read;
  reported = refl;
}

-- a word that is no number is misplaced there, and not Large
no_digits : (digits : List ℕ) → IsNumeral 10 digits → digits ≡ 120 ∷ [] → ⊥
no_digits digits numeral e = let bad = subst (λ ds. IsNumeral 10 ds) e numeral in let digit = bad.1.0 in omega (arith, digit)

abbrev first_unit : Token → ℕ
first_unit token = slice_index (units_of token) 0

no_minus : ◌≡◌ {A = ℕ} 120 45 → ⊥
no_minus e = omega (arith, e)

no_plain_number : (n : ℤ) → SaysPlainNumber n (Word (120 ∷ [])) → ⊥
no_plain_number n says = no_digits says.digits says.numeral (ap units_of (sym says.word))

no_minus_number : (n : ℤ) → SaysMinusNumber n (Word (120 ∷ [])) → ⊥
no_minus_number n says = no_minus (ap first_unit says.word)

no_number : (n : ℤ) → Says (Number n) (Word (120 ∷ [])) → ⊥
no_number n (inl says) = no_plain_number n says
no_number n (inr says) = no_minus_number n says

wordy_version : (flags : ℕ) (name : List ℕ) (version : Option (ℤ × ℤ)) (super : List ℕ) (interfaces : List (List ℕ)) (fields : List FieldSource) (methods : List MethodSource)
    → (rest : List Token) → Reads (record { flags = flags; name = name; version = version; super = super; interfaces = interfaces; fields = fields; methods = methods }) ((version_tokens ++ Word (120 ∷ []) ∷ []) ++ rest) → ⊥
wordy_version flags name None super interfaces fields methods rest read = let word = read.1.1.1.1.0 in absurd cc
wordy_version flags name (Some (major, minor)) super interfaces fields methods rest read = no_number major read.1.1.1.1.1.0

wordy_major : IsMisplaced (codes ".class 21 A" ++ 10 ∷ codes ".version x 99999") (asm_errors.Syntax 2 10)
unfolding tokens_after word_units
wordy_major = record {
  prefix = at 1 1 (Word (codes ".class")) ∷ at 1 8 (Word (codes "21")) ∷ at 1 11 (Word (65 ∷ [])) ∷ at 1 12 LineEnd ∷ at 2 1 (Word (codes ".version")) ∷ [];
  here = at 2 10 (Word (120 ∷ []));
  at = record { rest = at 2 12 (Word (codes "99999")) ∷ at 2 17 LineEnd ∷ []; parts = refl; good = version_begun };
  none = λ b. wordy_version b.source.flags b.source.name b.source.version b.source.super b.source.interfaces b.source.fields b.source.methods b.rest b.read;
  reported = refl;
}

-- ---- what is known of no such text

abbrev column_of : AsmError → ℕ
column_of (asm_errors.Syntax line column) = column
column_of _ = 0

ten_or_nine : ◌≡◌ {A = ℕ} 10 9 → ⊥
ten_or_nine e = omega (arith, e)

-- columns are not counted from 0
not_from_zero : WordFault (codes ".class 21") (asm_errors.Syntax 1 9) → ⊥
not_from_zero fault = ten_or_nine (ap column_of (one_word_fault (codes ".class 21") (asm_errors.Syntax 1 10) (asm_errors.Syntax 1 9) (inl no_name) fault))

zero_or_sixteen : ◌≡◌ {A = ℕ} 0 16 → ⊥
zero_or_sixteen e = omega (arith, e)

-- the number outside its field is reported, and not the word after it that may not stand there
not_the_later : WordFault (codes ".class 21 A" ++ 10 ∷ codes ".version 65536 x") (asm_errors.Syntax 2 16) → ⊥
not_the_later fault = zero_or_sixteen (ap column_of
    (one_word_fault (codes ".class 21 A" ++ 10 ∷ codes ".version 65536 x") (asm_errors.Large 2) (asm_errors.Syntax 2 16) (inr (inl large_major)) fault))

-- a whole text has none
not_of_whole : (e : AsmError) → WordFault (codes ".class 21 A" ++ 10 ∷ codes ".super A") e → ⊥
not_of_whole e = no_fault_of_text (codes ".class 21 A" ++ 10 ∷ codes ".super A") least e least_text
