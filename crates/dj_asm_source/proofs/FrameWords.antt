-- The types that one word names, by a table of them.
use Rattle.std.proofs.Common.{◌≡◌, ◌||◌, ℕ, Bool, true, false, List, [], ◌∷◌, Option, MatchOption, codes, bytes_eq, refl, sym, subst, ◌∙◌, inl, inr}
use Rattle.std.specs.List.{AllByRecursion}
use Rattle.std.proofs.lemmas.Bool.{cases_Bool}
use Rattle.std.proofs.lemmas.Slice.Eq.{bytes_eq-Decides}
use Rattle.dj_asm_source.specs.declared.syntax.SimpleType.{SimpleType}
use Rattle.dj_asm_source.specs.declared.syntax.SimpleType.TheVariants as simples
use Rattle.dj_asm_tokens.specs.WordReading.{row_of}
use Rattle.dj_asm_source.specs.Reading.{is_simple_type}
use Rattle.dj_asm_source.specs.TypeViews.{simple_word}

abbrev Row : Type 0
Row = List ℕ × SimpleType

-- one of the rows has the word
abbrev is_among : List ℕ → Row → List Row → Bool
is_among word row [] = bytes_eq word row.0
is_among word row (next ∷ rows) = bytes_eq word row.0 || is_among word next rows

abbrev Says : List ℕ → Option SimpleType → Bool → Type 0
Says word found among = MatchOption found (among ≡ false) (λ ty. (among ≡ true) × (word ≡ simple_word ty))

flip_true : (a b : List ℕ) → bytes_eq a b ≡ true → bytes_eq b a ≡ true
flip_true a b e = (bytes_eq-Decides b a).1 (sym ((bytes_eq-Decides a b).0 e))

flip_false : (a b : List ℕ) → bytes_eq a b ≡ false → bytes_eq b a ≡ false
flip_false a b e =
    elim (cases_Bool (bytes_eq b a)) [
      | inl h ↦ absurd (let k : bytes_eq a b ≡ true = flip_true b a h in cc)
      | inr h ↦ h
    ]

rows_say : (word : List ℕ) (row : Row) (rows : List Row) → AllByRecursion (λ (r : Row). r.0 ≡ simple_word r.1) (row ∷ rows) → Says word (row_of (row ∷ rows) word) (is_among word row rows)
rows_say word row [] named =
    elim (cases_Bool (bytes_eq row.0 word)) [
      | inl e ↦ rw (e, flip_true row.0 word e) (refl, sym ((bytes_eq-Decides row.0 word).0 e) ∙ named.0)
      | inr e ↦ rw (e, flip_false row.0 word e) refl
    ]
rows_say word row (next ∷ rows) named =
    elim (cases_Bool (bytes_eq row.0 word)) [
      | inl e ↦ rw (e, flip_true row.0 word e) (refl, sym ((bytes_eq-Decides row.0 word).0 e) ∙ named.0)
      | inr e ↦ rw (e, flip_false row.0 word e) (rows_say word next rows named.1)
    ]

abbrev simple_rows : List Row
simple_rows =
    (codes "top", simples.Top) ∷ (codes "int", simples.Int) ∷ (codes "float", simples.Float) ∷ (codes "double", simples.Double)
    ∷ (codes "long", simples.Long) ∷ (codes "null", simples.Null) ∷ (codes "this", simples.This) ∷ []

pub simple_found : (word : List ℕ) (found : Option SimpleType)
    → found ≡ row_of ((codes "top", simples.Top) ∷ (codes "int", simples.Int) ∷ (codes "float", simples.Float) ∷ (codes "double", simples.Double)
    ∷ (codes "long", simples.Long) ∷ (codes "null", simples.Null) ∷ (codes "this", simples.This) ∷ []) word
    → MatchOption found (is_simple_type word ≡ false) (λ ty. (is_simple_type word ≡ true) × (word ≡ simple_word ty))
simple_found word found e =
    subst (λ (o : Option SimpleType). Says word o (is_simple_type word)) (sym e)
    (rows_say word (codes "top", simples.Top) ((codes "int", simples.Int) ∷ (codes "float", simples.Float) ∷ (codes "double", simples.Double)
    ∷ (codes "long", simples.Long) ∷ (codes "null", simples.Null) ∷ (codes "this", simples.This) ∷ []) (refl, (refl, (refl, (refl, (refl, (refl, (refl, tt))))))))
