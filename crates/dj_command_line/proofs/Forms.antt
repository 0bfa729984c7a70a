-- What a word is, beside what clap makes of it.
use Rattle.std.proofs.Common.{◌≡◌, ℕ, ◌==◌, Bool, true, false, List, [], ◌∷◌, length, Some, None, refl, inl, inr, arith, lt-ltb, ne_eqb, sym, subst, nat_lt, true≢false, ap, ◌∙◌, ◌+◌, suc, take, not}
use Rattle.std.specs.List.{list_any, prefix_len, before_first, after_first}
use Rattle.std.specs.Prelude.{codes}
use Rattle.std.proofs.lemmas.Bool.{cases_eq}
use Rattle.std.specs.Str.{bytes_eq}
use Rattle.std.specs.Prelude.{IsUtf8, chars, slice_get, encode_utf8_all}
use Rattle.std.proofs.lemmas.Str.{IsUtf8-past_char, encodes-chars}
use Rattle.clap.specs.Lexer.{long_of, short_of}
use Rattle.dj_command_line.specs.trusted.Words.{Word, Plain, Joined, Named, EndOfOptions, Stray, part_of, begins_with, is_numeral}

abbrev pub dashes : Word
dashes = 45 ∷ 45 ∷ []

-- a word that begins with a dash, and isn't a dash alone
pub data DashForm : Word → Type 0 where
  stray_form : (y : ℕ) (ys : Word) → part_of (45 ∷ y ∷ ys) ≡ Stray → long_of (45 ∷ y ∷ ys) ≡ None → short_of (45 ∷ y ∷ ys) ≡ Some (y ∷ ys) → bytes_eq (45 ∷ y ∷ ys) dashes ≡ false → DashForm (45 ∷ y ∷ ys)
  end_form : (word : Word) → part_of word ≡ EndOfOptions → bytes_eq word dashes ≡ true → DashForm word
  named_form : (word name : Word) → part_of word ≡ Named name → long_of word ≡ Some (name, None) → bytes_eq word dashes ≡ false → DashForm word
  joined_form : (word name value : Word) → part_of word ≡ Joined name value → long_of word ≡ Some (name, Some value) → bytes_eq word dashes ≡ false → DashForm word

pub data Form : Word → Type 0 where
  plain_form : (word : Word) → part_of word ≡ Plain word → long_of word ≡ None → short_of word ≡ None → bytes_eq word dashes ≡ false
      → (begins_with (codes "-") word ≡ true → is_numeral word ≡ false) → Form word
  dash_form : (word : Word) → begins_with (codes "-") word ≡ true → DashForm word → Form word

undashed : (x : ℕ) (xs : Word) → (x ≡ 45 → ⊥) → Form (x ∷ xs)
undashed x xs other =
    let a : (x == 45) ≡ false = ne_eqb x 45 other in
    let b : (45 == x) ≡ false = ne_eqb 45 x (λ e. other (sym e)) in
    plain_form (x ∷ xs) (rw (a, b) refl) (rw a refl) (rw a refl) (rw a refl) (λ begins. absurd (true≢false (sym begins ∙ rw b refl)))

one_dash : (y : ℕ) (ys : Word) → (y ≡ 45 → ⊥) → Form (45 ∷ y ∷ ys)
one_dash y ys other =
    let a : (y == 45) ≡ false = ne_eqb y 45 other in
    let b : (45 == y) ≡ false = ne_eqb 45 y (λ e. other (sym e)) in
    let long : nat_lt 1 (length (45 ∷ y ∷ ys)) ≡ true = lt-ltb 1 (length (45 ∷ y ∷ ys)) (omega arith) in
    dash_form (45 ∷ y ∷ ys) refl (stray_form y ys (rw (a, b, long) refl) (rw a refl) (rw a refl) (rw a refl))

take_one : (n x : ℕ) (xs : Word) → take (1 + n) (x ∷ xs) ≡ x ∷ take n xs
take_one n x xs =
    let one : 1 + n ≡ suc n = omega arith in
    ap (λ (k : ℕ). take k (x ∷ xs)) one

-- where no byte is a =, what stands before the first one is all
whole : (xs : Word) → list_any (λ c. c == 61) xs ≡ false → before_first (λ c. c == 61) xs ≡ xs
whole [] none = refl
whole (x ∷ xs) none = go (x == 61) refl (whole xs) where
  go : (b : Bool) → (x == 61) ≡ b → (list_any (λ c. c == 61) xs ≡ false → before_first (λ c. c == 61) xs ≡ xs) → before_first (λ c. c == 61) (x ∷ xs) ≡ x ∷ xs
  go true e rest = absurd (true≢false (rw e at none))
  go false e rest =
      let later : before_first (λ c. c == 61) xs ≡ xs = rest (rw e at none) in
      rw e (take_one (prefix_len (λ c. not (c == 61)) xs) x xs ∙ ap (λ (l : List ℕ). x ∷ l) later)

option_form : (z : ℕ) (zs : Word) (joined : Bool) → list_any (λ c. c == 61) (z ∷ zs) ≡ joined → Form (45 ∷ 45 ∷ z ∷ zs)
option_form z zs true e =
    dash_form (45 ∷ 45 ∷ z ∷ zs) refl (joined_form (45 ∷ 45 ∷ z ∷ zs) (before_first (λ c. c == 61) (z ∷ zs)) (after_first (λ c. c == 61) (z ∷ zs)) (rw e refl) (rw e refl) refl)
option_form z zs false e = dash_form (45 ∷ 45 ∷ z ∷ zs) refl (named_form (45 ∷ 45 ∷ z ∷ zs) (z ∷ zs) (rw e refl) (rw (e, whole (z ∷ zs) e) refl) refl)

two_dashes : (rest : Word) → Form (45 ∷ 45 ∷ rest)
two_dashes [] = dash_form (45 ∷ 45 ∷ []) refl (end_form (45 ∷ 45 ∷ []) refl refl)
two_dashes (z ∷ zs) = option_form z zs (list_any (λ c. c == 61) (z ∷ zs)) refl

dashed : (rest : Word) → Form (45 ∷ rest)
dashed [] = plain_form (45 ∷ []) refl refl refl refl (λ begins. refl)
dashed (y ∷ ys) = elim (cases_eq y 45) [
  | inl e ↦ subst (λ (v : ℕ). Form (45 ∷ v ∷ ys)) (sym e) (two_dashes ys)
  | inr other ↦ one_dash y ys other
]

pub forms : (word : Word) → Form word
forms [] = plain_form [] refl refl refl refl (λ begins. refl)
forms (x ∷ xs) = elim (cases_eq x 45) [
  | inl e ↦ subst (λ (v : ℕ). Form (v ∷ xs)) (sym e) (dashed xs)
  | inr other ↦ undashed x xs other
]

-- ---- UTF-8

some_character : (y : ℕ) (ys : Word) (cs : List ℕ) → encode_utf8_all cs ≡ y ∷ ys → (x : ℕ) × (slice_get cs 0 ≡ Some x)
some_character y ys [] e = absurd cc
some_character y ys (x ∷ cs) e = (x, refl)

-- what stands after a dash has a first character
pub after_dash : (y : ℕ) (ys : Word) → IsUtf8 (45 ∷ y ∷ ys) → (x : ℕ) × (slice_get (chars (y ∷ ys)) 0 ≡ Some x)
unfolding lib.Utf8.encode
after_dash y ys utf8 = some_character y ys (chars (y ∷ ys)) (encodes-chars (y ∷ ys) (IsUtf8-past_char (45 ∷ y ∷ ys) (y ∷ ys) 45 utf8 refl))
