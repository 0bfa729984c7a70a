-- The units of a word and of a string, step by step.
use Rattle.std.proofs.Common.{◌≡◌, ℕ, zero, suc, ◌==◌, ◌||◌, Bool, true, false, cond, List, [], ◌∷◌, Option, Some, None, drop, slice_index, refl, sym, ap, ◌∙◌, inl, inr}
use Rattle.std.specs.Option.{option_map}
use Rattle.std.proofs.lemmas.Bool.{cases_Bool}
use Rattle.dj_asm_tokens.specs.trusted.Words.{begins_escape, escaped_unit, is_plain, Opened, with_unit, word_units, string_units}
use Rattle.dj_asm_tokens.specs.Strings.{Step, Closed, Unit, Broken, backslash_step, byte_step, string_step}

pub units_skip : (k : ℕ) (bytes : List ℕ) → word_units k bytes ≡ word_units 0 (drop k bytes)
unfolding word_units
units_skip zero bytes = refl
units_skip (suc k) [] = refl
units_skip (suc k) (b ∷ bytes) = units_skip k bytes

pub word_escape : (b : ℕ) (bytes : List ℕ) → begins_escape (b ∷ bytes) ≡ true → word_units 0 (b ∷ bytes) ≡ escaped_unit (b ∷ bytes) ∷ word_units 0 (drop 5 bytes)
unfolding word_units
word_escape b bytes e =
    ap (λ (t : Bool). cond t (escaped_unit (b ∷ bytes) ∷ word_units 5 bytes) (b ∷ word_units 0 bytes)) e
    ∙ ap (λ (us : List ℕ). escaped_unit (b ∷ bytes) ∷ us) (units_skip 5 bytes)

pub word_byte : (b : ℕ) (bytes : List ℕ) → begins_escape (b ∷ bytes) ≡ false → word_units 0 (b ∷ bytes) ≡ b ∷ word_units 0 bytes
unfolding word_units
word_byte b bytes e = ap (λ (t : Bool). cond t (escaped_unit (b ∷ bytes) ∷ word_units 5 bytes) (b ∷ word_units 0 bytes)) e

pub ruleset word_steps = (word_escape, word_byte)

-- ---- strings

pub string_skip : (k : ℕ) (bytes : List ℕ) → string_units k bytes ≡ string_units 0 (drop k bytes)
unfolding string_units
string_skip zero bytes = refl
string_skip (suc k) [] = refl
string_skip (suc k) (b ∷ bytes) = string_skip k bytes

-- what a step leaves of a string
abbrev pub opened_at : Step → Opened
opened_at (Closed rest) = Some ([], rest)
opened_at (Unit unit rest) = with_unit unit (string_units 0 rest)
opened_at Broken = None

abbrev pub rest_of : Step → List ℕ
rest_of (Closed rest) = rest
rest_of (Unit unit rest) = rest
rest_of Broken = []

opens_cond : (t : Bool) (x y : Step) → opened_at (cond t x y) ≡ cond t (opened_at x) (opened_at y)
opens_cond true x y = refl
opens_cond false x y = refl

backslash_opens : (bytes : List ℕ)
    → cond ((slice_index bytes 0 == 34) || (slice_index bytes 0 == 92)) (with_unit (slice_index bytes 0) (string_units 1 bytes)) None ≡ opened_at (backslash_step bytes)
unfolding string_units backslash_step
backslash_opens [] = refl
backslash_opens (x ∷ bytes) = sym (opens_cond ((x == 34) || (x == 92)) (Unit x bytes) Broken)

byte_opens : (b : ℕ) (bytes : List ℕ)
    → cond (b == 92) (cond ((slice_index bytes 0 == 34) || (slice_index bytes 0 == 92)) (with_unit (slice_index bytes 0) (string_units 1 bytes)) None)
    (cond (is_plain b) (with_unit b (string_units 0 bytes)) None) ≡ opened_at (byte_step b bytes)
unfolding byte_step
byte_opens b bytes =
    elim (cases_Bool (b == 92)) [
      | inl e ↦ rw e (backslash_opens bytes)
      | inr e ↦ rw e (sym (opens_cond (is_plain b) (Unit b bytes) Broken))
    ]

pub string_opens : (bytes : List ℕ) → string_units 0 bytes ≡ opened_at (string_step bytes)
unfolding string_units string_step
string_opens [] = refl
string_opens (b ∷ bytes) =
    elim (cases_Bool (b == 34)) [
      | inl e ↦ rw e refl
      | inr e ↦ rw e (elim (cases_Bool (begins_escape (b ∷ bytes))) [
        | inl h ↦ rw h (ap (with_unit (escaped_unit (b ∷ bytes))) (string_skip 5 bytes))
        | inr h ↦ rw h (byte_opens b bytes)
      ])
    ]

-- a string from a step on
pub string_closed : (bytes rest : List ℕ) → string_step bytes ≡ Closed rest → string_units 0 bytes ≡ Some ([], rest)
string_closed bytes rest e = string_opens bytes ∙ ap opened_at e

pub string_broken : (bytes : List ℕ) → string_step bytes ≡ Broken → string_units 0 bytes ≡ None
string_broken bytes e = string_opens bytes ∙ ap opened_at e

pub string_unit : (bytes rest : List ℕ) (unit : ℕ) → string_step bytes ≡ Unit unit rest → string_units 0 bytes ≡ with_unit unit (string_units 0 rest)
string_unit bytes rest unit e = string_opens bytes ∙ ap opened_at e

abbrev pub after_quote : Opened → Option (List ℕ)
after_quote = option_map (λ opened. opened.1)

after_unit : (unit : ℕ) (opened : Opened) → after_quote (with_unit unit opened) ≡ after_quote opened
after_unit unit None = refl
after_unit unit (Some opened) = refl

pub quote_after_unit : (bytes rest : List ℕ) (unit : ℕ) → string_step bytes ≡ Unit unit rest → after_quote (string_units 0 bytes) ≡ after_quote (string_units 0 rest)
quote_after_unit bytes rest unit e = ap after_quote (string_unit bytes rest unit e) ∙ after_unit unit (string_units 0 rest)
