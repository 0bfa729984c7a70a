-- A word is cut before the colon that ends it, and its units with it.
use Rattle.std.proofs.Common.{◌≡◌, ℕ, zero, suc, ◌+◌, ◌≤◌, ◌==◌, ◌&&◌, ◌++◌, Bool, true, false, cond, List, [], ◌∷◌, Option, Some, None, length, take, drop, slice_index, slice_range, nat_le, option_map, is_some, refl, sym, ap, subst, ◌∙◌, inl, inr, arith}
use Rattle.std.specs.List.{list_all}
use Rattle.std.specs.Char.{is_digit}
use Rattle.std.proofs.lemmas.Bool.{cases_Bool, ne_eqb, and_parts, and_from, leb-true, le-leb, eqb-true, both_ways}
use Rattle.std.proofs.lemmas.List.{take-append-drop, length-take-le, drop-drop, drop_all}
use Rattle.dj_cursor.specs.trusted.Options.{◌>>=◌}
use Rattle.dj_asm_tokens.specs.trusted.Words.{begins_escape, escaped_unit, word_units}
use Rattle.dj_asm_tokens.specs.WordReading.{before_colon, label_in, tested, is_some_label}
use Rattle.dj_asm_tokens.specs.Colons.{ends_colon}
use Rattle.dj_asm_tokens.proofs.UnitLaws.{word_escape, word_byte, units_skip}

abbrev digit : ℕ → Bool
digit b = is_digit b 16

-- what an escape at the beginning has
record Escape (bytes : List ℕ) : Type 0 where
  pub first : slice_index bytes 0 ≡ 92
  pub second : (slice_index bytes 1 == 117) ≡ true
  pub long : 6 ≤ length bytes
  pub digits : list_all digit (slice_range bytes 2 6) ≡ true

escape_parts : (bytes : List ℕ) → begins_escape bytes ≡ true → Escape bytes
escape_parts bytes e =
    let p = and_parts ((slice_index bytes 0 == 92) && (slice_index bytes 1 == 117) && nat_le 6 (length bytes)) (list_all digit (slice_range bytes 2 6)) e in
    let q = and_parts ((slice_index bytes 0 == 92) && (slice_index bytes 1 == 117)) (nat_le 6 (length bytes)) p.0 in
    let r = and_parts (slice_index bytes 0 == 92) (slice_index bytes 1 == 117) q.0 in
    record { first = eqb-true (slice_index bytes 0) 92 r.0; second = r.1; long = leb-true 6 (length bytes) q.1; digits = p.1 }

escape_from : (bytes : List ℕ) → (slice_index bytes 0 == 92) ≡ true → (slice_index bytes 1 == 117) ≡ true → 6 ≤ length bytes → list_all digit (slice_range bytes 2 6) ≡ true → begins_escape bytes ≡ true
escape_from bytes a b c d =
    and_from ((slice_index bytes 0 == 92) && (slice_index bytes 1 == 117) && nat_le 6 (length bytes)) (list_all digit (slice_range bytes 2 6))
    (and_from ((slice_index bytes 0 == 92) && (slice_index bytes 1 == 117)) (nat_le 6 (length bytes)) (and_from (slice_index bytes 0 == 92) (slice_index bytes 1 == 117) a b) (le-leb 6 (length bytes) c)) d

-- a byte that stands in no escape but at its beginning
record Stops (c : ℕ) : Type 0 where
  pub other : (c == 117) ≡ false
  pub no_digit : digit c ≡ false

not_all : (c : ℕ) (tail : List ℕ) → digit c ≡ false → list_all digit (c ∷ tail) ≡ true → ⊥
not_all c tail n e = both_ways (digit c) n (and_parts (digit c) (list_all digit tail) e).0

-- so none reaches over it
no_longer : (b c : ℕ) (prefix tail : List ℕ) → Stops c → begins_escape (b ∷ prefix ++ c ∷ tail) ≡ true → begins_escape (b ∷ prefix) ≡ true
no_longer b c [] tail s e = let p = escape_parts (b ∷ c ∷ tail) e in absurd (both_ways (c == 117) s.other p.second)
no_longer b c (u ∷ []) tail s e = let p = escape_parts (b ∷ u ∷ c ∷ tail) e in absurd (not_all c (take 3 tail) s.no_digit p.digits)
no_longer b c (u ∷ d ∷ []) tail s e =
    let p = escape_parts (b ∷ u ∷ d ∷ c ∷ tail) e in
    absurd (not_all c (take 2 tail) s.no_digit (and_parts (digit d) (list_all digit (c ∷ take 2 tail)) p.digits).1)
no_longer b c (u ∷ d ∷ f ∷ []) tail s e =
    let p = escape_parts (b ∷ u ∷ d ∷ f ∷ c ∷ tail) e in
    let q = and_parts (digit d) (list_all digit (f ∷ c ∷ take 1 tail)) p.digits in
    absurd (not_all c (take 1 tail) s.no_digit (and_parts (digit f) (list_all digit (c ∷ take 1 tail)) q.1).1)
no_longer b c (u ∷ d ∷ f ∷ g ∷ []) tail s e =
    let p = escape_parts (b ∷ u ∷ d ∷ f ∷ g ∷ c ∷ tail) e in
    let q = and_parts (digit d) (list_all digit (f ∷ g ∷ c ∷ [])) p.digits in
    let r = and_parts (digit f) (list_all digit (g ∷ c ∷ [])) q.1 in
    absurd (not_all c [] s.no_digit (and_parts (digit g) (list_all digit (c ∷ [])) r.1).1)
no_longer b c (u ∷ d ∷ f ∷ g ∷ h ∷ prefix) tail s e =
    let p = escape_parts (b ∷ u ∷ d ∷ f ∷ g ∷ h ∷ prefix ++ c ∷ tail) e in
    escape_from (b ∷ u ∷ d ∷ f ∷ g ∷ h ∷ prefix) (ap (λ (n : ℕ). n == 92) p.first) p.second (omega arith) p.digits

-- and one that stands before it stays
still : (b c : ℕ) (prefix tail : List ℕ) → begins_escape (b ∷ prefix) ≡ true
    → (begins_escape (b ∷ prefix ++ c ∷ tail) ≡ true) × (escaped_unit (b ∷ prefix ++ c ∷ tail) ≡ escaped_unit (b ∷ prefix)) × (5 ≤ length prefix)
still b c [] tail e = let p = escape_parts (b ∷ []) e in let l : 6 ≤ length (b ∷ []) = p.long in absurd (omega arith)
still b c (u ∷ []) tail e = let p = escape_parts (b ∷ u ∷ []) e in let l : 6 ≤ length (b ∷ u ∷ []) = p.long in absurd (omega arith)
still b c (u ∷ d ∷ []) tail e = let p = escape_parts (b ∷ u ∷ d ∷ []) e in let l : 6 ≤ length (b ∷ u ∷ d ∷ []) = p.long in absurd (omega arith)
still b c (u ∷ d ∷ f ∷ []) tail e = let p = escape_parts (b ∷ u ∷ d ∷ f ∷ []) e in let l : 6 ≤ length (b ∷ u ∷ d ∷ f ∷ []) = p.long in absurd (omega arith)
still b c (u ∷ d ∷ f ∷ g ∷ []) tail e = let p = escape_parts (b ∷ u ∷ d ∷ f ∷ g ∷ []) e in let l : 6 ≤ length (b ∷ u ∷ d ∷ f ∷ g ∷ []) = p.long in absurd (omega arith)
still b c (u ∷ d ∷ f ∷ g ∷ h ∷ prefix) tail e =
    let p = escape_parts (b ∷ u ∷ d ∷ f ∷ g ∷ h ∷ prefix) e in
    (escape_from (b ∷ u ∷ d ∷ f ∷ g ∷ h ∷ prefix ++ c ∷ tail) (ap (λ (n : ℕ). n == 92) p.first) p.second (omega arith) p.digits, refl, omega arith)

cut : (s c : ℕ) (prefix tail : List ℕ) → Stops c → s ≤ length prefix → word_units s (prefix ++ c ∷ tail) ≡ word_units s prefix ++ word_units 0 (c ∷ tail)
unfolding word_units
cut zero c [] tail stops few = refl
cut (suc s) c [] tail stops few = absurd (omega arith)
cut (suc s) c (b ∷ prefix) tail stops few = cut s c prefix tail stops (omega arith)
cut zero c (b ∷ prefix) tail stops few =
    elim (cases_Bool (begins_escape (b ∷ prefix))) [
      | inl e ↦
          let p = still b c prefix tail e in
          word_escape b (prefix ++ c ∷ tail) p.0
          ∙ ap (λ (us : List ℕ). escaped_unit (b ∷ prefix ++ c ∷ tail) ∷ us) (sym (units_skip 5 (prefix ++ c ∷ tail)) ∙ cut 5 c prefix tail stops p.2)
          ∙ ap (λ (u : ℕ). u ∷ word_units 5 prefix ++ word_units 0 (c ∷ tail)) p.1
          ∙ ap (λ (us : List ℕ). escaped_unit (b ∷ prefix) ∷ us ++ word_units 0 (c ∷ tail)) (units_skip 5 prefix)
          ∙ ap (λ (us : List ℕ). us ++ word_units 0 (c ∷ tail)) (sym (word_escape b prefix e))
      | inr e ↦
          let n : begins_escape (b ∷ prefix ++ c ∷ tail) ≡ false = elim (cases_Bool (begins_escape (b ∷ prefix ++ c ∷ tail))) [ inl h ↦ absurd (both_ways (begins_escape (b ∷ prefix)) e (no_longer b c prefix tail stops h)) | inr h ↦ h ] in
          word_byte b (prefix ++ c ∷ tail) n
          ∙ ap (λ (us : List ℕ). b ∷ us) (cut 0 c prefix tail stops (omega arith))
          ∙ ap (λ (us : List ℕ). us ++ word_units 0 (c ∷ tail)) (sym (word_byte b prefix e))
    ]

-- ---- colons

colon_begins : (c : ℕ) (tail us : List ℕ) → word_units 0 (c ∷ tail) ≡ 58 ∷ us → Stops c
colon_begins c tail us e =
    elim (cases_Bool (begins_escape (c ∷ tail))) [
      | inl h ↦ let p : c ≡ 92 = (escape_parts (c ∷ tail) h).first in subst (λ (n : ℕ). Stops n) (sym p) (record { other = refl; no_digit = refl })
      | inr h ↦ let p : c ≡ 58 = (let f : c ∷ word_units 0 tail ≡ 58 ∷ us = sym (word_byte c tail h) ∙ e in cc) in subst (λ (n : ℕ). Stops n) (sym p) (record { other = refl; no_digit = refl })
    ]

before_last : (xs : List ℕ) → before_colon (xs ++ 58 ∷ []) ≡ Some xs
before_last [] = refl
before_last (b ∷ []) = refl
before_last (b ∷ c ∷ xs) = ap (option_map (λ label. b ∷ label)) (before_last (c ∷ xs))

some_units : (b : ℕ) (bytes : List ℕ) → 1 ≤ length (word_units 0 (b ∷ bytes))
some_units b bytes =
    elim (cases_Bool (begins_escape (b ∷ bytes))) [
      | inl e ↦ subst (λ (us : List ℕ). 1 ≤ length us) (sym (word_escape b bytes e)) (omega arith)
      | inr e ↦ subst (λ (us : List ℕ). 1 ≤ length us) (sym (word_byte b bytes e)) (omega arith)
    ]

label_then : (prefix : List ℕ) → 1 ≤ length (word_units 0 prefix) → label_in (word_units 0 prefix ++ 58 ∷ []) ≡ Some (word_units 0 prefix)
label_then prefix some =
    ap (λ (o : Option (List ℕ)). o >>= tested is_some_label) (before_last (word_units 0 prefix))
    ∙ ap (λ (t : Bool). cond t (Some (word_units 0 prefix)) None) (le-leb 1 (length (word_units 0 prefix)) some)

some_prefix : (prefix : List ℕ) → 1 ≤ length prefix → 1 ≤ length (word_units 0 prefix)
some_prefix [] h = absurd (omega arith)
some_prefix (b ∷ prefix) h = some_units b prefix

cut_label : (prefix rest : List ℕ) → 1 ≤ length prefix → word_units 0 rest ≡ 58 ∷ [] → label_in (word_units 0 (prefix ++ rest)) ≡ Some (word_units 0 prefix)
unfolding word_units
cut_label prefix [] some e = absurd (cc)
cut_label prefix (c ∷ tail) some e =
    ap label_in (cut 0 c prefix tail (colon_begins c tail [] e) (omega arith) ∙ ap (λ (us : List ℕ). word_units 0 prefix ++ us) e) ∙ label_then prefix (some_prefix prefix some)

is_some_map : {A B : Type 0} (f : A → B) (o : Option A) → is_some (option_map f o) ≡ is_some o
is_some_map f None = refl
is_some_map f (Some a) = refl

none_of : {A : Type 0} (o : Option A) → is_some o ≡ false → o ≡ None
none_of None e = refl
none_of (Some a) e = absurd (cc)

ends_tail : (u : ℕ) (us : List ℕ) → 1 ≤ length us → ends_colon (u ∷ us) ≡ ends_colon us
ends_tail u [] h = absurd (omega arith)
ends_tail u (c ∷ us) h = is_some_map (λ label. u ∷ label) (before_colon (c ∷ us))

no_label : (word : List ℕ) → ends_colon word ≡ false → None ≡ label_in word
no_label word e = ap (λ (o : Option (List ℕ)). o >>= tested is_some_label) (sym (none_of (before_colon word) e))

-- ---- the last unit, and those before it

-- the label of the bytes before the last unit
pub label_before : (bytes rest : List ℕ) (at unit : ℕ) → rest ≡ drop at bytes → 1 ≤ at → at ≤ length bytes → word_units 0 rest ≡ unit ∷ [] → unit ≡ 58
    → Some (word_units 0 (take at bytes)) ≡ label_in (word_units 0 bytes)
label_before bytes rest at unit left some within e colon =
    let e2 : word_units 0 (drop at bytes) ≡ 58 ∷ [] = ap (word_units 0) (sym left) ∙ e ∙ ap (λ (u : ℕ). u ∷ []) colon in
    let long : 1 ≤ length (take at bytes) = omega (arith, length-take-le at bytes within) in
    sym (cut_label (take at bytes) (drop at bytes) long e2) ∙ ap (λ (bs : List ℕ). label_in (word_units 0 bs)) (take-append-drop at bytes)

pub no_colon : (bytes rest : List ℕ) (unit : ℕ) → word_units 0 rest ≡ unit ∷ [] → (unit ≡ 58 → ⊥) → ends_colon (word_units 0 rest) ≡ ends_colon (word_units 0 bytes) → None ≡ label_in (word_units 0 bytes)
no_colon bytes rest unit e other inv =
    no_label (word_units 0 bytes) (sym inv ∙ ap ends_colon e ∙ ap (λ (t : Bool). is_some {T = List ℕ} (cond t (Some []) None)) (ne_eqb unit 58 other))

pub colon_alone : (bytes : List ℕ) (unit : ℕ) → word_units 0 bytes ≡ unit ∷ [] → unit ≡ 58 → None ≡ label_in (word_units 0 bytes)
colon_alone bytes unit e colon = ap (λ (u : ℕ). label_in (u ∷ [])) (sym colon) ∙ ap label_in (sym e)

pub no_units : (bytes rest : List ℕ) → word_units 0 rest ≡ [] → ends_colon (word_units 0 rest) ≡ ends_colon (word_units 0 bytes) → None ≡ label_in (word_units 0 bytes)
no_units bytes rest e inv = no_label (word_units 0 bytes) (sym inv ∙ ap ends_colon e)

pub ends_after : (bytes rest after : List ℕ) (unit : ℕ) → word_units 0 rest ≡ unit ∷ word_units 0 after → 1 ≤ length after
    → ends_colon (word_units 0 rest) ≡ ends_colon (word_units 0 bytes) → ends_colon (word_units 0 after) ≡ ends_colon (word_units 0 bytes)
ends_after bytes rest after unit e some inv =
    sym (ends_tail unit (word_units 0 after) (some_prefix after some)) ∙ ap ends_colon (sym e) ∙ inv

-- ---- units from a place on

pub first_at : (bytes part : List ℕ) (at unit size : ℕ) → part ≡ drop at bytes → word_units 0 part ≡ unit ∷ word_units 0 (drop size part)
    → word_units 0 (drop at bytes) ≡ unit ∷ word_units 0 (drop (at + size) bytes)
first_at bytes part at unit size same e =
    ap (word_units 0) (sym same) ∙ e ∙ ap (λ (bs : List ℕ). unit ∷ word_units 0 (drop size bs)) same ∙ ap (λ (bs : List ℕ). unit ∷ word_units 0 bs) (drop-drop size at bytes)

pub past_end : (bytes : List ℕ) (n : ℕ) → length bytes ≤ n → word_units 0 (drop n bytes) ≡ []
unfolding word_units
past_end bytes n all = ap (word_units 0) (drop_all n bytes all)
