-- Flags and numbers, read digit by digit, are those that Reading says.
use Rattle.std.proofs.Common.{◌≡◌, ◌≢◌, ℕ, suc, ◌+◌, ◌-◌, ◌*◌, ◌^◌, ◌<◌, ◌≤◌, ◌==◌, ◌&&◌, ◌||◌, Bool, true, false, cond, ℤ, pos, neg_ℤ, ◌⊎◌, FitsSigned, List, [], ◌∷◌, length, slice_index, Option, Some, None, nat_le, nat_lt, refl, sym, ap, ◌∙◌, inl, inr, arith}
use Rattle.std.specs.List.{list_all}
use Rattle.std.specs.Int.{w64}
use Rattle.std.specs.Prelude.{int_le}
use Rattle.std.specs.Char.{digit_value, is_digit}
use Rattle.std.specs.Str.Parse.{digits_value, digits_value_after}
use Rattle.std.proofs.lemmas.Bool.{cases_Bool, cases_lt, ne_eqb}
use Rattle.std.proofs.lemmas.Bool.Decides.{nat_tests}
use Rattle.std.proofs.lemmas.Int.{ints}
use Rattle.dj_asm_tokens.specs.WordReading.{is_numeral, number_in}
use Rattle.dj_asm_tokens.specs.Numbers.{InField, Value, Outside, NoNumber, within, number_within, kept, digits_from, flags_from, flags_in}

-- ---- flags

abbrev flags_then : ℕ → ℕ → List ℕ → Option ℕ
flags_then count flags us =
    cond (list_all (λ b. is_digit b 16) us && nat_le (count + length us) 4 && nat_le 1 (count + length us)) (Some (digits_value_after 16 flags us)) None

flags_end : (count : ℕ) (v : Option ℕ) → count ≤ 4 → cond (count == 0) None v ≡ cond (true && nat_le (count + 0) 4 && nat_le 1 (count + 0)) v None
flags_end count v few = grind (arith, nat_tests)

flags_step : (count d n : ℕ) (all : Bool) (v : Option ℕ) → count ≤ 4
    → cond (nat_le 4 count || nat_le 16 d) None (cond (all && nat_le (count + 1 + n) 4 && nat_le 1 (count + 1 + n)) v None)
    ≡ cond ((nat_lt d 16 && all) && nat_le (count + suc n) 4 && nat_le 1 (count + suc n)) v None
flags_step count d n true v few = grind (arith, nat_tests)
flags_step count d n false v few = grind (arith, nat_tests)

flags_full : (count d n : ℕ) (all : Bool) (more v : Option ℕ) → 4 ≤ count
    → cond (nat_le 4 count || nat_le 16 d) None more ≡ cond ((nat_lt d 16 && all) && nat_le (count + suc n) 4 && nat_le 1 (count + suc n)) v None
flags_full count d n true more v full = grind (arith, nat_tests)
flags_full count d n false more v full = grind (arith, nat_tests)

flags_go_on : (count flags : ℕ) (us : List ℕ) → count ≤ 4 → flags_from count flags us ≡ flags_then count flags us
unfolding flags_from
flags_go_on count flags [] few = flags_end count (Some flags) few
flags_go_on count flags (u ∷ us) few =
    elim (cases_lt count 4) [
      | inl lt ↦
          ap (λ (o : Option ℕ). cond (nat_le 4 count || nat_le 16 (digit_value u)) None o) (flags_go_on (count + 1) (flags * 16 + digit_value u) us (omega arith))
          ∙ flags_step count (digit_value u) (length us) (list_all (λ b. is_digit b 16) us) (Some (digits_value_after 16 flags (u ∷ us))) few
      | inr full ↦ flags_full count (digit_value u) (length us) (list_all (λ b. is_digit b 16) us) (flags_from (count + 1) (flags * 16 + digit_value u) us) (Some (digits_value_after 16 flags (u ∷ us))) full
    ]

flags_all : (n : ℕ) (all : Bool) (v : Option ℕ) → cond (all && nat_le (0 + n) 4 && nat_le 1 (0 + n)) v None ≡ cond ((nat_le 1 n && all) && nat_le n 4) v None
flags_all n true v = grind (arith, nat_tests)
flags_all n false v = grind (arith, nat_tests)

pub flags_are : (word : List ℕ) → flags_from 0 0 word ≡ flags_in word
flags_are word = flags_go_on 0 0 word (omega arith) ∙ flags_all (length word) (list_all (λ b. is_digit b 16) word) (Some (digits_value 16 word))

-- ---- sizes

grown : (n : ℕ) (us : List ℕ) → n ≤ digits_value_after 10 n us
grown n [] = omega arith
grown n (u ∷ us) = let h = grown (n * 10 + digit_value u) us in omega arith

kept_after : (n : ℕ) (us : List ℕ) → kept (digits_value_after 10 (kept n) us) ≡ kept (digits_value_after 10 n us)
kept_after n us =
    elim (cases_lt n (2 ^ 64)) [
      | inl lt ↦ let e : kept n ≡ n = omega arith in ap (λ (k : ℕ). kept (digits_value_after 10 k us)) e
      | inr le ↦
          let a = grown n us in
          let b = grown (kept n) us in
          let c : kept n ≡ 2 ^ 64 - 1 = omega arith in
          omega arith
    ]

abbrev digits_then : Bool → ℕ → List ℕ → Option ℕ
digits_then some size us = cond (list_all (λ b. is_digit b 10) us && (some || nat_le 1 (length us))) (Some (kept (digits_value_after 10 size us))) None

digits_step : (d n : ℕ) (some all : Bool) (v : Option ℕ)
    → cond (nat_le 10 d) None (cond (all && (true || nat_le 1 n)) v None) ≡ cond ((nat_lt d 10 && all) && (some || nat_le 1 (suc n))) v None
digits_step d n true true v = grind (arith, nat_tests)
digits_step d n true false v = grind (arith, nat_tests)
digits_step d n false true v = grind (arith, nat_tests)
digits_step d n false false v = grind (arith, nat_tests)

size_step : (size d : ℕ) (us : List ℕ) → kept (digits_value_after 10 (kept (kept (size * 10) + d)) us) ≡ kept (digits_value_after 10 (size * 10 + d) us)
size_step size d us =
    let e : kept (kept (size * 10) + d) ≡ kept (size * 10 + d) = omega arith in
    ap (λ (n : ℕ). kept (digits_value_after 10 n us)) e ∙ kept_after (size * 10 + d) us

kept_fits : (n : ℕ) → kept n < 2 ^ 64
kept_fits n = omega arith

digits_go_on : (some : Bool) (size : ℕ) (us : List ℕ) → size < 2 ^ 64 → digits_from some size us ≡ digits_then some size us
unfolding digits_from
digits_go_on true size [] fits = ap (λ (n : ℕ). Some n) (let e : size ≡ kept size = omega arith in e)
digits_go_on false size [] fits = refl
digits_go_on some size (u ∷ us) fits =
    ap (λ (o : Option ℕ). cond (nat_le 10 (digit_value u)) None o) (digits_go_on true (kept (kept (size * 10) + digit_value u)) us (kept_fits (kept (size * 10) + digit_value u)))
    ∙ ap (λ (n : ℕ). cond (nat_le 10 (digit_value u)) None (cond (list_all (λ b. is_digit b 10) us && (true || nat_le 1 (length us))) (Some n) None)) (size_step size (digit_value u) us)
    ∙ digits_step (digit_value u) (length us) some (list_all (λ b. is_digit b 10) us) (Some (kept (digits_value_after 10 (size * 10 + digit_value u) us)))

both_orders : (n : ℕ) (all : Bool) (v : Option ℕ) → cond (all && (false || nat_le 1 n)) v None ≡ cond (nat_le 1 n && all) v None
both_orders n true v = grind (arith, nat_tests)
both_orders n false v = grind (arith, nat_tests)

pub size_is : (us : List ℕ) → digits_from false 0 us ≡ cond (is_numeral 10 us) (Some (kept (digits_value 10 us))) None
size_is us = digits_go_on false 0 us (omega arith) ∙ both_orders (length us) (list_all (λ b. is_digit b 10) us) (Some (kept (digits_value 10 us)))

-- ---- numbers in fields

kept_minus : (v : ℕ) (low high : ℤ) → FitsSigned w64 low → within low high (neg_ℤ (pos (kept v))) ≡ within low high (neg_ℤ (pos v))
kept_minus v low high fits =
    elim (cases_lt v (2 ^ 64)) [
      | inl lt ↦ let e : kept v ≡ v = omega arith in ap (λ (n : ℕ). within low high (neg_ℤ (pos n))) e
      | inr le ↦
          let e : kept v ≡ 2 ^ 64 - 1 = omega arith in
          let a : int_le low (neg_ℤ (pos (kept v))) ≡ false = grind (arith, ints) in
          let b : int_le low (neg_ℤ (pos v)) ≡ false = grind (arith, ints) in
          rw (a, b) refl
    ]

outside : (a b : Bool) (x y : InField) → cond (a && false) x Outside ≡ cond (b && false) y Outside
outside true true x y = refl
outside true false x y = refl
outside false true x y = refl
outside false false x y = refl

kept_plain : (v : ℕ) (low high : ℤ) → FitsSigned w64 high → within low high (pos (kept v)) ≡ within low high (pos v)
kept_plain v low high fits =
    elim (cases_lt v (2 ^ 64)) [
      | inl lt ↦ let e : kept v ≡ v = omega arith in ap (λ (n : ℕ). within low high (pos n)) e
      | inr le ↦
          let e : kept v ≡ 2 ^ 64 - 1 = omega arith in
          let a : int_le (pos (kept v)) high ≡ false = grind (arith, ints) in
          let b : int_le (pos v) high ≡ false = grind (arith, ints) in
          ap (λ (t : Bool). cond (int_le low (pos (kept v)) && t) (Value (pos (kept v))) Outside) a
          ∙ outside (int_le low (pos (kept v))) (int_le low (pos v)) (Value (pos (kept v))) (Value (pos v))
          ∙ ap (λ (t : Bool). cond (int_le low (pos v) && t) (Value (pos v)) Outside) (sym b)
    ]

numeral_cases : (us : List ℕ) (size : Option ℕ) → size ≡ digits_from false 0 us
    → ((is_numeral 10 us ≡ true) × (size ≡ Some (kept (digits_value 10 us)))) ⊎ ((is_numeral 10 us ≡ false) × (size ≡ None))
numeral_cases us size e =
    let f = e ∙ size_is us in
    elim (cases_Bool (is_numeral 10 us)) [
      | inl h ↦ inl (h, f ∙ ap (λ (t : Bool). cond t (Some (kept (digits_value 10 us))) None) h)
      | inr h ↦ inr (h, f ∙ ap (λ (t : Bool). cond t (Some (kept (digits_value 10 us))) None) h)
    ]

minus_in : (us : List ℕ) → number_in (45 ∷ us) ≡ cond (is_numeral 10 us) (Some (neg_ℤ (pos (digits_value 10 us)))) None
minus_in us = refl

plain_in : (word : List ℕ) → slice_index word 0 ≢ 45 → number_in word ≡ cond (is_numeral 10 word) (Some (pos (digits_value 10 word))) None
plain_in [] other = refl
plain_in (b ∷ bs) other =
    ap (λ (t : Bool). cond t (cond (is_numeral 10 bs) (Some (neg_ℤ (pos (digits_value 10 bs)))) None) (cond (is_numeral 10 (b ∷ bs)) (Some (pos (digits_value 10 (b ∷ bs)))) None)) (ne_eqb b 45 other)

pub minus_read : (word us : List ℕ) (size : ℕ) (low high : ℤ) → word ≡ 45 ∷ us → Some size ≡ digits_from false 0 us → FitsSigned w64 low
    → within low high (neg_ℤ (pos size)) ≡ number_within low high (number_in word)
minus_read word us size low high word_is read fits =
    elim (numeral_cases us (Some size) read) [
      | inl h ↦
          let s : size ≡ kept (digits_value 10 us) = cc in
          ap (λ (n : ℕ). within low high (neg_ℤ (pos n))) s
          ∙ kept_minus (digits_value 10 us) low high fits
          ∙ ap (λ (t : Bool). number_within low high (cond t (Some (neg_ℤ (pos (digits_value 10 us)))) None)) (sym h.0)
          ∙ ap (λ (w : List ℕ). number_within low high (number_in w)) (sym word_is)
      | inr h ↦ absurd (cc)
    ]

pub minus_none : (word us : List ℕ) (low high : ℤ) → word ≡ 45 ∷ us → None ≡ digits_from false 0 us → NoNumber ≡ number_within low high (number_in word)
minus_none word us low high word_is read =
    elim (numeral_cases us None read) [
      | inl h ↦ absurd (cc)
      | inr h ↦
          ap (λ (t : Bool). number_within low high (cond t (Some (neg_ℤ (pos (digits_value 10 us)))) None)) (sym h.0)
          ∙ ap (λ (w : List ℕ). number_within low high (number_in w)) (sym word_is)
    ]

pub plain_read : (word : List ℕ) (size : ℕ) (low high : ℤ) → slice_index word 0 ≢ 45 → Some size ≡ digits_from false 0 word → FitsSigned w64 high
    → within low high (pos size) ≡ number_within low high (number_in word)
plain_read word size low high other read fits =
    elim (numeral_cases word (Some size) read) [
      | inl h ↦
          let s : size ≡ kept (digits_value 10 word) = cc in
          ap (λ (n : ℕ). within low high (pos n)) s
          ∙ kept_plain (digits_value 10 word) low high fits
          ∙ ap (λ (t : Bool). number_within low high (cond t (Some (pos (digits_value 10 word))) None)) (sym h.0)
          ∙ ap (number_within low high) (sym (plain_in word other))
      | inr h ↦ absurd (cc)
    ]

pub plain_none : (word : List ℕ) (low high : ℤ) → slice_index word 0 ≢ 45 → None ≡ digits_from false 0 word → NoNumber ≡ number_within low high (number_in word)
plain_none word low high other read =
    elim (numeral_cases word None read) [
      | inl h ↦ absurd (cc)
      | inr h ↦
          ap (λ (t : Bool). number_within low high (cond t (Some (pos (digits_value 10 word))) None)) (sym h.0)
          ∙ ap (number_within low high) (sym (plain_in word other))
    ]
