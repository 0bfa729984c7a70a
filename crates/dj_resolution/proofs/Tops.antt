-- The highest number that is among those of two sets of bits.
use Rattle.std.proofs.Common.{◌≡◌, ℕ, ◌+◌, ◌-◌, ◌*◌, ◌/◌, ◌%◌, ◌<◌, ◌≤◌, Bool, true, false, List, length, get_or, nat_eq, bit_and, refl, sym, ◌∙◌, ap, subst, inl, inr, arith, eqb-true}
use Rattle.std.specs.Prelude.{◌&&◌}
use Rattle.std.specs.Int.{bit_at}
use Rattle.std.proofs.lemmas.Bool.{cases_lt, false≢true}
use Rattle.std.proofs.lemmas.List.{get_or_past}
use Rattle.std.proofs.lemmas.Nat.Bits.{bit_at-zero, bit_at_and}
use Rattle.dj_model.proofs.MappedNames.{either}
use Rattle.dj_resolution.specs.Bits.{IsTop, IsTopIn, in_bits, in_both}

-- ---- numbers among those of both

first_not : (a b : Bool) → a ≡ false → (a && b) ≡ false
first_not a b e = ap (λ (x : Bool). x && b) e

second_not : (a b : Bool) → b ≡ false → (a && b) ≡ false
second_not true b e = e
second_not false b e = refl

pub both : (a b : Bool) → a ≡ true → b ≡ true → (a && b) ≡ true
both a b e f = ap (λ (x : Bool). x && b) e ∙ f

pub first_of : (a b : Bool) → (a && b) ≡ true → a ≡ true
first_of true b e = refl
first_of false b e = e

pub second_of : (a b : Bool) → (a && b) ≡ true → b ≡ true
second_of true b e = e
second_of false b e = absurd (false≢true e)

pub second_if : (a b : Bool) → a ≡ true → (a && b) ≡ false → b ≡ false
second_if a b e none = sym (ap (λ (x : Bool). x && b) e) ∙ none

past_bits : (words : List ℕ) (z : ℕ) → length words ≤ z / 64 → in_bits words z ≡ false
past_bits words z past =
    ap (λ (w : ℕ). nat_eq (bit_at w (z % 64)) 1) (get_or_past words (z / 64) 0 past) ∙ ap (λ (b : ℕ). nat_eq b 1) (bit_at-zero (z % 64))

-- none past the words
pub past_words : (words others : List ℕ) (z : ℕ) → length words ≤ z / 64 → in_both words others z ≡ false
past_words words others z past = first_not (in_bits words z) (in_bits others z) (past_bits words z past)

pub past_others : (words others : List ℕ) (at : ℕ) → length others ≤ at → (z : ℕ) → z / 64 ≡ at → in_both words others z ≡ false
past_others words others at past z place = second_not (in_bits words z) (in_bits others z) (past_bits others z (omega (arith, past, place)))

-- words that have no bit in common
pub none_common : (words others : List ℕ) (at : ℕ) → bit_and (get_or words at 0) (get_or others at 0) ≡ 0 → (z : ℕ) → z / 64 ≡ at → in_both words others z ≡ false
none_common words others at none z place = elim (either (in_bits words z)) [
  | inr e ↦ first_not (in_bits words z) (in_bits others z) e
  | inl e ↦ elim (either (in_bits others z)) [
    | inr f ↦ second_not (in_bits words z) (in_bits others z) f
    | inl f ↦
        (let one : bit_at (get_or words (z / 64) 0) (z % 64) ≡ 1 = eqb-true (bit_at (get_or words (z / 64) 0) (z % 64)) 1 e in
        let two : bit_at (get_or others (z / 64) 0) (z % 64) ≡ 1 = eqb-true (bit_at (get_or others (z / 64) 0) (z % 64)) 1 f in
        let each = bit_at_and (get_or words (z / 64) 0) (get_or others (z / 64) 0) (z % 64) in
        let zero : bit_at (bit_and (get_or words (z / 64) 0) (get_or others (z / 64) 0)) (z % 64) ≡ 0 =
        ap (λ (w : ℕ). bit_at w (z % 64)) (ap (λ (k : ℕ). bit_and (get_or words k 0) (get_or others k 0)) place ∙ none) ∙ bit_at-zero (z % 64) in
        absurd (omega (arith, one, two, each, zero)))
  ]
]

-- ---- downward through the numbers of one word

-- none of those in the words at the place whose rest is as high
abbrev pub NoneAbove : List ℕ → List ℕ → ℕ → ℕ → Type 0
NoneAbove words others at back = (z : ℕ) → z / 64 ≡ at → 63 < z % 64 + back → in_both words others z ≡ false

number_is : (z at rest : ℕ) → z / 64 ≡ at → z % 64 ≡ rest → at * 64 + rest ≡ z
number_is z at rest place same = omega (arith, place, same)

pub none_higher : (words others : List ℕ) (at back number : ℕ) → back < 64 → number ≡ at * 64 + (63 - back) → NoneAbove words others at back → in_both words others number ≡ false → NoneAbove words others at (back + 1)
none_higher words others at back number lt is before none z place high = elim (cases_lt 63 (z % 64 + back)) [
  | inl more ↦ before z place more
  | inr less ↦
      (let rest : z % 64 ≡ 63 - back = omega (arith, high, less, lt) in
      subst (λ (k : ℕ). in_both words others k ≡ false) (is ∙ number_is z at (63 - back) place rest) none)
]

pub top_here : (words others : List ℕ) (at back number : ℕ) → back < 64 → number ≡ at * 64 + (63 - back) → NoneAbove words others at back → in_both words others number ≡ true → IsTopIn words others at number
top_here words others at back number lt is before own = record {
  own = own;
  place = omega (arith, lt, is);
  highest = λ z place there. elim (cases_lt 63 (z % 64 + back)) [
    | inl more ↦ absurd (false≢true (sym (before z place more) ∙ there))
    | inr less ↦ omega (arith, place, less, is, lt)
  ];
}

pub none_in : (words others : List ℕ) (at back : ℕ) → 64 ≤ back → NoneAbove words others at back → (z : ℕ) → z / 64 ≡ at → in_both words others z ≡ false
none_in words others at back past before z place = before z place (omega (arith, past))

-- ---- downward through the words

-- none of those in the last words, this many
abbrev pub NonePast : List ℕ → List ℕ → ℕ → Type 0
NonePast words others back = (z : ℕ) → length words ≤ z / 64 + back → in_both words others z ≡ false

pub past_none : (words others : List ℕ) → NonePast words others 0
past_none words others z past = past_words words others z (omega (arith, past))

pub past_more : (words others : List ℕ) (at back : ℕ) → back < length words → at ≡ length words - 1 - back → NonePast words others back → ((z : ℕ) → z / 64 ≡ at → in_both words others z ≡ false) → NonePast words others (back + 1)
past_more words others at back lt is before none z past = elim (cases_lt (z / 64 + back) (length words)) [
  | inl less ↦ none z (omega (arith, less, past, is, lt))
  | inr more ↦ before z more
]

pub past_top : (words others : List ℕ) (at back number : ℕ) → back < length words → at ≡ length words - 1 - back → NonePast words others back → IsTopIn words others at number → IsTop words others number
past_top words others at back number lt is before top = record {
  own = top.own;
  highest = λ z there. elim (cases_lt (z / 64 + back) (length words)) [
    | inr more ↦ absurd (false≢true (sym (before z more) ∙ there))
    | inl less ↦ elim (cases_lt (z / 64) at) [
      | inl lower ↦ (let place = top.place in omega (arith, lower, place))
      | inr higher ↦ top.highest z (omega (arith, less, higher, is, lt)) there
    ]
  ];
}

pub past_all : (words others : List ℕ) (back : ℕ) → length words ≤ back → NonePast words others back → (z : ℕ) → in_both words others z ≡ false
past_all words others back past before z = before z (omega (arith, past))
