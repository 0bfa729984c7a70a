-- What tokens say, as their tests answer it: words of tables, numbers, names and types of frames.
use Rattle.std.proofs.Common.{◌≡◌, ◌↔◌, ◌⊎◌, ℕ, zero, suc, ◌+◌, ◌^◌, ◌<◌, ◌≤◌, Bool, true, false, cond, not, eqb, leb, ◌&&◌, ℤ, pos, negsuc, neg_ℤ, FitsSigned, List, [], ◌∷◌, length, Option, Some, None, bytes_eq, slice_get, refl, sym, ap, ◌∙◌, subst, inl, inr, arith, Decides}
use Rattle.std.specs.Prelude.{⊤, nat_le}
use Rattle.std.specs.List.{AllByRecursion, list_all}
use Rattle.std.specs.Char.{digit_value, is_digit}
use Rattle.std.specs.Str.Parse.{IsNumeral, AllDigits, digits_value}
use Rattle.std.specs.Int.{w8, w16, w32, w64}
use Rattle.std.proofs.lemmas.Bool.{leb-true, le-leb, ltb-true, lt-ltb, eqb-true, ne_eqb, cases_Bool, and_parts, and_from}
use Rattle.std.proofs.lemmas.Bool.Decides.{Decides-and, Decides-or, Decides-ltb}
use Rattle.std.proofs.lemmas.Slice.Eq.{bytes_eq-Decides}
use Rattle.dj_cursor.specs.trusted.Options.{◌>>=◌}
use Rattle.dj_cursor.proofs.Options.{some_is, chose_some}
use Rattle.dj_names.specs.trusted.ModifiedUtf8.{units_text}
use Rattle.dj_names.specs.Tests.{class_name_test, array_descriptor_test}
use Rattle.dj_names.proofs.TestLaws.{class_name_test-decides, array_descriptor_test-decides}
use Rattle.dj_pool.specs.trusted.Pool.{IsClassText}
use Rattle.dj_asm_tokens.specs.trusted.Words.{Token, Word, Quoted, Bad, LineEnd}
use Rattle.dj_asm_source.specs.trusted.Items.{Item, Exactly, Flags, Number, Text, Ended, Says, SaysFlags, SaysPlainNumber, SaysMinusNumber, SaysCalled}
use Rattle.dj_asm_source.specs.trusted.Lines.{FitsBits, called}
use Rattle.dj_asm_tokens.specs.WordReading.{tested, row_of, place_from, is_numeral, number_in, class_text_test}
use Rattle.dj_asm_source.specs.Reading.{word_of, string_of, end_of, exactly, flags_of, number_of, is_between, is_signed, name_of}
use Rattle.dj_asm_source.proofs.Choices.{IsReported}

-- ---- words

-- a test on words answers what they say
pub record IsWordReported {A : Type 0} (item : A → Item) (is : A → Type 0) (says : List ℕ → Option A) : Type 0 where
  pub sound : (word : List ℕ) (a : A) → says word ≡ Some a → is a × Says (item a) (Word word)
  pub whole : (token : Token) (a : A) → is a → Says (item a) token → (word : List ℕ) × (token ≡ Word word) × (says word ≡ Some a)

module _ {A : Type 0} (item : A → Item) (is : A → Type 0) (says : List ℕ → Option A) (reported : IsWordReported item is says) where
  word_sound : (token : Token) (a : A) → (word_of token >>= says) ≡ Some a → is a × Says (item a) token
  word_sound (Word word) a e = reported.sound word a e
  word_sound (Quoted units) a e = absurd cc
  word_sound Bad a e = absurd cc
  word_sound LineEnd a e = absurd cc

  word_whole : (token : Token) (a : A) → is a → Says (item a) token → (word_of token >>= says) ≡ Some a
  word_whole token a i said = let w = reported.whole token a i said in subst (λ t. (word_of t >>= says) ≡ Some a) (sym w.1) w.2

  pub word_reported : IsReported item is (λ token. word_of token >>= says)
  word_reported = record { sound = word_sound; whole = word_whole }

-- ---- tables

-- the word of a row at which a word stands
pub row_sound : {K : Type 0} (spelled : K → List ℕ) (rows : List (List ℕ × K)) (word : List ℕ) (k : K)
    → AllByRecursion (λ (row : List ℕ × K). row.0 ≡ spelled row.1) rows → row_of rows word ≡ Some k → word ≡ spelled k
row_sound spelled [] word k all e = absurd cc
row_sound {K} spelled (row ∷ rows) word k all e =
    elim (cases_Bool (bytes_eq row.0 word)) [
      | inl t ↦ sym ((bytes_eq-Decides row.0 word).0 t) ∙ (all.0 ∙ ap spelled (some_is row.1 k (sym (ap (λ b. cond b (Some row.1) (row_of rows word)) t) ∙ e)))
      | inr t ↦ row_sound spelled rows word k all.1 (sym (ap (λ b. cond b (Some row.1) (row_of rows word)) t) ∙ e)
    ]

-- what all rows' values have
pub row_value : {K : Type 0} (P : K → Type 0) (rows : List (List ℕ × K)) (word : List ℕ) (k : K) → AllByRecursion (λ (row : List ℕ × K). P row.1) rows → row_of rows word ≡ Some k → P k
row_value P [] word k all e = absurd cc
row_value P (row ∷ rows) word k all e =
    elim (cases_Bool (bytes_eq row.0 word)) [
      | inl t ↦ subst P (some_is row.1 k (sym (ap (λ b. cond b (Some row.1) (row_of rows word)) t) ∙ e)) all.0
      | inr t ↦ row_value P rows word k all.1 (sym (ap (λ b. cond b (Some row.1) (row_of rows word)) t) ∙ e)
    ]

-- the place of a word is in the list
pub place_sound : (n : ℕ) (words : List (List ℕ)) (word : List ℕ) (i : ℕ) → place_from n words word ≡ Some i → (k : ℕ) × (i ≡ n + k) × (slice_get words k ≡ Some word) × (k < length words)
place_sound n [] word i e = absurd cc
place_sound n (w ∷ ws) word i e =
    elim (cases_Bool (bytes_eq w word)) [
      | inl t ↦
          let same : n ≡ i = some_is n i (sym (ap (λ b. cond b (Some n) (place_from (suc n) ws word)) t) ∙ e) in
          (0, omega (arith, same), ap (λ v. Some v) ((bytes_eq-Decides w word).0 t), omega arith)
      | inr t ↦
          let r = place_sound (suc n) ws word i (sym (ap (λ b. cond b (Some n) (place_from (suc n) ws word)) t) ∙ e) in
          (suc r.0, omega (arith, r.1), r.2, omega (arith, r.3))
    ]

-- words of which each differs from those after it
abbrev pub apart : List (List ℕ) → Bool
apart [] = true
apart (w ∷ ws) = list_all (λ v. not (bytes_eq w v)) ws && apart ws

differs : (w : List ℕ) (ws : List (List ℕ)) (i : ℕ) (word : List ℕ) → list_all (λ v. not (bytes_eq w v)) ws ≡ true → slice_get ws i ≡ Some word → bytes_eq w word ≡ false
differs w [] i word all e = absurd cc
differs w (v ∷ vs) zero word all e = by (bytes_eq w v) refl all where
  by : (b : Bool) → bytes_eq w v ≡ b → (not b && list_all (λ v. not (bytes_eq w v)) vs) ≡ true → bytes_eq w word ≡ false
  by true t all = absurd cc
  by false t all = ap (bytes_eq w) (sym (some_is v word e)) ∙ t
differs w (v ∷ vs) (suc i) word all e = differs w vs i word (and_parts (not (bytes_eq w v)) (list_all (λ v. not (bytes_eq w v)) vs) all).1 e

pub place_whole : (n : ℕ) (words : List (List ℕ)) (i : ℕ) (word : List ℕ) → apart words ≡ true → slice_get words i ≡ Some word → place_from n words word ≡ Some (n + i)
place_whole n [] i word all e = absurd cc
place_whole n (w ∷ ws) zero word all e =
    let here : n ≡ n + 0 = omega arith in
    ap (λ b. cond b (Some n) (place_from (suc n) ws word)) ((bytes_eq-Decides w word).1 (some_is w word e)) ∙ ap (λ k. Some k) here
place_whole n (w ∷ ws) (suc i) word all e =
    let a = and_parts (list_all (λ v. not (bytes_eq w v)) ws) (apart ws) all in
    let next : suc n + i ≡ n + suc i = omega arith in
    ap (λ b. cond b (Some n) (place_from (suc n) ws word)) (differs w ws i word a.0 e) ∙ (place_whole (suc n) ws i word a.1 e ∙ ap (λ k. Some k) next)

-- ---- tokens without a test

pub end_reported : IsReported (λ (x : ⊤). Ended) (λ x. ⊤) end_of
end_reported = record { sound = sound; whole = whole } where
  sound : (token : Token) (x : ⊤) → end_of token ≡ Some x → ⊤ × (token ≡ LineEnd)
  sound LineEnd x e = (tt, refl)
  sound (Word word) x e = absurd cc
  sound (Quoted units) x e = absurd cc
  sound Bad x e = absurd cc

  whole : (token : Token) (x : ⊤) → ⊤ → token ≡ LineEnd → end_of token ≡ Some x
  whole token x i e = ap end_of e

pub string_reported : IsReported Text (λ units. ⊤) string_of
string_reported = record { sound = sound; whole = λ token units i e. ap string_of e } where
  sound : (token : Token) (units : List ℕ) → string_of token ≡ Some units → ⊤ × (token ≡ Quoted units)
  sound LineEnd x e = absurd cc
  sound (Word word) x e = absurd cc
  sound (Quoted units) x e = (tt, ap Quoted (some_is units x e))
  sound Bad x e = absurd cc

-- any word that passes, as itself
pub label_reported : IsReported Exactly (λ units. ⊤) word_of
label_reported = record { sound = sound; whole = λ token units i e. ap word_of e } where
  sound : (token : Token) (units : List ℕ) → word_of token ≡ Some units → ⊤ × (token ≡ Word units)
  sound LineEnd x e = absurd cc
  sound (Word word) x e = (tt, ap Word (some_is word x e))
  sound (Quoted units) x e = absurd cc
  sound Bad x e = absurd cc

exactly_word_reported : (word : List ℕ) → IsWordReported (λ (x : ⊤). Exactly word) (λ x. ⊤) (row_of ((word, tt) ∷ []))
exactly_word_reported word = record {
  sound = λ w x e. (tt, ap Word (row_sound (λ (k : ⊤). word) ((word, tt) ∷ []) w x (refl, tt) e));
  whole = λ token x i e. (word, e, ap (λ b. cond b (Some tt) None) ((bytes_eq-Decides word word).1 refl));
}

pub exactly_reported : (word : List ℕ) → IsReported (λ (x : ⊤). Exactly word) (λ x. ⊤) (exactly word)
exactly_reported word = word_reported (λ (x : ⊤). Exactly word) (λ x. ⊤) (row_of ((word, tt) ∷ [])) (exactly_word_reported word)

-- ---- numbers

digits_decide : (radix : ℕ) (digits : List ℕ) → Decides (list_all (λ b. is_digit b radix) digits) (AllDigits radix digits)
digits_decide radix [] = ((λ e. tt), (λ a. refl))
digits_decide radix (c ∷ cs) = Decides-and (is_digit c radix) (list_all (λ b. is_digit b radix) cs) (Decides-ltb (digit_value c) radix) (digits_decide radix cs)

pub numeral_decides : (radix : ℕ) (digits : List ℕ) → Decides (is_numeral radix digits) (IsNumeral radix digits)
numeral_decides radix digits =
    Decides-and (nat_le 1 (length digits)) (list_all (λ b. is_digit b radix) digits) ((λ e. leb-true 1 (length digits) e), (λ l. le-leb 1 (length digits) l)) (digits_decide radix digits)

flags_word_reported : IsWordReported Flags (λ n. ⊤) (λ word. cond (is_numeral 16 word && nat_le (length word) 4) (Some (digits_value 16 word)) None)
flags_word_reported = record { sound = sound; whole = whole } where
  both : (word : List ℕ) → Decides (is_numeral 16 word && nat_le (length word) 4) (IsNumeral 16 word × (length word ≤ 4))
  both word = Decides-and (is_numeral 16 word) (nat_le (length word) 4) (numeral_decides 16 word) ((λ e. leb-true (length word) 4 e), (λ l. le-leb (length word) 4 l))

  sound : (word : List ℕ) (n : ℕ) → cond (is_numeral 16 word && nat_le (length word) 4) (Some (digits_value 16 word)) None ≡ Some n → ⊤ × SaysFlags n (Word word)
  sound word n e =
      let c = chose_some (is_numeral 16 word && nat_le (length word) 4) (digits_value 16 word) n e in
      let b = (both word).0 c.0 in
      (tt, record { digits = word; word = refl; numeral = b.0; few = b.1; value = sym c.1 })

  whole : (token : Token) (n : ℕ) → ⊤ → SaysFlags n token → (word : List ℕ) × (token ≡ Word word) × (cond (is_numeral 16 word && nat_le (length word) 4) (Some (digits_value 16 word)) None ≡ Some n)
  whole token n i s = (s.digits, s.word, ap (λ b. cond b (Some (digits_value 16 s.digits)) None) ((both s.digits).1 (s.numeral, s.few)) ∙ ap (λ v. Some v) (sym s.value))

pub flags_reported : IsReported Flags (λ n. ⊤) flags_of
flags_reported = word_reported Flags (λ n. ⊤) (λ word. cond (is_numeral 16 word && nat_le (length word) 4) (Some (digits_value 16 word)) None) flags_word_reported

no_minus : (c : ℕ) (cs : List ℕ) → IsNumeral 10 (c ∷ cs) → eqb c 45 ≡ false
no_minus c cs n = ne_eqb c 45 (λ e. not_digit (subst (λ (b : ℕ). digit_value b < 10) e n.1.0)) where
  not_digit : digit_value 45 < 10 → ⊥
  not_digit l = omega (arith, l)

pub number_word_reported : IsWordReported Number (λ z. ⊤) number_in
number_word_reported = record { sound = sound; whole = whole } where
  sound : (word : List ℕ) (z : ℤ) → number_in word ≡ Some z → ⊤ × (SaysPlainNumber z (Word word) ⊎ SaysMinusNumber z (Word word))
  sound [] z e = absurd cc
  sound (b ∷ bs) z e = by (eqb b 45) refl e where
    by : (t : Bool) → eqb b 45 ≡ t
        → cond t (cond (is_numeral 10 bs) (Some (neg_ℤ (pos (digits_value 10 bs)))) None) (cond (is_numeral 10 (b ∷ bs)) (Some (pos (digits_value 10 (b ∷ bs)))) None) ≡ Some z
        → ⊤ × (SaysPlainNumber z (Word (b ∷ bs)) ⊎ SaysMinusNumber z (Word (b ∷ bs)))
    by true t e =
        let c = chose_some (is_numeral 10 bs) (neg_ℤ (pos (digits_value 10 bs))) z e in
        (tt, inr (record { digits = bs; word = ap (λ u. Word (u ∷ bs)) (eqb-true b 45 t); numeral = (numeral_decides 10 bs).0 c.0; value = sym c.1 }))
    by false t e =
        let c = chose_some (is_numeral 10 (b ∷ bs)) (pos (digits_value 10 (b ∷ bs))) z e in
        (tt, inl (record { digits = b ∷ bs; word = refl; numeral = (numeral_decides 10 (b ∷ bs)).0 c.0; value = sym c.1 }))

  plain : (digits : List ℕ) → IsNumeral 10 digits → number_in digits ≡ Some (pos (digits_value 10 digits))
  plain [] n = absurd (omega (arith, n.0))
  plain (b ∷ bs) n =
      ap (λ t. cond t (cond (is_numeral 10 bs) (Some (neg_ℤ (pos (digits_value 10 bs)))) None) (cond (is_numeral 10 (b ∷ bs)) (Some (pos (digits_value 10 (b ∷ bs)))) None)) (no_minus b bs n)
      ∙ ap (λ t. cond t (Some (pos (digits_value 10 (b ∷ bs)))) None) ((numeral_decides 10 (b ∷ bs)).1 n)

  whole : (token : Token) (z : ℤ) → ⊤ → SaysPlainNumber z token ⊎ SaysMinusNumber z token → (word : List ℕ) × (token ≡ Word word) × (number_in word ≡ Some z)
  whole token z i (inl s) = (s.digits, s.word, plain s.digits s.numeral ∙ ap (λ v. Some v) (sym s.value))
  whole token z i (inr s) =
      (45 ∷ s.digits, s.word, ap (λ t. cond t (Some (neg_ℤ (pos (digits_value 10 s.digits)))) None) ((numeral_decides 10 s.digits).1 s.numeral) ∙ ap (λ v. Some v) (sym s.value))

pub number_reported : IsReported Number (λ z. ⊤) number_of
number_reported = word_reported Number (λ z. ⊤) number_in number_word_reported

-- ---- sizes

pub any_decides : {A : Type 0} (a : A) → (true ≡ true) ↔ ⊤
any_decides a = ((λ e. tt), (λ t. refl))

pub bits_decide : (bits high : ℕ) → suc high ≡ 2 ^ bits → (z : ℤ) → (is_between 0 high z ≡ true) ↔ FitsBits bits z
bits_decide bits high e (pos n) = (
  (λ t. (n, refl, omega (arith, leb-true n high (and_parts (leb 0 n) (leb n high) t).1, e))),
  (λ f. and_from (leb 0 n) (leb n high) (le-leb 0 n (omega arith)) (le-leb n high (below f.0 f.1 f.2))),
) where
  below : (m : ℕ) → pos n ≡ pos m → m < 2 ^ bits → n ≤ high
  below m same l = let equal : n ≡ m = cc in omega (arith, equal, l, e)
bits_decide bits high e (negsuc n) = ((λ t. absurd cc), (λ f. absurd cc (f.1)))

pub chop_decides : (z : ℤ) → (is_between 1 3 z ≡ true) ↔ ((m : ℕ) × (z ≡ pos m) × (1 ≤ m) × (m ≤ 3))
chop_decides (pos n) = (
  (λ t. let b = (Decides-and (nat_le 1 n) (nat_le n 3) ((λ e. leb-true 1 n e), (λ l. le-leb 1 n l)) ((λ e. leb-true n 3 e), (λ l. le-leb n 3 l))).0 t in (n, refl, b.0, b.1)),
  (λ f. at f.0 f.1 f.2 f.3),
) where
  at : (m : ℕ) → pos n ≡ pos m → 1 ≤ m → m ≤ 3 → is_between 1 3 (pos n) ≡ true
  at m same low high =
      let equal : m ≡ n = cc in
      (Decides-and (nat_le 1 n) (nat_le n 3) ((λ e. leb-true 1 n e), (λ l. le-leb 1 n l)) ((λ e. leb-true n 3 e), (λ l. le-leb n 3 l))).1
      (subst (λ k. 1 ≤ k) equal low, subst (λ k. k ≤ 3) equal high)
chop_decides (negsuc n) = ((λ t. absurd cc), (λ f. absurd cc (f.1)))

pub signed_8 : (z : ℤ) → (is_signed 7 z ≡ true) ↔ FitsSigned w8 z
signed_8 (pos n) = ((λ t. record { sfits = ltb-true n (2 ^ 7) t }), (λ f. lt-ltb n (2 ^ 7) f.sfits))
signed_8 (negsuc n) = ((λ t. record { sfits = ltb-true n (2 ^ 7) t }), (λ f. lt-ltb n (2 ^ 7) f.sfits))

pub signed_16 : (z : ℤ) → (is_signed 15 z ≡ true) ↔ FitsSigned w16 z
signed_16 (pos n) = ((λ t. record { sfits = ltb-true n (2 ^ 15) t }), (λ f. lt-ltb n (2 ^ 15) f.sfits))
signed_16 (negsuc n) = ((λ t. record { sfits = ltb-true n (2 ^ 15) t }), (λ f. lt-ltb n (2 ^ 15) f.sfits))

pub signed_32 : (z : ℤ) → (is_signed 31 z ≡ true) ↔ FitsSigned w32 z
signed_32 (pos n) = ((λ t. record { sfits = ltb-true n (2 ^ 31) t }), (λ f. lt-ltb n (2 ^ 31) f.sfits))
signed_32 (negsuc n) = ((λ t. record { sfits = ltb-true n (2 ^ 31) t }), (λ f. lt-ltb n (2 ^ 31) f.sfits))

pub signed_64 : (z : ℤ) → (is_signed 63 z ≡ true) ↔ FitsSigned w64 z
signed_64 (pos n) = ((λ t. record { sfits = ltb-true n (2 ^ 63) t }), (λ f. lt-ltb n (2 ^ 63) f.sfits))
signed_64 (negsuc n) = ((λ t. record { sfits = ltb-true n (2 ^ 63) t }), (λ f. lt-ltb n (2 ^ 63) f.sfits))

-- ---- names

module _ (test : List ℕ → Bool) (is : List ℕ → Type 0) (decides : (text : List ℕ) → (test text ≡ true) ↔ is text) where
  name_word_reported : IsWordReported called is (λ word. tested test (units_text word))
  name_word_reported = record { sound = sound; whole = whole } where
    sound : (word text : List ℕ) → tested test (units_text word) ≡ Some text → is text × SaysCalled [] text (Word word)
    sound word text e =
        let c = chose_some (test (units_text word)) (units_text word) text e in
        (subst is c.1 ((decides (units_text word)).0 c.0), record { units = word; word = refl; value = sym c.1 })

    whole : (token : Token) (text : List ℕ) → is text → SaysCalled [] text token → (word : List ℕ) × (token ≡ Word word) × (tested test (units_text word) ≡ Some text)
    whole token text i s =
        (s.units, s.word, ap (λ b. cond b (Some (units_text s.units)) None) ((decides (units_text s.units)).1 (subst is s.value i)) ∙ ap (λ v. Some v) (sym s.value))

  pub name_reported : IsReported called is (name_of test)
  name_reported = word_reported called is (λ word. tested test (units_text word)) name_word_reported

pub class_text_decides : (text : List ℕ) → (class_text_test text ≡ true) ↔ IsClassText text
class_text_decides text = Decides-or (class_name_test text) (array_descriptor_test text) (class_name_test-decides text) (array_descriptor_test-decides text)

-- ---- words of a table

module _ {K : Type 0} (spelled : K → List ℕ) (rows : List (List ℕ × K)) (are : AllByRecursion (λ (row : List ℕ × K). row.0 ≡ spelled row.1) rows) (each : (k : K) → row_of rows (spelled k) ≡ Some k) where
  pub row_word_reported : IsWordReported (λ k. Exactly (spelled k)) (λ k. ⊤) (row_of rows)
  row_word_reported = record { sound = λ word k e. (tt, ap Word (row_sound spelled rows word k are e)); whole = λ token k i e. (spelled k, e, each k) }

  pub rows_reported : IsReported (λ k. Exactly (spelled k)) (λ k. ⊤) (λ token. word_of token >>= row_of rows)
  rows_reported = word_reported (λ k. Exactly (spelled k)) (λ k. ⊤) (row_of rows) row_word_reported
