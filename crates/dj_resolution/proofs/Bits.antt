-- Sets of numbers as bits of words.
use Rattle.std.proofs.Common.{◌≡◌, ℕ, ◌*◌, ◌/◌, ◌%◌, ◌^◌, ◌<◌, ◌≤◌, Bool, true, false, List, [], ◌∷◌, ◌++◌, length, set, get_or, replicate, nat_eq, bit_and, bit_or, w64, refl, sym, ◌∙◌, ap, subst, inl, inr, arith, get_or-set_other, get_or-set_same, eqb-true, eq-eqb, if◌then◌else◌}
use Rattle.std.specs.Global.{Vec}
use Rattle.std.specs.Int.{bit_at}
use Rattle.std.proofs.lemmas.Bool.{cases_lt, false≢true, eqb-false}
use Rattle.std.proofs.lemmas.List.{get_or_past, length-append, length-map, map-append, map-set}
use Rattle.std.proofs.lemmas.Nat.Bits.{bit_at-lt, bit_at-zero, bit_at_and, bit_at_set_other, bit_at_set_same}
use Rattle.std.proofs.Math.ListN.{get_or-append, length-replicate, length-set}
use Rattle.std.proofs.Math.Seq.{get_or-append_seam}
use Rattle.dj_model.proofs.MappedNames.{either}
use Rattle.dj_resolution.specs.Numbers.{has, with_above, with_all, with_new, AreBelow, lists_of}
use Rattle.dj_resolution.specs.Bits.{AreBits, HaveBits, HaveRows, in_bits, words_for}
use Rattle.dj_resolution.proofs.Lists.{all_there, has_right, has_self}
use Rattle.dj_resolution.proofs.Marks.{get_none, has_push_other, item_is}

-- the word with the number's bit
abbrev pub with_bit : List ℕ → ℕ → ℕ
with_bit words n = bit_or (get_or words (n / 64) 0) (1 * 2 ^ (n % 64) % 2 ^ 64)

put_itself : (words : List ℕ) (n : ℕ) → n < length words * 64 → in_bits (set words (n / 64) (with_bit words n)) n ≡ true
put_itself words n lt =
    let within : n / 64 < length words = omega arith in
    let rest : n % 64 < 64 = omega arith in
    eq-eqb (bit_at (get_or (set words (n / 64) (with_bit words n)) (n / 64) 0) (n % 64)) 1
    (ap (λ (w : ℕ). bit_at w (n % 64)) (get_or-set_same words (n / 64) (with_bit words n) 0 within) ∙ bit_at_set_same w64 (get_or words (n / 64) 0) (n % 64) rest)

same_number : (n z : ℕ) → n / 64 ≡ z / 64 → n % 64 ≡ z % 64 → n ≡ z
same_number n z quotient rest = omega arith

put_other : (words : List ℕ) (n z : ℕ) → n < length words * 64 → (n ≡ z → ⊥) → in_bits (set words (n / 64) (with_bit words n)) z ≡ in_bits words z
put_other words n z lt apart = elim (either (nat_eq (z / 64) (n / 64))) [
  | inl e ↦
      (let same : z / 64 ≡ n / 64 = eqb-true (z / 64) (n / 64) e in
      let within : n / 64 < length words = omega arith in
      let rest : n % 64 < 64 = omega arith in
      ap (λ (w : ℕ). nat_eq (bit_at w (z % 64)) 1)
      (ap (λ (k : ℕ). get_or (set words (n / 64) (with_bit words n)) k 0) same ∙ get_or-set_same words (n / 64) (with_bit words n) 0 within)
      ∙ ap (λ (b : ℕ). nat_eq b 1) (bit_at_set_other w64 (get_or words (n / 64) 0) (n % 64) rest (z % 64) (λ same_rest. apart (same_number n z (sym same) (sym same_rest))))
      ∙ ap (λ (k : ℕ). nat_eq (bit_at (get_or words k 0) (z % 64)) 1) (sym same))
  | inr e ↦ ap (λ (w : ℕ). nat_eq (bit_at w (z % 64)) 1) (get_or-set_other words (n / 64) (z / 64) (with_bit words n) 0 (eqb-false (z / 64) (n / 64) e))
]

pub bit_put : (words : List ℕ) (n z : ℕ) → n < length words * 64 → in_bits (set words (n / 64) (with_bit words n)) z ≡ (if nat_eq n z then true else in_bits words z)
bit_put words n z lt = elim (either (nat_eq n z)) [
  | inl e ↦ rw e (subst (λ (j : ℕ). in_bits (set words (n / 64) (with_bit words n)) j ≡ true) (eqb-true n z e) (put_itself words n lt))
  | inr e ↦ rw e (put_other words n z lt (eqb-false n z e))
]

-- ---- bits of a list

pub bits_none : (words : List ℕ) (n : ℕ) → words ≡ replicate n 0 → AreBits [] words
bits_none words n none z =
    ap (λ (w : ℕ). nat_eq (bit_at w (z % 64)) 1) (ap (λ (ws : List ℕ). get_or ws (z / 64) 0) none ∙ get_none n (z / 64) 0) ∙ ap (λ (b : ℕ). nat_eq b 1) (bit_at-zero (z % 64))

pub bits_more : (list more words others : List ℕ) (n : ℕ) → AreBits list words → ((z : ℕ) → in_bits others z ≡ (if nat_eq n z then true else in_bits words z)) → more ≡ list ++ n ∷ [] → AreBits more others
bits_more list more words others n are put is z = put z ∙ elim (either (nat_eq n z)) [
  | inl e ↦ rw e (sym (ap (λ (xs : List ℕ). has xs z) is ∙ subst (λ (j : ℕ). has (list ++ n ∷ []) j ≡ true) (eqb-true n z e) (has_right list (n ∷ []) n (has_self [] n))))
  | inr e ↦ rw e (are z ∙ sym (ap (λ (xs : List ℕ). has xs z) is ∙ has_push_other list n z e))
]

-- ---- bits among bits

pub bits_among : (words others : List ℕ) → ((k : ℕ) → k < length others → bit_and (get_or words k 0) (get_or others k 0) ≡ get_or others k 0) → (z : ℕ) → in_bits others z ≡ true → in_bits words z ≡ true
bits_among words others each z there =
    let set : bit_at (get_or others (z / 64) 0) (z % 64) ≡ 1 = eqb-true (bit_at (get_or others (z / 64) 0) (z % 64)) 1 there in
    elim (cases_lt (z / 64) (length others)) [
      | inl lt ↦
          (let both = bit_at_and (get_or words (z / 64) 0) (get_or others (z / 64) 0) (z % 64) in
          let same = ap (λ (w : ℕ). bit_at w (z % 64)) (each (z / 64) lt) in
          let few = bit_at-lt (get_or words (z / 64) 0) (z % 64) in
          let own : bit_at (get_or words (z / 64) 0) (z % 64) ≡ 1 = omega (arith, both, same, few, set) in
          eq-eqb (bit_at (get_or words (z / 64) 0) (z % 64)) 1 own)
      | inr past ↦
          (let none : bit_at (get_or others (z / 64) 0) (z % 64) ≡ 0 = ap (λ (w : ℕ). bit_at w (z % 64)) (get_or_past others (z / 64) 0 past) ∙ bit_at-zero (z % 64) in
          absurd (omega (arith, none, set)))
    ]

-- the list has nothing new where its bits are there
pub nothing_more : (list above row : List ℕ) → AreBits above row → ((z : ℕ) → in_bits row z ≡ true → has list z ≡ true) → with_all list above ≡ list
nothing_more list above row are there = all_there list above (λ z h. there z (are z ∙ h))

-- ---- bits of each class

pub bits_known : (lists rows : List (List ℕ)) (marks : List Bool) (class : ℕ) (list words : List ℕ) → HaveBits lists rows marks → class < length marks → length lists ≡ length marks → AreBits list words → length words ≡ words_for (length marks)
    → HaveBits (set lists class list) (set rows class words) (set marks class true)
bits_known lists rows marks class list words have lt count are size =
    let within : class < length rows = omega (arith, lt, have.rows_count) in
    let inside : class < length lists = omega (arith, lt, count) in
    let same : length marks ≡ length (set marks class true) = sym (length-set marks class true) in
    record {
      rows_count = length-set rows class words ∙ have.rows_count ∙ same;
      each = λ k marked. elim (either (nat_eq k class)) [
        | inl e ↦ subst (λ (j : ℕ). AreBits (get_or (set lists class list) j []) (get_or (set rows class words) j [])) (sym (eqb-true k class e))
            (subst (λ (xs : List ℕ). AreBits xs (get_or (set rows class words) class [])) (sym (get_or-set_same lists class list [] inside)) (subst (AreBits list) (sym (get_or-set_same rows class words [] within)) are))
        | inr e ↦ subst (λ (xs : List ℕ). AreBits xs (get_or (set rows class words) k [])) (sym (get_or-set_other lists class k list [] (eqb-false k class e)))
            (subst (AreBits (get_or lists k [])) (sym (get_or-set_other rows class k words [] (eqb-false k class e))) (have.each k (sym (get_or-set_other marks class k true false (eqb-false k class e)) ∙ marked)))
      ];
      words = λ k marked. elim (either (nat_eq k class)) [
        | inl e ↦ subst (λ (j : ℕ). length (get_or (set rows class words) j []) ≡ words_for (length (set marks class true))) (sym (eqb-true k class e)) (ap length (get_or-set_same rows class words [] within) ∙ size ∙ ap words_for same)
        | inr e ↦ ap length (get_or-set_other rows class k words [] (eqb-false k class e)) ∙ have.words k (sym (get_or-set_other marks class k true false (eqb-false k class e)) ∙ marked) ∙ ap words_for same
      ];
    }

-- the same by the lists as the code holds them
pub bits_learnt : (lists rows : List (Vec ℕ)) (marks : List Bool) (class : ℕ) (list words : Vec ℕ) → HaveBits (lists_of lists) (lists_of rows) marks → class < length marks → length (lists_of lists) ≡ length marks → AreBits list.items words.items
    → length words.items ≡ words_for (length marks) → HaveBits (lists_of (set lists class list)) (lists_of (set rows class words)) (set marks class true)
bits_learnt lists rows marks class list words have lt count are size =
    subst (λ (ls : List (List ℕ)). HaveBits ls (lists_of (set rows class words)) (set marks class true)) (sym (map-set (λ (l : Vec ℕ). l.items) lists class list))
    (subst (λ (ls : List (List ℕ)). HaveBits (set (lists_of lists) class list.items) ls (set marks class true)) (sym (map-set (λ (l : Vec ℕ). l.items) rows class words))
    (bits_known (lists_of lists) (lists_of rows) marks class list.items words.items have lt count are size))

pub have_none : (lists rows : List (List ℕ)) (marks : List Bool) (n : ℕ) → length rows ≡ n → marks ≡ replicate n false → HaveBits lists rows marks
have_none lists rows marks n count none = record {
  rows_count = count ∙ sym (ap length none ∙ length-replicate n false);
  each = λ k marked. absurd (false≢true (sym (ap (λ (bs : List Bool). get_or bs k false) none ∙ get_none n k false) ∙ marked));
  words = λ k marked. absurd (false≢true (sym (ap (λ (bs : List Bool). get_or bs k false) none ∙ get_none n k false) ∙ marked));
}

-- ---- an interface with those above it

pub below_words : (bound count : ℕ) (xs : List ℕ) → AreBelow bound xs → count ≡ words_for bound → AreBelow (count * 64) xs
below_words bound count xs below is z there = let lt = below z there in omega (arith, lt, is)

-- where the bits of what is above it are there, the interface alone is new
pub alone_new : (lists rows : List (List ℕ)) (marks : List Bool) (list more row : List ℕ) (class : ℕ) → HaveBits lists rows marks → get_or marks class false ≡ true → has list class ≡ false → more ≡ with_new list class
    → row ≡ get_or rows class [] → ((z : ℕ) → in_bits row z ≡ true → has more z ≡ true) → more ≡ with_above lists list class
alone_new lists rows marks list more row class have marked new is same there =
    sym (ap (λ (b : Bool). if b then list else with_all list (class ∷ get_or lists class [])) new
    ∙ ap (λ (xs : List ℕ). with_all xs (get_or lists class [])) (sym is)
    ∙ nothing_more more (get_or lists class []) row (subst (AreBits (get_or lists class [])) (sym same) (have.each class marked)) there)

pub bits_row : (lists : List (List ℕ)) (rows : List (Vec ℕ)) (marks : List Bool) (class : ℕ) (found : Vec ℕ) (row : List ℕ) → HaveBits lists (lists_of rows) marks → class < length marks → found ≡ get_or rows class found → row ≡ found.items → row ≡ get_or (lists_of rows) class []
bits_row lists rows marks class found row have lt is same = let count = length-map rows (λ (l : Vec ℕ). l.items) in same ∙ item_is rows class found (omega (arith, count, have.rows_count, lt)) is

-- ---- bits of lists

pub no_rows : (lists rows : List (Vec ℕ)) → lists ≡ [] → HaveRows (lists_of lists) (lists_of rows)
no_rows lists rows none = subst (λ (ls : List (Vec ℕ)). HaveRows (lists_of ls) (lists_of rows)) (sym none) (record { each = λ k lt some. absurd (omega (arith, lt)) })

module _ (lists rows : List (List ℕ)) (list : List ℕ) (have : HaveRows lists rows) where
  -- those of the lists before
  still_rows : (k : ℕ) (words : List ℕ) → k < length lists → words ≡ get_or rows k [] → 0 < length words → AreBits (get_or (lists ++ list ∷ []) k []) words
  still_rows k words before is some =
      subst (λ (xs : List ℕ). AreBits xs words) (sym (get_or-append lists (list ∷ []) [] k before))
      (subst (AreBits (get_or lists k [])) (sym is) (have.each k before (subst (λ (ws : List ℕ). 0 < length ws) is some)))

  last_place : (k : ℕ) → k < length (lists ++ list ∷ []) → length lists ≤ k → k ≡ length lists
  last_place k lt after = let count = length-append lists (list ∷ []) in omega (arith, lt, after, count)

  row_put : (words : List ℕ) → AreBits list words → length lists < length rows → HaveRows (lists ++ list ∷ []) (set rows (length lists) words)
  row_put words are lt = record {
    each = λ k within some. elim (cases_lt k (length lists)) [
      | inl before ↦ still_rows k (get_or (set rows (length lists) words) k []) before (get_or-set_other rows (length lists) k words [] (λ e. omega (arith, before, e))) some
      | inr after ↦
          subst (λ (j : ℕ). AreBits (get_or (lists ++ list ∷ []) j []) (get_or (set rows (length lists) words) j [])) (sym (last_place k within after))
          (subst (λ (xs : List ℕ). AreBits xs (get_or (set rows (length lists) words) (length lists) [])) (sym (get_or-append_seam lists list [] []))
          (subst (AreBits list) (sym (get_or-set_same rows (length lists) words [] lt)) are))
    ];
  }

  row_left_out : length rows ≤ length lists → HaveRows (lists ++ list ∷ []) rows
  row_left_out past = record {
    each = λ k within some. elim (cases_lt k (length lists)) [
      | inl before ↦ still_rows k (get_or rows k []) before refl some
      | inr after ↦
          (let last = last_place k within after in
          let none : get_or rows k [] ≡ [] = get_or_past rows k [] (omega (arith, last, past)) in
          let zero = ap length none in
          absurd (omega (arith, some, zero)))
    ];
  }

-- the same by the lists as the code holds them

lists_with : (lists : List (Vec ℕ)) (list : Vec ℕ) → lists_of (lists ++ list ∷ []) ≡ lists_of lists ++ list.items ∷ []
lists_with lists list = map-append (λ (l : Vec ℕ). l.items) lists (list ∷ [])

pub bits_put : (lists others rows : List (Vec ℕ)) (list words : Vec ℕ) (place : ℕ) → HaveRows (lists_of lists) (lists_of rows) → AreBits list.items words.items → others ≡ lists ++ list ∷ [] → place ≡ length lists → place < length rows
    → HaveRows (lists_of others) (lists_of (set rows place words))
bits_put lists others rows list words place have are is at lt =
    let many = length-map lists (λ (l : Vec ℕ). l.items) in
    let count = length-map rows (λ (l : Vec ℕ). l.items) in
    let index : place ≡ length (lists_of lists) = omega (arith, many, at) in
    subst (λ (ls : List (List ℕ)). HaveRows ls (lists_of (set rows place words))) (sym (ap lists_of is ∙ lists_with lists list))
    (subst (λ (rs : List (List ℕ)). HaveRows (lists_of lists ++ list.items ∷ []) rs) (sym (map-set (λ (l : Vec ℕ). l.items) rows place words ∙ ap (λ (n : ℕ). set (lists_of rows) n words.items) index))
    (row_put (lists_of lists) (lists_of rows) list.items have words.items are (omega (arith, index, count, lt))))

pub bits_left_out : (lists others rows : List (Vec ℕ)) (list : Vec ℕ) → HaveRows (lists_of lists) (lists_of rows) → others ≡ lists ++ list ∷ [] → length rows ≤ length lists → HaveRows (lists_of others) (lists_of rows)
bits_left_out lists others rows list have is past =
    let many = length-map lists (λ (l : Vec ℕ). l.items) in
    let count = length-map rows (λ (l : Vec ℕ). l.items) in
    subst (λ (ls : List (List ℕ)). HaveRows ls (lists_of rows)) (sym (ap lists_of is ∙ lists_with lists list))
    (row_left_out (lists_of lists) (lists_of rows) list.items have (omega (arith, many, count, past)))
