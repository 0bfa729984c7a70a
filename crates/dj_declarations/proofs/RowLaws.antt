-- The first of the rows that have two numbers, by places in the order of the numbers.
use Rattle.std.proofs.Common.{◌≡◌, ℕ, zero, suc, ◌+◌, ◌*◌, ◌<◌, ◌≤◌, ◌&&◌, Bool, true, false, cond, eqb, ltb, List, [], ◌∷◌, ◌++◌, length, All, get_or, Option, Some, None, refl, sym, ap, ◌∙◌, subst, arith, add-one, inl, inr}
use Rattle.std.specs.Prelude.{slice_get}
use Rattle.std.specs.Option.{option_map}
use Rattle.std.specs.List.{Contains}
use Rattle.std.specs.List.Sorted.{IsPermutation, IsNonDecreasingBy, IsPartitionPoint, IsPartitionedBy}
use Rattle.std.proofs.lemmas.Bool.{eqb-true, eq-eqb, ltb-true, ltb-false, cases_lt}
use Rattle.std.proofs.lemmas.List.{length_push, get_or_append_left, get_or_default}
use Rattle.std.proofs.lemmas.List.Sorted.{All-permutation, Contains-permutation, IsPartitionedBy-ltb}
use Rattle.std.proofs.lemmas.Option.{same_Some, get_or_from_slice_get, slice_get_read, slice_get_past}
use Rattle.std.proofs.Math.Seq.{get_or-append_seam}
use Rattle.dj_declarations.specs.declared.members.MemberRow.{MemberRow}
use Rattle.dj_declarations.specs.MemberRows.{is_row, first_row, pair_of, key_by, key_at, IsAnswer, AreCounted, AreOrdered}

abbrev later : ℕ → ℕ
later place = place + 1

both_parts : (a b : Bool) → (a && b) ≡ true → (a ≡ true) × (b ≡ true)
both_parts true b e = (refl, e)
both_parts false b e = absurd cc

both_true : (a b : Bool) → a ≡ true → b ≡ true → (a && b) ≡ true
both_true true b e f = f
both_true false b e f = absurd cc

not_true : (b : Bool) → (b ≡ true → ⊥) → b ≡ false
not_true true wrong = absurd (wrong refl)
not_true false wrong = refl

-- ---- the first row, by what the others are

first_is : (name desc : ℕ) (rows : List MemberRow) (place : ℕ) (row : MemberRow) → slice_get rows place ≡ Some row → is_row name desc row ≡ true
    → ((other : ℕ) (r : MemberRow) → other < place → slice_get rows other ≡ Some r → is_row name desc r ≡ false) → first_row name desc rows ≡ Some place
first_is name desc [] place row at is none = absurd cc
first_is name desc (r ∷ rows) zero row at is none = ap (λ (b : Bool). cond b (Some 0) (option_map later (first_row name desc rows))) (ap (is_row name desc) (same_Some r row at) ∙ is)
first_is name desc (r ∷ rows) (suc place) row at is none =
    ap (λ (b : Bool). cond b (Some 0) (option_map later (first_row name desc rows))) (none 0 r (omega arith) refl)
    ∙ ap (option_map later) (first_is name desc rows place row at is (λ other x lt there. none (suc other) x (omega (arith, lt)) there))
    ∙ ap Some (add-one place)

none_is : (name desc : ℕ) (rows : List MemberRow) → ((other : ℕ) (r : MemberRow) → slice_get rows other ≡ Some r → is_row name desc r ≡ false) → first_row name desc rows ≡ None
none_is name desc [] none = refl
none_is name desc (r ∷ rows) none =
    ap (λ (b : Bool). cond b (Some 0) (option_map later (first_row name desc rows))) (none 0 r refl)
    ∙ ap (option_map later) (none_is name desc rows (λ other x there. none (suc other) x there))

inside : (rows : List MemberRow) (place : ℕ) (row : MemberRow) → slice_get rows place ≡ Some row → place < length rows
inside [] place row at = absurd cc
inside (r ∷ rows) zero row at = omega arith
inside (r ∷ rows) (suc place) row at = let lt = inside rows place row at in omega (arith, lt)

there_is : (rows : List MemberRow) (place : ℕ) → place < length rows → (row : MemberRow) × (slice_get rows place ≡ Some row)
there_is [] place lt = absurd (omega (arith, lt))
there_is (r ∷ rows) zero lt = (r, refl)
there_is (r ∷ rows) (suc place) lt = there_is rows place (omega (arith, lt))

key_is : (rows : List MemberRow) (place : ℕ) (row : MemberRow) → slice_get rows place ≡ Some row → key_at rows place ≡ pair_of row.name row.desc * 65536 + place
key_is rows place row at = ap (λ (found : Option MemberRow). key_by found place) at

pub key_there : (rows : List MemberRow) (place : ℕ) (row : MemberRow) → place < length rows → row ≡ get_or rows place row → pair_of row.name row.desc * 65536 + place ≡ key_at rows place
key_there rows place row lt is = sym (key_is rows place row (slice_get_read rows (length rows) place row refl lt is))

pub key_past : (rows : List MemberRow) (place : ℕ) → length rows ≤ place → place ≡ key_at rows place
key_past rows place past = sym (ap (λ (found : Option MemberRow). key_by found place) (slice_get_past rows place past))

-- ---- a look-up

module _ (rows : List MemberRow) (order : List ℕ) (ordered : AreOrdered rows order) (name desc : ℕ) where
  abbrev target : ℕ
  target = pair_of name desc * 65536

  abbrev IsPoint : ℕ → Type 0
  IsPoint i = IsPartitionPoint (λ place. ltb (key_at rows place) (pair_of name desc * 65536) ≡ true) (λ place. ltb (key_at rows place) (pair_of name desc * 65536) ≡ false) order i

  -- the key of such a row
  such_key : (other : ℕ) (r : MemberRow) → slice_get rows other ≡ Some r → is_row name desc r ≡ true → key_at rows other ≡ target + other
  such_key other r at is =
      let parts = both_parts (eqb r.name name) (eqb r.desc desc) is in
      let name_is = eqb-true r.name name parts.0 in
      let desc_is = eqb-true r.desc desc parts.1 in
      key_is rows other r at ∙ ap (λ (n : ℕ). pair_of n r.desc * 65536 + other) name_is ∙ ap (λ (d : ℕ). pair_of name d * 65536 + other) desc_is

  -- such a row stands at the point or after it
  such_after : (i : ℕ) → IsPoint i → (other : ℕ) (r : MemberRow) → slice_get rows other ≡ Some r → is_row name desc r ≡ true → ((k : ℕ) → k < length order → i ≤ k → get_or order k other ≡ other → ⊥) → ⊥
  such_after i point other r at is none = ordered.whole other (inside rows other r at) (λ k within same. elim (cases_lt k i) [
    | inl before ↦
        (let low = point.0 k other (omega arith) before in
        let key = such_key other r at is in
        let here = ap (key_at rows) same in
        let less = ltb-true (key_at rows (get_or order k other)) (pair_of name desc * 65536) low in
        absurd (omega (arith, less, key, here)))
    | inr after ↦ none k within after same
  ])

  pub past_all : (i : ℕ) → IsPoint i → length order ≤ i → None ≡ first_row name desc rows
  past_all i point past = sym (none_is name desc rows (λ other r at. not_true (is_row name desc r) (λ is.
      such_after i point other r at is (λ k within after same. absurd (omega (arith, within, after, past))))))

  module _ (i place : ℕ) (row : MemberRow) (point : IsPoint i) (within : i < length order) (at_place : place ≡ get_or order i place) (at_row : slice_get rows place ≡ Some row) where
    own_key : key_at rows place ≡ pair_of row.name row.desc * 65536 + place
    own_key = key_is rows place row at_row

    -- it comes before each such row
    no_later : (other : ℕ) (r : MemberRow) → slice_get rows other ≡ Some r → is_row name desc r ≡ true → (key_at rows place ≤ target + other → ⊥) → ⊥
    no_later other r at is wrong = such_after i point other r at is (λ k inside_k after same.
        let rises = ordered.ascend i k place after inside_k in
        let here = ap (key_at rows) at_place in
        let key = such_key other r at is in
        let there = ap (key_at rows) (get_or_default order k place other inside_k ∙ same) in
        wrong (omega (arith, rises, here, key, there)))

    pub found_first : is_row name desc row ≡ true → Some place ≡ first_row name desc rows
    found_first such = sym (first_is name desc rows place row at_row such
        (λ other r lt at. not_true (is_row name desc r) (λ is. no_later other r at is (λ le. (let key = such_key place row at_row such in absurd (omega (arith, le, key, lt)))))))

    pub found_none : (pair_of row.name row.desc ≡ pair_of name desc → ⊥) → None ≡ first_row name desc rows
    found_none other_pair = sym (none_is name desc rows (λ other r at. not_true (is_row name desc r) (λ is. no_later other r at is (λ le.
        (let key = own_key in
        let few = ordered.few in
        let lt = inside rows other r at in
        let place_lt = inside rows place row at_row in
        let low = point.1 i place (omega arith) within in
        let here = ap (key_at rows) at_place in
        let below = ltb-false (key_at rows (get_or order i place)) (pair_of name desc * 65536) low in
        let above : target ≤ key_at rows place = omega (arith, below, here) in
        other_pair (omega (arith, le, key, few, lt, place_lt, above)))))))

-- the answer from the row at the point is right
pub answer_is : (rows : List MemberRow) (order : List ℕ) (name desc i place : ℕ) (result : Option ℕ) → AreOrdered rows order
    → IsPartitionPoint (λ k. ltb (key_at rows k) (pair_of name desc * 65536) ≡ true) (λ k. ltb (key_at rows k) (pair_of name desc * 65536) ≡ false) order i
    → i < length order → place ≡ get_or order i place → IsAnswer rows place name desc result → result ≡ first_row name desc rows
answer_is rows order name desc i place result ordered point within at_place reported =
    let inside_rows : place < length rows = subst (λ (k : ℕ). k < length rows) (sym at_place) (ordered.within i place within) in
    let at_row = there_is rows place inside_rows in
    by result at_row.0 at_row.1 reported where
      by : (found : Option ℕ) (row : MemberRow) → slice_get rows place ≡ Some row → IsAnswer rows place name desc found → found ≡ first_row name desc rows
      by None row at_row reported = found_none rows order ordered name desc i place row point within at_place at_row (reported row at_row)
      by (Some found) row at_row reported = ap Some reported.0 ∙ found_first rows order ordered name desc i place row point within at_place at_row (reported.1 row at_row)

pub none_past : (rows : List MemberRow) (order : List ℕ) (name desc i : ℕ) → AreOrdered rows order
    → IsPartitionPoint (λ k. ltb (key_at rows k) (pair_of name desc * 65536) ≡ true) (λ k. ltb (key_at rows k) (pair_of name desc * 65536) ≡ false) order i
    → length order ≤ i → None ≡ first_row name desc rows
none_past rows order name desc i ordered point past = past_all rows order ordered name desc i point past

pub place_within : (rows : List MemberRow) (order : List ℕ) (i place : ℕ) → AreOrdered rows order → i < length order → place ≡ get_or order i place → place < length rows
place_within rows order i place ordered within at_place = subst (λ (k : ℕ). k < length rows) (sym at_place) (ordered.within i place within)

-- what a comparison of two pairs shows
pub such_row : (rows : List MemberRow) (place name desc : ℕ) (row found : MemberRow) → place < length rows → row ≡ get_or rows place row → row.desc < 65536 → desc < 65536 → pair_of row.name row.desc ≡ pair_of name desc → slice_get rows place ≡ Some found → is_row name desc found ≡ true
such_row rows place name desc row found lt is row_desc few_desc same at =
    let own : row ≡ found = is ∙ get_or_from_slice_get rows place found row at in
    subst (λ (r : MemberRow). is_row name desc r ≡ true) own
    (both_true (eqb row.name name) (eqb row.desc desc) (eq-eqb row.name name (omega (arith, same, row_desc, few_desc))) (eq-eqb row.desc desc (omega (arith, same, row_desc, few_desc))))

pub other_row : (rows : List MemberRow) (place name desc : ℕ) (row found : MemberRow) → place < length rows → row ≡ get_or rows place row → (pair_of row.name row.desc ≡ pair_of name desc → ⊥) → slice_get rows place ≡ Some found → pair_of found.name found.desc ≡ pair_of name desc → ⊥
other_row rows place name desc row found lt is other at same =
    let own : row ≡ found = is ∙ get_or_from_slice_get rows place found row at in
    other (ap (λ (r : MemberRow). pair_of r.name r.desc) own ∙ same)

-- ---- the order

pub parted : (rows : List MemberRow) (order : List ℕ) (key : ℕ) → AreOrdered rows order → IsPartitionedBy (λ place. ltb (key_at rows place) key) order
parted rows order key ordered = IsPartitionedBy-ltb (key_at rows) order key ordered.ascend

pub counted_more : (i : ℕ) (places more : List ℕ) → i < 65536 → AreCounted i places → more ≡ places ++ i ∷ [] → AreCounted (i + 1) more
counted_more i places more few before pushed = record {
  few = omega (arith, few);
  long = ap length pushed ∙ length_push places i ∙ ap (λ (n : ℕ). n + 1) before.long;
  each = λ place lt. ap (λ (ps : List ℕ). get_or ps place 0) pushed ∙ elim (cases_lt place i) [
    | inl under ↦ get_or_append_left places (i ∷ []) 0 place (let long = before.long in omega (arith, under, long)) ∙ before.each place under
    | inr over ↦
        (let long = before.long in
        let last : place ≡ length places = omega (arith, over, lt, long) in
        ap (λ (k : ℕ). get_or (places ++ i ∷ []) k 0) last ∙ get_or-append_seam places i [] 0 ∙ omega (arith, over, lt))
  ];
}

counted_below : (count : ℕ) (places : List ℕ) → AreCounted count places → All (λ (place : ℕ). place < count) places
counted_below count places counted k d lt =
    let long = counted.long in
    let is = get_or_default places k d 0 lt ∙ counted.each k (omega (arith, lt, long)) in
    omega (arith, lt, is, long)

counted_whole : (count : ℕ) (places : List ℕ) → AreCounted count places → (place : ℕ) → place < count → Contains places place
counted_whole count places counted place lt =
    let long = counted.long in
    let within : place < length places = omega (arith, lt, long) in
    (place, within, get_or_default places place place 0 within ∙ counted.each place lt)

pub ordered_by : (rows : List MemberRow) (places order : List ℕ) (count : ℕ) → count ≡ length rows → AreCounted count places → IsPermutation places order → IsNonDecreasingBy (key_at rows) order → AreOrdered rows order
ordered_by rows places order count is counted permuted ascend = record {
  few = (let few = counted.few in omega (arith, few, is));
  within = subst (λ (n : ℕ). All (λ (place : ℕ). place < n) order) is (All-permutation (λ (place : ℕ). place < count) places order permuted (counted_below count places counted));
  whole = λ place lt none. (let there = Contains-permutation places order place permuted (counted_whole count places counted place (omega (arith, lt, is))) in none there.0 there.1 there.2);
  ascend = ascend;
}
