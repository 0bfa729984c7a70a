-- The least place of a row with given numbers, by halving.
use Rattle.std.proofs.Common.{◌≡◌, ℕ, ◌+◌, ◌-◌, ◌*◌, ◌<◌, ◌≤◌, true, false, ltb, List, length, Contains, get_or, take, drop, Option, Some, None, sym, ap, ◌∙◌, subst, arith, inl, inr}
use Rattle.std.specs.List.Sorted.{IsPartitionPoint, IsPartitionedBy}
use Rattle.std.proofs.lemmas.Bool.{ltb-true, ltb-false, cases_lt}
use Rattle.std.proofs.lemmas.List.{get_or_default, get_or-drop, get_or-take, length-drop, length-take-le}
use Rattle.std.proofs.lemmas.List.Sorted.{IsPartitionedBy-ltb}
use Rattle.dj_member_index.specs.declared.rows.MemberRow.{MemberRow}
use Rattle.dj_member_index.specs.DirectoryRows.{pair_of, key_of, Fits, AreInOrder, AreRowsWith, IsSuch, IsAnswer, IsLeastOrNone}

pub parted : (rows : List MemberRow) (key : ℕ) → AreInOrder rows → IsPartitionedBy (λ row. ltb (key_of row) key) rows
parted rows key order = IsPartitionedBy-ltb key_of rows key order.ascend

-- the key of the least row of these numbers
abbrev pub target : ℕ → ℕ → ℕ → ℕ
target name desc class = pair_of name desc * 18446744073709551616 + pair_of class 0

-- ---- keys

-- a pair of numbers as one number determines both
pub firsts : (a b x y : ℕ) → b < 4294967296 → y < 4294967296 → pair_of a b ≡ pair_of x y → a ≡ x
firsts a b x y lt less e = omega (arith, lt, less, e)

pub seconds : (a b x y : ℕ) → b < 4294967296 → y < 4294967296 → pair_of a b ≡ pair_of x y → b ≡ y
seconds a b x y lt less e = omega (arith, lt, less, e)

pub small : (a b : ℕ) → a < 4294967296 → b < 4294967296 → pair_of a b < 18446744073709551616
small a b lt less = omega (arith, lt, less)

pub wides : (a b x y : ℕ) → b < 18446744073709551616 → y < 18446744073709551616 → x * 18446744073709551616 ≤ a * 18446744073709551616 + b → a * 18446744073709551616 ≤ x * 18446744073709551616 + y → a ≡ x
wides a b x y lt less le ge = omega (arith, lt, less, le, ge)

between : (c p k q : ℕ) → p < 4294967296 → q < 4294967296 → pair_of c 0 ≤ pair_of k p → pair_of k p ≤ pair_of c q → k ≡ c
between c p k q lt less le ge = omega (arith, lt, less, le, ge)

-- a row whose key is between those of two rows of these numbers is of them too
module _ (name desc class place : ℕ) (row : MemberRow) (fits : Fits row) (desc_fits : desc < 4294967296) (class_fits : class < 4294967296) (place_fits : place < 4294967296)
    (low : target name desc class ≤ key_of row) (high : key_of row ≤ target name desc class + place) where
  abbrev names : ℕ
  names = pair_of row.name row.desc

  abbrev here : ℕ
  here = pair_of row.class row.place

  names_are : pair_of row.name row.desc ≡ pair_of name desc
  names_are =
      let lt = small row.class row.place fits.class fits.place in
      let less = small class place class_fits place_fits in
      wides (pair_of row.name row.desc) (pair_of row.class row.place) (pair_of name desc) (pair_of class place) lt less (omega (arith, low)) (omega (arith, high))

  pub such_between : IsSuch name desc class row
  such_between = record {
    name_is = firsts row.name row.desc name desc fits.desc desc_fits names_are;
    desc_is = seconds row.name row.desc name desc fits.desc desc_fits names_are;
    class_is =
        let same = names_are in
        between class row.place row.class place fits.place place_fits (omega (arith, low, same)) (omega (arith, high, same));
  }

-- ---- a look-up

pub such_key : (name desc class : ℕ) (row : MemberRow) → IsSuch name desc class row → key_of row ≡ target name desc class + row.place
such_key name desc class row such =
    ap (λ (n : ℕ). pair_of n row.desc * 18446744073709551616 + pair_of row.class row.place) such.name_is
    ∙ ap (λ (d : ℕ). pair_of name d * 18446744073709551616 + pair_of row.class row.place) such.desc_is
    ∙ ap (λ (k : ℕ). pair_of name desc * 18446744073709551616 + pair_of k row.place) such.class_is
    ∙ omega arith

module _ (rows : List MemberRow) (order : AreInOrder rows) (name desc class : ℕ) where
  abbrev IsPoint : ℕ → Type 0
  IsPoint i = IsPartitionPoint (λ row. ltb (key_of row) (target name desc class) ≡ true) (λ row. ltb (key_of row) (target name desc class) ≡ false) rows i

  -- such a row stands at the point or after it
  such_after : (i : ℕ) → IsPoint i → (row : MemberRow) → IsSuch name desc class row → (k : ℕ) → k < length rows → get_or rows k row ≡ row → i ≤ k
  such_after i point row such k within same = elim (cases_lt k i) [
    | inl before ↦
        (let low = point.0 k row (omega arith) before in
        let less = ltb-true (key_of (get_or rows k row)) (target name desc class) low in
        let is = ap key_of same in
        let key = such_key name desc class row such in
        absurd (omega (arith, less, is, key)))
    | inr after ↦ after
  ]

  pub none_past : (i : ℕ) → IsPoint i → length rows ≤ i → IsLeastOrNone rows name desc class None
  none_past i point past row there such =
      let after = such_after i point row such there.0 there.1 there.2 in
      let within = there.1 in
      absurd (omega (arith, after, within, past))

  module _ (i : ℕ) (row : MemberRow) (point : IsPoint i) (within : i < length rows) (at : row ≡ get_or rows i row) where
    row_fits : Fits row
    row_fits = subst Fits (sym at) (order.fit i row within)

    -- its key is not above that of such a row
    rises : (other : MemberRow) → Contains rows other → IsSuch name desc class other → key_of row ≤ key_of other
    rises other there such =
        let after = such_after i point other such there.0 there.1 there.2 in
        let rise = order.ascend i there.0 row after there.1 in
        let here = ap key_of at in
        let found = ap key_of (get_or_default rows there.0 row other there.1 ∙ there.2) in
        omega (arith, rise, here, found)

    not_below : target name desc class ≤ key_of row
    not_below =
        let high = ltb-false (key_of (get_or rows i row)) (target name desc class) (point.1 i row (omega arith) within) in
        let here = ap key_of at in
        omega (arith, high, here)

    pub reported_at : (result : Option ℕ) → IsAnswer row name desc class result → IsLeastOrNone rows name desc class result
    reported_at None other_row = λ other there such.
        let le = rises other there such in
        let key = such_key name desc class other such in
        let fits = subst Fits there.2 (order.fit there.0 other there.1) in
        other_row (such_between name desc class other.place row row_fits (subst (λ (d : ℕ). d < 4294967296) such.desc_is fits.desc) (subst (λ (k : ℕ). k < 4294967296) such.class_is fits.class) fits.place
        not_below (omega (arith, le, key)))
    reported_at (Some place) answer = record {
      row = row;
      within = (i, within, sym at);
      such = answer.0;
      place_is = answer.1;
      least = λ other there such.
          (let le = rises other there such in
          let key = such_key name desc class other such in
          let own = such_key name desc class row answer.0 in
          let is = answer.1 in
          omega (arith, le, key, own, is));
    }

-- ---- all rows of two numbers

abbrev pub IsPointAt : List MemberRow → ℕ → ℕ → Type 0
IsPointAt rows key i = IsPartitionPoint (λ row. ltb (key_of row) key ≡ true) (λ row. ltb (key_of row) key ≡ false) rows i

pub in_order_rest : (rows : List MemberRow) (n : ℕ) → AreInOrder rows → n ≤ length rows → AreInOrder (drop n rows)
in_order_rest rows n order le =
    let count = length-drop n rows in
    record {
      fit = λ i d lt. subst Fits (sym (get_or-drop n rows i d)) (order.fit (n + i) d (omega (arith, count, lt, le)));
      ascend = λ i k d after lt.
          (let one = ap key_of (get_or-drop n rows i d) in
          let two = ap key_of (get_or-drop n rows k d) in
          let rise = order.ascend (n + i) (n + k) d (omega (arith, after)) (omega (arith, count, lt, le)) in
          omega (arith, one, two, rise));
    }

pub fit_all : (rows : List MemberRow) (row : MemberRow) → AreInOrder rows → Contains rows row → Fits row
fit_all rows row order there = subst Fits there.2 (order.fit there.0 row there.1)

low_key : (name desc : ℕ) (row : MemberRow) → row.name ≡ name → row.desc ≡ desc → target name desc 0 ≤ key_of row
low_key name desc row named described =
    let one = ap (λ (n : ℕ). pair_of n row.desc) named in
    let two = ap (λ (d : ℕ). pair_of name d) described in
    omega (arith, one, two)

high_key : (name desc : ℕ) (row : MemberRow) → Fits row → row.name ≡ name → row.desc ≡ desc → row.class < 4294967295 → key_of row < target name desc 4294967295
high_key name desc row fits named described lt =
    let one = ap (λ (n : ℕ). pair_of n row.desc) named in
    let two = ap (λ (d : ℕ). pair_of name d) described in
    let place = fits.place in
    omega (arith, one, two, place, lt)

names_between : (name desc : ℕ) (row : MemberRow) → Fits row → desc < 4294967296 → target name desc 0 ≤ key_of row → key_of row < target name desc 4294967295 → (row.name ≡ name) × (row.desc ≡ desc)
names_between name desc row fits desc_fits low high =
    let lt = small row.class row.place fits.class fits.place in
    let less = small 4294967295 0 (omega arith) (omega arith) in
    let names = wides (pair_of row.name row.desc) (pair_of row.class row.place) (pair_of name desc) (pair_of 4294967295 0) lt less (omega (arith, low)) (omega (arith, high)) in
    (firsts row.name row.desc name desc fits.desc desc_fits names, seconds row.name row.desc name desc fits.desc desc_fits names)

pub are_rows_with : (rows rest found : List MemberRow) (name desc first end : ℕ) → AreInOrder rows → desc < 4294967296 → first ≤ length rows → rest ≡ drop first rows → end ≤ length rest → found ≡ take end rest
    → IsPointAt rows (target name desc 0) first → IsPointAt rest (target name desc 4294967295) end → AreRowsWith rows name desc found
are_rows_with rows rest found name desc first end order desc_fits within rest_is within_rest found_is low high =
    let rest_count : length rest ≡ length rows - first = ap length rest_is ∙ length-drop first rows in
    let found_count : length found ≡ end = ap length found_is ∙ length-take-le end rest within_rest in
    record {
      first = first;
      stand = record {
        within = omega (arith, found_count, within_rest, rest_count, within);
        same = λ k d lt.
            (let before : k < end = omega (arith, lt, found_count) in
            ap (λ (rs : List MemberRow). get_or rs k d) found_is ∙ get_or-take end rest k d before ∙ ap (λ (rs : List MemberRow). get_or rs k d) rest_is ∙ get_or-drop first rows k d);
      };
      each = λ row there.
          (let k : ℕ = there.0 in
          let count : length found ≡ end = ap length found_is ∙ length-take-le end rest within_rest in
          let lt : k < end = (let in_found = there.1 in omega (arith, in_found, count)) in
          let in_rest : get_or rest k row ≡ row = sym (ap (λ (rs : List MemberRow). get_or rs k row) found_is ∙ get_or-take end rest k row lt) ∙ there.2 in
          let at : get_or rows (first + k) row ≡ row = sym (ap (λ (rs : List MemberRow). get_or rs k row) rest_is ∙ get_or-drop first rows k row) ∙ in_rest in
          let place : first + k < length rows = omega (arith, lt, within_rest, rest_count) in
          let contained : Contains rows row = (first + k, place, at) in
          let above = ltb-false (key_of (get_or rows (first + k) row)) (target name desc 0) (low.1 (first + k) row (omega arith) place) in
          let below = ltb-true (key_of (get_or rest k row)) (target name desc 4294967295) (high.0 k row (omega arith) lt) in
          let own = ap key_of at in
          let same = ap key_of in_rest in
          (contained, names_between name desc row (fit_all rows row order contained) desc_fits (omega (arith, above, own)) (omega (arith, below, same))));
      all = λ row there named described lt.
          (let j : ℕ = there.0 in
          let own = ap key_of there.2 in
          let le = low_key name desc row named described in
          let less = high_key name desc row (fit_all rows row order there) named described lt in
          let after : first ≤ j = elim (cases_lt j first) [
            | inl before ↦ (let under = ltb-true (key_of (get_or rows j row)) (target name desc 0) (low.0 j row (omega arith) before) in absurd (omega (arith, under, own, le)))
            | inr after ↦ after
          ] in
          let sum : first + (j - first) ≡ j = omega (arith, after) in
          let in_rest : get_or rest (j - first) row ≡ row =
          ap (λ (rs : List MemberRow). get_or rs (j - first) row) rest_is ∙ get_or-drop first rows (j - first) row ∙ ap (λ (n : ℕ). get_or rows n row) sum ∙ there.2 in
          let place : j - first < length rest = (let in_rows = there.1 in omega (arith, in_rows, after, rest_count)) in
          let same = ap key_of in_rest in
          let before : j - first < end = elim (cases_lt (j - first) end) [
            | inl before ↦ before
            | inr past ↦ (let over = ltb-false (key_of (get_or rest (j - first) row)) (target name desc 4294967295) (high.1 (j - first) row past place) in absurd (omega (arith, over, same, less)))
          ] in
          let count : length found ≡ end = ap length found_is ∙ length-take-le end rest within_rest in
          (j - first, omega (arith, before, count), ap (λ (rs : List MemberRow). get_or rs (j - first) row) found_is ∙ get_or-take end rest (j - first) row before ∙ in_rest));
    }
