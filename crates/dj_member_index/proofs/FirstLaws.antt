-- Of each name, descriptor and class the first row alone.
use Rattle.std.proofs.Common.{◌≡◌, ℕ, ◌+◌, ◌-◌, ◌<◌, ◌≤◌, ◌⊎◌, List, [], ◌∷◌, ◌++◌, length, get_or, Contains, Option, Some, None, refl, sym, ap, ◌∙◌, subst, arith, inl, inr}
use Rattle.std.specs.List.{AllPairs}
use Rattle.std.specs.List.Sorted.{IsNonDecreasingBy}
use Rattle.std.proofs.lemmas.Bool.{cases_lt}
use Rattle.std.proofs.lemmas.List.{get_or_default}
use Rattle.std.proofs.lemmas.List.Elements.{Contains-push, Contains-push_cases, Contains-append_left}
use Rattle.std.proofs.lemmas.List.Quantifiers.{all_pairs_push}
use Rattle.std.proofs.lemmas.List.Sorted.{IsNonDecreasingBy-push, IsNonDecreasingBy-short}
use Rattle.dj_member_index.specs.declared.rows.MemberRow.{MemberRow}
use Rattle.dj_member_index.specs.DirectoryRows.{key_of, Fits, AreInOrder, IsSuch, IsLeast, IsLeastOrNone, row_at, AreAlike, IsRepeat, HasFirst, AreFirst, AreRowsWith}
use Rattle.dj_member_index.specs.Numberings.{ClassesDiffer}
use Rattle.dj_member_index.proofs.RowLaws.{fit_all, such_between, such_key}
use Rattle.dj_member_index.proofs.SpanLaws.{ascend_at}

-- ---- rows of the same numbers

abbrev Differ : MemberRow → MemberRow → Type 0
Differ one other = AreAlike one other → ⊥

back : (one other : MemberRow) → AreAlike one other → AreAlike other one
back one other alike = record { name_is = sym alike.name_is; desc_is = sym alike.desc_is; class_is = sym alike.class_is }

-- a row that is like such a one is such a one
pub such_first : (name desc class : ℕ) (row first : MemberRow) → IsSuch name desc class row → AreAlike row first → IsSuch name desc class first
such_first name desc class row first such alike = record { name_is = alike.name_is ∙ such.name_is; desc_is = alike.desc_is ∙ such.desc_is; class_is = alike.class_is ∙ such.class_is }

place_rises : (row first : MemberRow) → AreAlike row first → key_of first ≤ key_of row → first.place ≤ row.place
place_rises row first alike le =
    let own = such_key row.name row.desc row.class row (record { name_is = refl; desc_is = refl; class_is = refl }) in
    let other = such_key row.name row.desc row.class first alike in
    omega (arith, le, own, other)

-- a row between two that are alike is like them
alike_between : (low mid row : MemberRow) → Fits mid → Fits row → AreAlike row low → key_of low ≤ key_of mid → key_of mid ≤ key_of row → AreAlike row mid
alike_between low mid row mid_fits fits alike rise rises =
    let own = such_key row.name row.desc row.class row (record { name_is = refl; desc_is = refl; class_is = refl }) in
    let other = such_key row.name row.desc row.class low alike in
    such_between row.name row.desc row.class row.place mid mid_fits fits.desc fits.class fits.place (omega (arith, rise, other)) (omega (arith, rises, own))

-- ---- the first rows so far

-- the row is one of this many
pub record IsAmong (rows : List MemberRow) (count : ℕ) (row : MemberRow) : Type 0 where
  pub at : ℕ
  pub before : at < count
  pub is : get_or rows at row ≡ row

-- the first ones of this many rows
pub record AreFirstOf (rows : List MemberRow) (count : ℕ) (firsts : List MemberRow) : Type 0 where
  pub ascend : IsNonDecreasingBy key_of firsts
  pub among : (row : MemberRow) → Contains firsts row → IsAmong rows count row
  pub each : (k : ℕ) (row : MemberRow) → k < count → get_or rows k row ≡ row → HasFirst firsts row
  pub once : AllPairs (λ one other. AreAlike one other → ⊥) firsts

pub none_first : (rows firsts : List MemberRow) → firsts ≡ [] → AreFirstOf rows 0 firsts
none_first rows firsts empty =
    let none = ap length empty in
    record {
      ascend = IsNonDecreasingBy-short key_of firsts (omega (arith, none));
      among = λ row there. (let lt = there.1 in absurd (omega (arith, lt, none)));
      each = λ k row lt. absurd (omega (arith, lt));
      once = λ i j d before lt. absurd (omega (arith, lt, none));
    }

at_place : (rows : List MemberRow) (i k : ℕ) (row other : MemberRow) → k < i + 1 → i < length rows → get_or rows i row ≡ row → get_or rows k other ≡ other → (k < i) ⊎ (row ≡ other)
at_place rows i k row other lt within own is = elim (cases_lt k i) [
  | inl before ↦ inl before
  | inr after ↦
      (let same : k ≡ i = omega (arith, lt, after) in
      inr (sym own ∙ get_or_default rows i row other within ∙ ap (λ (j : ℕ). get_or rows j other) (sym same) ∙ is))
]

one_of_more : (rows : List MemberRow) (count : ℕ) (row : MemberRow) → IsAmong rows count row → IsAmong rows (count + 1) row
one_of_more rows count row is = let lt = is.before in record { at = is.at; before = omega (arith, lt); is = is.is }

module _ (rows : List MemberRow) (order : AreInOrder rows) (i : ℕ) (within : i < length rows) (firsts : List MemberRow) (far : AreFirstOf rows i firsts) where
  abbrev own_row : MemberRow
  own_row = row_at rows i

  abbrev before_it : MemberRow
  before_it = row_at rows (i - 1)

  own : get_or rows i own_row ≡ own_row
  own = get_or_default rows i own_row (record { name = 0; desc = 0; class = 0; place = 0 }) within

  own_fits : Fits own_row
  own_fits = fit_all rows own_row order (i, within, own)

  one_before : 0 < i → get_or rows (i - 1) before_it ≡ before_it
  one_before some = get_or_default rows (i - 1) before_it (record { name = 0; desc = 0; class = 0; place = 0 }) (omega (arith, some, within))

  pub repeat_more : IsRepeat rows i → AreFirstOf rows (i + 1) firsts
  repeat_more repeat =
      let some = repeat.some in
      let has = far.each (i - 1) before_it (omega (arith, some)) (one_before some) in
      let rise = ascend_at rows order (i - 1) i before_it own_row (omega arith) within (one_before some) own in
      let place = place_rises own_row before_it repeat.alike rise in
      let before = has.before in
      let found : HasFirst firsts own_row = record {
        first = has.first;
        within = has.within;
        alike = such_first own_row.name own_row.desc own_row.class before_it has.first repeat.alike has.alike;
        before = omega (arith, before, place);
      } in
      record {
        ascend = far.ascend;
        among = λ row there. one_of_more rows i row (far.among row there);
        each = λ k row lt is. elim (at_place rows i k own_row row lt within own is) [
          | inl earlier ↦ far.each k row earlier is
          | inr same ↦ subst (HasFirst firsts) same found
        ];
        once = far.once;
      }

  -- its key is not below that of one of the first rows
  key_rises : (first : MemberRow) → Contains firsts first → key_of first ≤ key_of own_row
  key_rises first there =
      let is = far.among first there in
      let lt = is.before in
      ascend_at rows order is.at i first own_row (omega (arith, lt)) within is.is own

  -- none of the first rows is like it
  no_other : (IsRepeat rows i → ⊥) → (first : MemberRow) → Contains firsts first → AreAlike first own_row → ⊥
  no_other new first there alike =
      let is = far.among first there in
      let lt = is.before in
      let some : 0 < i = omega (arith, lt) in
      let last : i - 1 < length rows = omega (arith, within) in
      let low = ascend_at rows order is.at (i - 1) first before_it (omega (arith, lt)) last is.is (one_before some) in
      let high = ascend_at rows order (i - 1) i before_it own_row (omega arith) within (one_before some) own in
      let fits = fit_all rows before_it order (i - 1, last, one_before some) in
      new (record { some = some; alike = alike_between first before_it own_row fits own_fits (back first own_row alike) low high })

  at_in_firsts : (k : ℕ) (d : MemberRow) → k < length firsts → Contains firsts (get_or firsts k d)
  at_in_firsts k d lt = (k, lt, get_or_default firsts k (get_or firsts k d) d lt)

  has_more : (row : MemberRow) → HasFirst firsts row → HasFirst (firsts ++ own_row ∷ []) row
  has_more row has = record {
    first = has.first;
    within = Contains-append_left firsts (own_row ∷ []) has.first has.within;
    alike = has.alike;
    before = has.before;
  }

  pub first_more : (after : List MemberRow) → (IsRepeat rows i → ⊥) → after ≡ firsts ++ own_row ∷ [] → AreFirstOf rows (i + 1) after
  first_more after new pushed =
      let found : HasFirst (firsts ++ own_row ∷ []) own_row = record {
        first = own_row;
        within = Contains-push firsts own_row;
        alike = record { name_is = refl; desc_is = refl; class_is = refl };
        before = omega arith;
      } in
      subst (AreFirstOf rows (i + 1)) (sym pushed) (record {
        ascend = IsNonDecreasingBy-push key_of firsts own_row far.ascend (λ d some. key_rises (get_or firsts (length firsts - 1) d) (at_in_firsts (length firsts - 1) d (omega (arith, some))));
        among = λ row there. elim (Contains-push_cases firsts own_row row there) [
          | inl earlier ↦ one_of_more rows i row (far.among row earlier)
          | inr same ↦ subst (IsAmong rows (i + 1)) same (record { at = i; before = omega arith; is = own })
        ];
        each = λ k row lt is. elim (at_place rows i k own_row row lt within own is) [
          | inl earlier ↦ has_more row (far.each k row earlier is)
          | inr same ↦ subst (HasFirst (firsts ++ own_row ∷ [])) same found
        ];
        once = all_pairs_push Differ firsts own_row far.once (λ k d lt. no_other new (get_or firsts k d) (at_in_firsts k d lt));
      })

pub all_first : (rows : List MemberRow) → AreInOrder rows → (count : ℕ) (firsts : List MemberRow) → count ≡ length rows → AreFirstOf rows count firsts → AreFirst rows firsts
all_first rows order count firsts all far =
    let among : (row : MemberRow) → Contains firsts row → Contains rows row = λ row there.
    (let is = far.among row there in
    let lt = is.before in
    (is.at, omega (arith, lt, all), is.is)) in
    record {
      order = record {
        fit = λ k d lt. fit_all rows (get_or firsts k d) order (among (get_or firsts k d) (k, lt, get_or_default firsts k (get_or firsts k d) d lt));
        ascend = far.ascend;
      };
      within = among;
      each = λ row there. far.each there.0 row (let lt = there.1 in omega (arith, lt, all)) there.2;
      once = far.once;
    }

-- ---- a look-up among the first rows

module _ (rows firsts : List MemberRow) (are : AreFirst rows firsts) (name desc class : ℕ) where
  pub reported_by_first : (result : Option ℕ) → IsLeastOrNone firsts name desc class result → IsLeastOrNone rows name desc class result
  reported_by_first None none = λ row there such.
      let has = are.each row there in none has.first has.within (such_first name desc class row has.first such has.alike)
  reported_by_first (Some place) reported = record {
    row = reported.row;
    within = are.within reported.row reported.within;
    such = reported.such;
    place_is = reported.place_is;
    least = λ other there such.
        (let has = are.each other there in
        let le = reported.least has.first has.within (such_first name desc class other has.first such has.alike) in
        let before = has.before in
        omega (arith, le, before));
  }

  clash : (i j : ℕ) (one other : MemberRow) → i < j → j < length firsts → get_or firsts i one ≡ one → get_or firsts j other ≡ other → IsSuch name desc class one → IsSuch name desc class other → ⊥
  clash i j one other lt within own is such also =
      let alike : AreAlike one other = record { name_is = also.name_is ∙ sym such.name_is; desc_is = also.desc_is ∙ sym such.desc_is; class_is = also.class_is ∙ sym such.class_is } in
      are.once i j one lt within
      (subst (λ (r : MemberRow). AreAlike r (get_or firsts j one)) (sym own) (subst (λ (r : MemberRow). AreAlike one r) (sym (get_or_default firsts j one other within ∙ is)) alike))

  -- such a row among the first ones is the only one
  pub least_first : (row : MemberRow) → Contains firsts row → IsSuch name desc class row → IsLeast firsts name desc class row.place
  least_first row there such = record {
    row = row;
    within = there;
    such = such;
    place_is = refl;
    least = λ other also like. elim (cases_lt there.0 also.0) [
      | inl before ↦ absurd (clash there.0 also.0 row other before also.1 there.2 also.2 such like)
      | inr not_before ↦ elim (cases_lt also.0 there.0) [
        | inl after ↦ absurd (clash also.0 there.0 other row after there.1 also.2 there.2 like such)
        | inr not_after ↦
            (let same : there.0 ≡ also.0 = omega (arith, not_before, not_after) in
            let is : row ≡ other = sym there.2 ∙ get_or_default firsts there.0 row other there.1 ∙ ap (λ (k : ℕ). get_or firsts k other) same ∙ also.2 in
            let place = ap (λ (r : MemberRow). r.place) is in
            omega (arith, place))
      ]
    ];
  }

-- ---- the rows of two numbers among the first ones

-- each class comes once
pub classes_differ : (rows firsts found : List MemberRow) (name desc : ℕ) → AreFirst rows firsts → AreRowsWith firsts name desc found → ClassesDiffer found
classes_differ rows firsts found name desc are with_them i j d before lt same =
    let one : MemberRow = get_or found i d in
    let other : MemberRow = get_or found j d in
    let at : ℕ = with_them.first in
    let within = with_them.stand.within in
    let less : i < length found = omega (arith, before, lt) in
    let own = with_them.each one (i, less, get_or_default found i one d less) in
    let also = with_them.each other (j, lt, get_or_default found j other d lt) in
    let alike : AreAlike one other = record { name_is = also.1.0 ∙ sym own.1.0; desc_is = also.1.1 ∙ sym own.1.1; class_is = sym same } in
    are.once (at + i) (at + j) d (omega (arith, before)) (omega (arith, lt, within))
    (subst (λ (r : MemberRow). AreAlike r (get_or firsts (at + j) d)) (with_them.stand.same i d less) (subst (λ (r : MemberRow). AreAlike one r) (with_them.stand.same j d lt) alike))
