-- The nearest class by marks of spans.
use Rattle.std.proofs.Common.{◌≡◌, ℕ, ◌+◌, ◌-◌, ◌*◌, ◌<◌, ◌≤◌, List, [], ◌∷◌, ◌++◌, length, get_or, All, Contains, Option, Some, None, IfSome, refl, sym, ap, ◌∙◌, subst, arith, inl, inr}
use Rattle.std.specs.List.Sorted.{IsPermutation, IsNonDecreasingBy}
use Rattle.std.proofs.lemmas.Bool.{cases_lt, ltb-true, ltb-false}
use Rattle.std.proofs.lemmas.List.{get_or_default, get_or_append_left, length-append}
use Rattle.std.proofs.Math.Seq.{get_or-append_seam}
use Rattle.std.proofs.lemmas.List.Elements.{All-push, Contains-push, Contains-append_left}
use Rattle.std.proofs.lemmas.List.Sorted.{All-permutation, Contains-permutation}
use Rattle.dj_member_index.specs.declared.rows.MemberRow.{MemberRow}
use Rattle.dj_member_index.specs.declared.spans.Spans.{Spans}
use Rattle.dj_member_index.specs.DirectoryRows.{pair_of, key_of, Fits, AreInOrder}
use Rattle.dj_member_index.specs.Spans.{AreMarks, AreNearest, Covers, IsEnd, IsLast, IsNearestIn, IsStart, IsReported, StartsFrom, class_in, end_in, mark_of, start_in}
use Rattle.dj_member_index.proofs.RowLaws.{firsts, seconds, small, wides, target, fit_all, IsPointAt}

-- ---- keys

-- the numbers of texts of a row whose key is at least that of these, and not above it with something more
names_of : (name desc top : ℕ) (row : MemberRow) → Fits row → desc < 4294967296 → top < 18446744073709551616 → target name desc 0 ≤ key_of row → key_of row ≤ target name desc 0 + top → (row.name ≡ name) × (row.desc ≡ desc)
names_of name desc top row fits desc_fits less low high =
    let lt = small row.class row.place fits.class fits.place in
    let names = wides (pair_of row.name row.desc) (pair_of row.class row.place) (pair_of name desc) top lt less (omega (arith, low)) (omega (arith, high)) in
    (firsts row.name row.desc name desc fits.desc desc_fits names, seconds row.name row.desc name desc fits.desc desc_fits names)

key_is : (name desc : ℕ) (row : MemberRow) → row.name ≡ name → row.desc ≡ desc → key_of row ≡ target name desc 0 + pair_of row.class row.place
key_is name desc row named described =
    ap (λ (n : ℕ). pair_of n row.desc * 18446744073709551616 + pair_of row.class row.place) named ∙ ap (λ (d : ℕ). pair_of name d * 18446744073709551616 + pair_of row.class row.place) described ∙ omega arith

rises : (a b c d : ℕ) → d < 4294967296 → pair_of a b ≤ pair_of c d → a ≤ c
rises a b c d lt le = omega (arith, lt, le)

steps_rise : (one two : MemberRow) → Fits two → one.name ≡ two.name → one.desc ≡ two.desc → key_of one ≤ key_of two → one.class ≤ two.class
steps_rise one two fits named described le =
    let own = key_is two.name two.desc one named described in
    let other = key_is two.name two.desc two refl refl in
    rises one.class one.place two.class two.place fits.place (omega (arith, le, own, other))

step_below : (a b c : ℕ) → pair_of a b < pair_of c 0 → a < c
step_below a b c lt = omega (arith, lt)

pair_below : (a b c : ℕ) → a < c → b < 4294967296 → pair_of a b < pair_of c 0
pair_below a b c lt less = omega (arith, lt, less)

target_is : (name desc step : ℕ) → target name desc step ≡ target name desc 0 + pair_of step 0
target_is name desc step = omega arith

-- ---- marks in order

module _ (marks : List MemberRow) (order : AreInOrder marks) where
  fits_at : (k : ℕ) (mark : MemberRow) → k < length marks → get_or marks k mark ≡ mark → Fits mark
  fits_at k mark lt at = fit_all marks mark order (k, lt, at)

  pub ascend_at : (i k : ℕ) (one two : MemberRow) → i ≤ k → k < length marks → get_or marks i one ≡ one → get_or marks k two ≡ two → key_of one ≤ key_of two
  ascend_at i k one two le lt own other =
      let rise = order.ascend i k one le lt in
      let first = ap key_of own in
      let second = ap key_of (get_or_default marks k one two lt ∙ other) in
      omega (arith, rise, first, second)

  -- a mark between two of these numbers
  between_at : (name desc : ℕ) (i k j : ℕ) (one mark two : MemberRow) → i ≤ k → k ≤ j → j < length marks → get_or marks i one ≡ one → get_or marks k mark ≡ mark → get_or marks j two ≡ two
      → one.name ≡ name → one.desc ≡ desc → two.name ≡ name → two.desc ≡ desc → (mark.name ≡ name) × (mark.desc ≡ desc)
  between_at name desc i k j one mark two le after lt own at other named described also_named also_described =
      let within : k < length marks = omega (arith, after, lt) in
      let fits = fits_at j two lt other in
      let low = ascend_at i k one mark le within own at in
      let high = ascend_at k j mark two after lt at other in
      let first = key_is name desc one named described in
      let last = key_is name desc two also_named also_described in
      names_of name desc (pair_of two.class two.place) mark (fits_at k mark within at) (subst (λ (d : ℕ). d < 4294967296) also_described fits.desc) (small two.class two.place fits.class fits.place)
      (omega (arith, low, first)) (omega (arith, high, last))

  -- ---- a look-up

  module _ (spans : Spans) (name desc step i : ℕ) (step_fits : step < 4294967296) (desc_fits : desc < 4294967296) (point : IsPointAt marks (target name desc step) i) (bound : i ≤ length marks) where
    comes_before : (mark : MemberRow) (k : ℕ) → k < length marks → get_or marks k mark ≡ mark → mark.name ≡ name → mark.desc ≡ desc → mark.class < step → k < i
    comes_before mark k lt at named described less = elim (cases_lt k i) [
      | inl before ↦ before
      | inr after ↦
          (let high = ltb-false (key_of (get_or marks k mark)) (target name desc step) (point.1 k mark after lt) in
          let own = ap key_of at in
          let key = key_is name desc mark named described in
          let fits = fits_at k mark lt at in
          let under = pair_below mark.class mark.place step less fits.place in
          let is = target_is name desc step in
          absurd (omega (arith, high, own, key, under, is)))
    ]

    pub none_before : i < 1 → IsNearestIn spans marks name desc step None
    none_before none mark there start named described less le = let before = comes_before mark there.0 there.1 there.2 named described less in omega (arith, before, none)

    module _ (mark : MemberRow) (some : 0 < i) (at : get_or marks (i - 1) mark ≡ mark) where
      last_within : i - 1 < length marks
      last_within = omega (arith, some, bound)

      under_step : key_of mark < target name desc step
      under_step =
          let low = ltb-true (key_of (get_or marks (i - 1) mark)) (target name desc step) (point.0 (i - 1) mark (omega arith) (omega (arith, some))) in
          let own = ap key_of at in
          omega (arith, low, own)

      pub others_before : (mark.name ≡ name → mark.desc ≡ desc → ⊥) → IsNearestIn spans marks name desc step None
      others_before differ other there start named described less le =
          let before = comes_before other there.0 there.1 there.2 named described less in
          let low = ascend_at there.0 (i - 1) other mark (omega (arith, before)) last_within there.2 at in
          let key = key_is name desc other named described in
          let high = under_step in
          let is = target_is name desc step in
          let same = names_of name desc (pair_of step 0) mark (fits_at (i - 1) mark last_within at) desc_fits (small step 0 step_fits (omega arith)) (omega (arith, low, key)) (omega (arith, high, is)) in
          differ same.0 same.1

      reported_before : (nearest : List (Option ℕ)) (near : Option ℕ) → mark.name ≡ name → mark.desc ≡ desc → IsReported nearest (i - 1) near → AreNearest spans marks nearest → IsNearestIn spans marks name desc step near
      reported_before nearest near named described reported each other there start other_named other_described less le =
          let before = comes_before other there.0 there.1 there.2 other_named other_described less in
          let key = key_is name desc mark named described in
          let high = under_step in
          let top = target_is name desc step in
          let lower : mark.class < step = step_below mark.class mark.place step (omega (arith, high, key, top)) in
          subst (λ (o : Option ℕ). StartsFrom (start_in spans) o other.class) (sym reported.is)
          (each (i - 1) reported.there mark other there.0 last_within at (omega (arith, before)) there.2 start (other_named ∙ sym named) (other_described ∙ sym described) (omega (arith, lower, le)))

      pub known_before : (nearest : List (Option ℕ)) (result : Option (Option ℕ)) → mark.name ≡ name → mark.desc ≡ desc → IfSome result (IsReported nearest (i - 1)) → AreNearest spans marks nearest → IfSome result (IsNearestIn spans marks name desc step)
      known_before nearest None named described reported each = tt
      known_before nearest (Some near) named described reported each = reported_before nearest near named described reported each

  -- ---- a mark more

  module _ (spans : Spans) (at : ℕ) (mark : MemberRow) (is_mark : get_or marks at mark ≡ mark) where
    same_mark : (other : MemberRow) → at < length marks → get_or marks at other ≡ other → other ≡ mark
    same_mark other lt is = sym is ∙ get_or_default marks at other mark lt ∙ is_mark

    pub start_covers : start_in spans mark.place ≡ mark.class → Covers spans marks at (Some mark.place)
    start_covers starts own other k lt is le is_other start named described opened =
        let rise = steps_rise other own (fits_at at own lt is) named described (ascend_at k at other own le lt is_other is) in
        let same = ap (λ (m : MemberRow). m.class) (same_mark own lt is) in
        omega (arith, rise, same, starts)

    module _ (nearest : List (Option ℕ)) (count : at ≡ length nearest) (each : AreNearest spans marks nearest) (end : IsEnd spans mark) (last : IsLast nearest mark.place) (near : Option ℕ)
        (reported : IsNearestIn spans marks mark.name mark.desc (start_in spans mark.place) near) where
      covers_one : (other : MemberRow) (k : ℕ) → at < length marks → k ≤ at → get_or marks k other ≡ other → IsStart spans other → other.name ≡ mark.name → other.desc ≡ mark.desc → mark.class < end_in spans other.place
          → StartsFrom (start_in spans) near other.class
      covers_one other k lt le is start named described opened = elim (cases_lt k at) [
        | inl before ↦
            (let previous : MemberRow = get_or marks (at - 1) other in
            let some = last.some in
            let within : at - 1 < length marks = omega (arith, lt) in
            let is_previous : get_or marks (at - 1) previous ≡ previous = get_or_default marks (at - 1) previous other within in
            let early : k ≤ at - 1 = omega (arith, before) in
            let late : at - 1 ≤ at = omega arith in
            let names = between_at mark.name mark.desc k (at - 1) at other previous mark early late lt is is_previous is_mark named described refl refl in
            let rise = steps_rise previous mark (fits_at at mark lt is_mark) names.0 names.1 (ascend_at (at - 1) at previous mark late lt is_previous is_mark) in
            let bounded : StartsFrom (start_in spans) (get_or nearest (at - 1) None) other.class =
            each (at - 1) (omega (arith, count, some)) previous other k within is_previous early is start (named ∙ sym names.0) (described ∙ sym names.1) (omega (arith, rise, opened)) in
            let last_is : get_or nearest (at - 1) None ≡ Some mark.place = ap (λ (n : ℕ). get_or nearest (n - 1) None) count ∙ last.is in
            let not_after : other.class ≤ start_in spans mark.place = subst (λ (o : Option ℕ). StartsFrom (start_in spans) o other.class) last_is bounded in
            elim (cases_lt other.class (start_in spans mark.place)) [
              | inl less ↦ (let past = end.after in reported other (k, omega (arith, before, lt), is) start named described less (omega (arith, past, opened)))
              | inr over ↦
                  (let own = start.at in
                  let same : start_in spans other.place ≡ start_in spans mark.place = omega (arith, own, over, not_after) in
                  let class : other.place ≡ mark.place = sym start.own ∙ ap (class_in spans) same ∙ end.own in
                  let stop = ap (end_in spans) class in
                  let past = end.past in
                  absurd (omega (arith, stop, past, opened)))
            ])
        | inr after ↦
            (let same : k ≡ at = omega (arith, le, after) in
            let class = ap (λ (m : MemberRow). end_in spans m.place) (same_mark other lt (subst (λ (n : ℕ). get_or marks n other ≡ other) same is)) in
            let past = end.past in
            absurd (omega (arith, class, past, opened)))
      ]

      end_covers : Covers spans marks at near
      end_covers own other k lt is le is_other start named described opened =
          let same = same_mark own lt is in
          covers_one other k lt le is_other start (named ∙ ap (λ (m : MemberRow). m.name) same) (described ∙ ap (λ (m : MemberRow). m.desc) same) (subst (λ (m : MemberRow). m.class < end_in spans other.place) same opened)

    pub ends_cover : (nearest : List (Option ℕ)) (result : Option (Option ℕ)) → at ≡ length nearest → AreNearest spans marks nearest → IsEnd spans mark → IsLast nearest mark.place
        → IfSome result (IsNearestIn spans marks mark.name mark.desc (start_in spans mark.place)) → IfSome result (Covers spans marks at)
    ends_cover nearest None count each end last reported = tt
    ends_cover nearest (Some near) count each end last reported = end_covers nearest count each end last near reported

-- ---- all marks

pub none_nearest : (spans : Spans) (marks : List MemberRow) (nearest : List (Option ℕ)) → nearest ≡ [] → AreNearest spans marks nearest
none_nearest spans marks nearest empty at lt = let none = ap length empty in absurd (omega (arith, lt, none))

pub more_nearest : (spans : Spans) (marks : List MemberRow) (nearest after : List (Option ℕ)) (near : Option ℕ) → AreNearest spans marks nearest → Covers spans marks (length nearest) near → after ≡ nearest ++ near ∷ [] → AreNearest spans marks after
more_nearest spans marks nearest after near each covers pushed = subst (AreNearest spans marks) (sym pushed) (λ at lt. elim (cases_lt at (length nearest)) [
  | inl before ↦ subst (Covers spans marks at) (sym (get_or_append_left nearest (near ∷ []) None at before)) (each at before)
  | inr past ↦
      (let count = length-append nearest (near ∷ []) in
      let same : at ≡ length nearest = omega (arith, lt, past, count) in
      subst (λ (n : ℕ). Covers spans marks n (get_or (nearest ++ near ∷ []) n None)) (sym same) (subst (Covers spans marks (length nearest)) (sym (get_or-append_seam nearest near [] None)) covers))
])

-- ---- the marks of rows

-- those of the first rows
pub record AreMarksOf (spans : Spans) (rows : List MemberRow) (count : ℕ) (marks : List MemberRow) : Type 0 where
  pub fit : All Fits marks
  pub starts : (k : ℕ) (row : MemberRow) → k < count → k < length rows → get_or rows k row ≡ row → Contains marks (mark_of row (start_in spans row.class))

module _ (spans : Spans) (rows : List MemberRow) where
  pub no_marks : (marks : List MemberRow) → marks ≡ [] → AreMarksOf spans rows 0 marks
  no_marks marks empty = record {
    fit = λ i d lt. (let none = ap length empty in absurd (omega (arith, lt, none)));
    starts = λ k row lt. absurd (omega (arith, lt));
  }

  pub more_marks : (i : ℕ) (row start end : MemberRow) (marks one two : List MemberRow) → i < length rows → get_or rows i row ≡ row → AreMarksOf spans rows i marks → start ≡ mark_of row (start_in spans row.class) → Fits start → Fits end
      → one ≡ marks ++ start ∷ [] → two ≡ one ++ end ∷ [] → AreMarksOf spans rows (i + 1) two
  more_marks i row start end marks one two within own far is fits also pushed again =
      subst (AreMarksOf spans rows (i + 1)) (sym (again ∙ ap (λ (ms : List MemberRow). ms ++ end ∷ []) pushed)) (record {
        fit = All-push Fits (marks ++ start ∷ []) end (All-push Fits marks start far.fit fits) also;
        starts = λ k other lt less at. elim (cases_lt k i) [
          | inl before ↦
              Contains-append_left (marks ++ start ∷ []) (end ∷ []) (mark_of other (start_in spans other.class)) (Contains-append_left marks (start ∷ []) (mark_of other (start_in spans other.class)) (far.starts k other before less at))
          | inr after ↦
              (let same : k ≡ i = omega (arith, lt, after) in
              let row_is : row ≡ other = sym own ∙ get_or_default rows i row other within ∙ ap (λ (j : ℕ). get_or rows j other) (sym same) ∙ at in
              let mark_is : start ≡ mark_of other (start_in spans other.class) = is ∙ ap (λ (r : MemberRow). mark_of r (start_in spans r.class)) row_is in
              Contains-append_left (marks ++ start ∷ []) (end ∷ []) (mark_of other (start_in spans other.class)) (subst (Contains (marks ++ start ∷ [])) mark_is (Contains-push marks start)))
        ];
      })

  pub all_marks : (count : ℕ) (marks sorted : List MemberRow) → length rows ≤ count → AreMarksOf spans rows count marks → IsPermutation marks sorted → IsNonDecreasingBy key_of sorted → AreMarks spans rows sorted
  all_marks count marks sorted past far moved ascend = record {
    order = record { fit = All-permutation Fits marks sorted moved far.fit; ascend = ascend };
    starts = λ row there. Contains-permutation marks sorted (mark_of row (start_in spans row.class)) moved (let lt = there.1 in far.starts there.0 row (omega (arith, lt, past)) there.1 there.2);
  }
