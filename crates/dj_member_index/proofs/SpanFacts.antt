-- Spans, marks and the nearest classes that declare a member, by plain values, each with something that it is not: the classes A, B and C, of which A is the superclass of the others.
use Rattle.std.proofs.Common.{◌≡◌, ℕ, zero, suc, ◌<◌, ◌≤◌, ◌⊎◌, List, [], ◌∷◌, get_or, Contains, Option, Some, None, codes, refl, sym, ap, ◌∙◌, subst, arith, inl, inr}
use Rattle.std.specs.List.Sorted.{IsNonDecreasingBy}
use Rattle.std.proofs.lemmas.List.Sorted.{IsNonDecreasingBy-push, IsNonDecreasingBy-short}
use Rattle.std.proofs.lemmas.Option.{none-some}
use Rattle.dj_names.specs.trusted.Types.{Name}
use Rattle.dj_model.specs.trusted.Program.{Program, Method}
use Rattle.dj_model.specs.SmallRuns.{class_with, method_with, code}
use Rattle.dj_member_index.specs.declared.rows.MemberRow.{MemberRow}
use Rattle.dj_member_index.specs.declared.spans.Spans.{Spans}
use Rattle.dj_member_index.specs.declared.marks.SpanMarks.{SpanMarks}
use Rattle.dj_member_index.specs.declared.calls.Marked.{Marked}
use Rattle.dj_member_index.specs.Calls.{AreMarked}
use Rattle.dj_member_index.specs.DirectoryRows.{AreInOrder, Fits, key_of}
use Rattle.dj_member_index.specs.Spans.{start_in, end_in, class_in, IsWithin, IsNested, AreSpans, mark_of, AreMarks, IsStart, IsEnd, IsLast, IsReported, StartsFrom, Covers, AreNearest, IsNearestIn, AreNear}

-- ---- a program

abbrev pub method : ℕ → Name → Method
method flags name = method_with flags name [] None (code [] [])

-- A has a public method m, B a private n, and m twice, and C a static m
abbrev pub program : Program
program =
    record (class_with (codes "A") [] (method 1 (codes "m") ∷ [])) { superclass = None }
    ∷ record (class_with (codes "B") [] (method 2 (codes "n") ∷ method 1 (codes "m") ∷ method 1 (codes "m") ∷ [])) { superclass = Some (codes "A") }
    ∷ record (class_with (codes "C") [] (method 9 (codes "m") ∷ [])) { superclass = Some (codes "A") }
    ∷ []

abbrev pub row : ℕ → ℕ → ℕ → ℕ → MemberRow
row name desc class place = record { name = name; desc = desc; class = class; place = place }

-- those of m in A and in B, where a call may take it
abbrev pub rows : List MemberRow
rows = row 7 8 0 0 ∷ row 7 8 1 1 ∷ []

-- A is entered, then C, which is left, then B, which is left, and then A is left
abbrev pub entered : List ℕ
entered = 0 ∷ 3 ∷ 1 ∷ []

abbrev pub left : List ℕ
left = 5 ∷ 4 ∷ 2 ∷ []

abbrev visited : List ℕ
visited = 0 ∷ 2 ∷ 0 ∷ 1 ∷ 0 ∷ 3 ∷ []

-- ---- marks

mark : (mark_of (row 7 8 1 4) 3 ≡ row 7 8 3 1) × (mark_of (row 7 8 1 4) 4 ≡ row 7 8 4 1)
mark = (refl, refl)

-- the class stands in place of the member, and not the member
no_member : mark_of (row 7 8 1 4) 3 ≡ row 7 8 3 4 → ⊥
no_member e = let place : 1 ≡ 4 = ap (λ (r : MemberRow). r.place) e in absurd (omega (arith, place))

-- ---- the last one, and what a mark says

last : IsLast (None ∷ Some 2 ∷ []) 2
last = record { some = omega arith; is = refl }

not_last : IsLast (Some 2 ∷ None ∷ []) 2 → ⊥
not_last is = none-some 2 is.is

none_is_last : (class : ℕ) → IsLast [] class → ⊥
none_is_last class is = let some = is.some in absurd (omega (arith, some))

reported : IsReported (None ∷ Some 2 ∷ []) 1 (Some 2) × IsReported (None ∷ Some 2 ∷ []) 0 None
reported = (record { there = omega arith; is = refl }, record { there = omega arith; is = refl })

not_reported : IsReported (None ∷ Some 2 ∷ []) 0 (Some 2) → ⊥
not_reported is = none-some 2 (sym is.is)

past_marks : (near : Option ℕ) → IsReported (None ∷ Some 2 ∷ []) 2 near → ⊥
past_marks near is = let lt = is.there in absurd (omega (arith, lt))

-- ---- a class that starts from a step

starts_from : StartsFrom (λ k. k) (Some 3) 3
starts_from = omega arith

starts_before : StartsFrom (λ k. k) (Some 3) 4 → ⊥
starts_before le = absurd (omega (arith, le))

none_starts : StartsFrom (λ k. k) None 0 → ⊥
none_starts none = none

-- ---- marks of rows

abbrev marks : List MemberRow
marks = row 7 8 0 0 ∷ row 7 8 3 1 ∷ row 7 8 4 1 ∷ row 7 8 5 0 ∷ []

ascend : IsNonDecreasingBy key_of marks
ascend =
    IsNonDecreasingBy-push key_of (row 7 8 0 0 ∷ row 7 8 3 1 ∷ row 7 8 4 1 ∷ []) (row 7 8 5 0)
    (IsNonDecreasingBy-push key_of (row 7 8 0 0 ∷ row 7 8 3 1 ∷ []) (row 7 8 4 1)
    (IsNonDecreasingBy-push key_of (row 7 8 0 0 ∷ []) (row 7 8 3 1) (IsNonDecreasingBy-short key_of (row 7 8 0 0 ∷ []) (omega arith)) (λ d some. omega arith)) (λ d some. omega arith)) (λ d some. omega arith)

in_order : AreInOrder marks
in_order = record { fit = fit; ascend = ascend } where
  fit : (k : ℕ) (d : MemberRow) → k < 4 → Fits (get_or marks k d)
  fit zero d lt = record { desc = omega arith; class = omega arith; place = omega arith }
  fit (suc zero) d lt = record { desc = omega arith; class = omega arith; place = omega arith }
  fit (suc (suc zero)) d lt = record { desc = omega arith; class = omega arith; place = omega arith }
  fit (suc (suc (suc zero))) d lt = record { desc = omega arith; class = omega arith; place = omega arith }
  fit (suc (suc (suc (suc k)))) d lt = absurd (omega (arith, lt))

module _ (spans : Spans) (entered_are : spans.starts.items ≡ entered) (left_are : spans.ends.items ≡ left) (visited_are : spans.classes.items ≡ visited) where
  start : (k : ℕ) → start_in spans k ≡ get_or entered k 4294967295
  start k = ap (λ (xs : List ℕ). get_or xs k 4294967295) entered_are

  end : (k : ℕ) → end_in spans k ≡ get_or left k 4294967295
  end k = ap (λ (xs : List ℕ). get_or xs k 4294967295) left_are

  own : (k : ℕ) → class_in spans (start_in spans k) ≡ get_or visited (get_or entered k 4294967295) 4294967295
  own k = ap (λ (xs : List ℕ). get_or xs (start_in spans k) 4294967295) visited_are ∙ ap (λ (s : ℕ). get_or visited s 4294967295) (start k)

  starts : (start_in spans 0 ≡ 0) × (start_in spans 1 ≡ 3) × (start_in spans 2 ≡ 1) × (start_in spans 3 ≡ 4294967295)
  starts = (start 0, start 1, start 2, start 3)

  ends : (end_in spans 0 ≡ 5) × (end_in spans 1 ≡ 4) × (end_in spans 2 ≡ 2) × (end_in spans 3 ≡ 4294967295)
  ends = (end 0, end 1, end 2, end 3)

  -- ---- spans

  b_in_a : IsWithin spans 1 (Some 0)
  b_in_a = (let one = starts.0 in let two = starts.1 in omega (arith, one, two), let one = ends.0 in let two = ends.1 in omega (arith, one, two))

  c_in_a : IsWithin spans 2 (Some 0)
  c_in_a = (let one = starts.0 in let two = starts.2 in omega (arith, one, two), let one = ends.0 in let two = ends.2 in omega (arith, one, two))

  -- nor is B in C, which is left before, nor A in B
  b_not_in_c : IsWithin spans 1 (Some 2) → ⊥
  b_not_in_c within = let le = within.1 in let one = ends.1 in let two = ends.2 in absurd (omega (arith, le, one, two))

  a_not_in_b : IsWithin spans 0 (Some 1) → ⊥
  a_not_in_b within = let lt = within.0 in let one = starts.0 in let two = starts.1 in absurd (omega (arith, lt, one, two))

  nested : AreSpans program spans
  nested zero lt = record { own = own 0; some = let one = starts.0 in let two = ends.0 in omega (arith, one, two); within = tt }
  nested (suc zero) lt = record { own = own 1; some = let one = starts.1 in let two = ends.1 in omega (arith, one, two); within = b_in_a }
  nested (suc (suc zero)) lt = record { own = own 2; some = let one = starts.2 in let two = ends.2 in omega (arith, one, two); within = c_in_a }
  nested (suc (suc (suc k))) lt = absurd (omega (arith, lt))

  -- a class that the walk doesn't come to
  not_entered : IsNested program spans 3 → ⊥
  not_entered is = let lt = is.some in let one = starts.3 in let two = ends.3 in absurd (omega (arith, lt, one, two))

  -- ---- starts and ends

  start_of_b : IsStart spans (row 7 8 3 1)
  start_of_b = record { at = sym (start 1); own = own 1 }

  end_is_no_start : IsStart spans (row 7 8 4 1) → ⊥
  end_is_no_start is = let at = is.at in let one = starts.1 in absurd (omega (arith, at, one))

  end_of_b : IsEnd spans (row 7 8 4 1)
  end_of_b = record { after = let one = starts.1 in omega (arith, one); past = let one = ends.1 in omega (arith, one); own = own 1 }

  start_is_no_end : IsEnd spans (row 7 8 3 1) → ⊥
  start_is_no_end is = let past = is.past in let one = ends.1 in absurd (omega (arith, past, one))

  marks_are : AreMarks spans rows marks
  marks_are = record { order = in_order; starts = λ r there. starts_at there.0 r there.1 there.2 } where
    starts_at : (k : ℕ) (r : MemberRow) → k < 2 → get_or rows k r ≡ r → Contains marks (mark_of r (start_in spans r.class))
    starts_at zero r lt is = subst (λ (x : MemberRow). Contains marks (mark_of x (start_in spans x.class))) is (0, omega arith, ap (λ (s : ℕ). row 7 8 s 0) (sym (start 0)))
    starts_at (suc zero) r lt is = subst (λ (x : MemberRow). Contains marks (mark_of x (start_in spans x.class))) is (1, omega arith, ap (λ (s : ℕ). row 7 8 s 1) (sym (start 1)))
    starts_at (suc (suc k)) r lt is = absurd (omega (arith, lt))

  -- the start of the class of each row must be among the marks
  start_left_out : AreMarks spans rows (row 7 8 0 0 ∷ []) → ⊥
  start_left_out are =
      let there = are.starts (row 7 8 1 1) (1, omega arith, refl) in
      let at = there.0 in
      let lt = there.1 in
      let first : at ≡ 0 = omega (arith, lt) in
      let is : row 7 8 0 0 ≡ mark_of (row 7 8 1 1) (start_in spans 1) = ap (λ (k : ℕ). get_or (row 7 8 0 0 ∷ []) k (mark_of (row 7 8 1 1) (start_in spans 1))) (sym first) ∙ there.2 in
      let place : 0 ≡ 1 = ap (λ (r : MemberRow). r.place) is in
      absurd (omega (arith, place))

  -- ---- the nearest one

  abbrev nearest : List (Option ℕ)
  nearest = Some 0 ∷ Some 1 ∷ Some 0 ∷ None ∷ []

  -- the starts of A and B are the only ones
  starts_only : (k : ℕ) (other : MemberRow) → k < 4 → get_or marks k other ≡ other → IsStart spans other → (other ≡ row 7 8 0 0) ⊎ ((other ≡ row 7 8 3 1) × (0 < k))
  starts_only zero other lt is own = inl (sym is)
  starts_only (suc zero) other lt is own = inr (sym is, omega arith)
  starts_only (suc (suc zero)) other lt is own = absurd (end_is_no_start (subst (IsStart spans) (sym is) own))
  starts_only (suc (suc (suc zero))) other lt is own =
      let last = subst (IsStart spans) (sym is) own in
      let at = last.at in
      let one = starts.0 in
      absurd (omega (arith, at, one))
  starts_only (suc (suc (suc (suc k)))) other lt is own = absurd (omega (arith, lt))

  covers : (at : ℕ) (m : MemberRow) (near : Option ℕ) → at < 4 → ((d : MemberRow) → get_or marks at d ≡ m) → (m.class < 5 → StartsFrom (start_in spans) near 0) → (0 < at → m.class < 4 → StartsFrom (start_in spans) near 3)
      → Covers spans marks at near
  covers at m near less at_is of_a of_b mark other k within mark_is le is own name_is desc_is lasts =
      let here : m.class ≡ mark.class = ap (λ (r : MemberRow). r.class) (sym (at_is mark) ∙ mark_is) in
      elim (starts_only k other (omega (arith, le, less)) is own) [
        | inl a ↦
            (let stop : end_in spans other.place ≡ 5 = ap (λ (r : MemberRow). end_in spans r.place) a ∙ ends.0 in
            subst (λ (r : MemberRow). StartsFrom (start_in spans) near r.class) (sym a) (of_a (omega (arith, lasts, here, stop))))
        | inr b ↦
            (let stop : end_in spans other.place ≡ 4 = ap (λ (r : MemberRow). end_in spans r.place) b.0 ∙ ends.1 in
            let some = b.1 in
            subst (λ (r : MemberRow). StartsFrom (start_in spans) near r.class) (sym b.0) (of_b (omega (arith, some, le)) (omega (arith, lasts, here, stop))))
      ]

  nearest_are : AreNearest spans marks nearest
  nearest_are zero lt = covers 0 (row 7 8 0 0) (Some 0) (omega arith) (λ d. refl) (λ lasts. omega arith) (λ some. absurd (omega (arith, some)))
  nearest_are (suc zero) lt = covers 1 (row 7 8 3 1) (Some 1) (omega arith) (λ d. refl) (λ lasts. omega arith) (λ some lasts. let one = starts.1 in omega (arith, one))
  nearest_are (suc (suc zero)) lt = covers 2 (row 7 8 4 1) (Some 0) (omega arith) (λ d. refl) (λ lasts. omega arith) (λ some lasts. absurd (omega (arith, lasts)))
  nearest_are (suc (suc (suc zero))) lt = covers 3 (row 7 8 5 0) None (omega arith) (λ d. refl) (λ lasts. absurd (omega (arith, lasts))) (λ some lasts. absurd (omega (arith, lasts)))
  nearest_are (suc (suc (suc (suc k)))) lt = absurd (omega (arith, lt))

  b_is_open : 3 < end_in spans 1
  b_is_open = let one = ends.1 in omega (arith, one)

  -- after the start of B neither A is the nearest, nor none
  a_after_b : Covers spans marks 1 (Some 0) → ⊥
  a_after_b covered =
      let le : 3 ≤ start_in spans 0 = covered (row 7 8 3 1) (row 7 8 3 1) 1 (omega arith) refl (omega arith) refl start_of_b refl refl b_is_open in
      let one = starts.0 in
      absurd (omega (arith, le, one))

  none_after_b : Covers spans marks 1 None → ⊥
  none_after_b covered = covered (row 7 8 3 1) (row 7 8 3 1) 1 (omega arith) refl (omega arith) refl start_of_b refl refl b_is_open

  none_after_any : AreNearest spans marks (None ∷ None ∷ []) → ⊥
  none_after_any are = none_after_b (are 1 (omega arith))

  -- of the classes that have started before B's own step is past, B; of those before C's is past, A; and of no other numbers any
  nearest_to_b : IsNearestIn spans marks 7 8 4 (Some 1)
  nearest_to_b other there own name_is desc_is before lasts = elim (starts_only there.0 other there.1 there.2 own) [
    | inl a ↦ subst (λ (r : MemberRow). StartsFrom (start_in spans) (Some 1) r.class) (sym a) (omega arith)
    | inr b ↦ subst (λ (r : MemberRow). StartsFrom (start_in spans) (Some 1) r.class) (sym b.0) (let one = starts.1 in omega (arith, one))
  ]

  nearest_to_c : IsNearestIn spans marks 7 8 2 (Some 0)
  nearest_to_c other there own name_is desc_is before lasts = elim (starts_only there.0 other there.1 there.2 own) [
    | inl a ↦ subst (λ (r : MemberRow). StartsFrom (start_in spans) (Some 0) r.class) (sym a) (omega arith)
    | inr b ↦ (let class : other.class ≡ 3 = ap (λ (r : MemberRow). r.class) b.0 in absurd (omega (arith, class, before)))
  ]

  none_of_others : IsNearestIn spans marks 7 9 4 None
  none_of_others other there own name_is desc_is before lasts = elim (starts_only there.0 other there.1 there.2 own) [
    | inl a ↦ (let desc : other.desc ≡ 8 = ap (λ (r : MemberRow). r.desc) a in absurd (omega (arith, desc, desc_is)))
    | inr b ↦ (let desc : other.desc ≡ 8 = ap (λ (r : MemberRow). r.desc) b.0 in absurd (omega (arith, desc, desc_is)))
  ]

  a_for_b : IsNearestIn spans marks 7 8 4 (Some 0) → ⊥
  a_for_b near =
      let le : 3 ≤ start_in spans 0 = near (row 7 8 3 1) (1, omega arith, refl) start_of_b refl refl (omega arith) b_is_open in
      let one = starts.0 in
      absurd (omega (arith, le, one))

  none_for_b : IsNearestIn spans marks 7 8 4 None → ⊥
  none_for_b near = near (row 7 8 3 1) (1, omega arith, refl) start_of_b refl refl (omega arith) b_is_open

  -- ---- what is kept

  pub are_near : (kept : SpanMarks) → kept.rows.items ≡ marks → kept.nearest.items ≡ nearest → AreNear spans rows kept
  are_near kept marks_is nearest_is = record {
    marks_are = subst (AreMarks spans rows) (sym marks_is) marks_are;
    nearest_are = subst (λ (ms : List MemberRow). AreNearest spans ms kept.nearest.items) (sym marks_is) (subst (AreNearest spans marks) (sym nearest_is) nearest_are);
  }

  none_near : (kept : SpanMarks) → kept.rows.items ≡ marks → kept.nearest.items ≡ None ∷ None ∷ [] → AreNear spans rows kept → ⊥
  none_near kept marks_is nearest_is near =
      none_after_any (subst (AreNearest spans marks) nearest_is (subst (λ (ms : List MemberRow). AreNearest spans ms kept.nearest.items) marks_is near.nearest_are))

  -- ---- the marks of methods that a call may take

  marked_are : (marked : Marked) → marked.spans ≡ spans → marked.plain.rows.items ≡ marks → marked.plain.nearest.items ≡ nearest → marked.instance.rows.items ≡ marks → marked.instance.nearest.items ≡ nearest → AreMarked program rows rows marked
  marked_are marked spans_is plain_marks plain_nearest instance_marks instance_nearest = record {
    spans_are = subst (AreSpans program) (sym spans_is) nested;
    plain_are = subst (λ (s : Spans). AreNear s rows marked.plain) (sym spans_is) (are_near marked.plain plain_marks plain_nearest);
    instance_are = subst (λ (s : Spans). AreNear s rows marked.instance) (sym spans_is) (are_near marked.instance instance_marks instance_nearest);
  }

  none_marked : (marked : Marked) → marked.spans ≡ spans → marked.plain.rows.items ≡ marks → marked.plain.nearest.items ≡ None ∷ None ∷ [] → AreMarked program rows rows marked → ⊥
  none_marked marked spans_is plain_marks plain_nearest are = none_near marked.plain plain_marks plain_nearest (subst (λ (s : Spans). AreNear s rows marked.plain) spans_is are.plain_are)
