-- A table of labels, from its marks: in the order of the lines, and sorted by labels.
use Rattle.std.proofs.Common.{◌≡◌, ℕ, zero, suc, ◌+◌, ◌<◌, ◌≤◌, Bool, true, false, cond, if◌then◌else◌, not, ◌&&◌, List, [], ◌∷◌, ◌++◌, length, map, get_or, drop, Option, Some, None, slice_get, unwrap_or, filter, bytes_eq, refl, sym, ap, ◌∙◌, inl, inr, arith, true≢false}
use Rattle.std.specs.Cmp.Lexicographic.{slice_cmp}
use Rattle.std.specs.declared.cmp.Ordering.{Ordering}
use Rattle.std.specs.declared.cmp.Ordering.TheVariants.{Less, Equal, Greater}
use Rattle.std.specs.Ordering.{ordering_reverse, nat_cmp, is_lt}
use Rattle.std.specs.Fn.{Called, ComparesAs}
use Rattle.std.specs.Cmp.{IsStrictWeakOrder}
use Rattle.std.specs.List.Sorted.{IsSortedBy, IsStableBy, IsPartitionedBy, IsPartitionPoint, ties}
use Rattle.std.proofs.lemmas.List.{append-nil, append_assoc, map-append, drop_more, drop_all}
use Rattle.std.specs.FinMap.{nat_cmp-IsAntisymmetric, slice_cmp-IsAntisymmetric}
use Rattle.std.proofs.lemmas.List.Sorted.{ranks_by, sorted_far}
use Rattle.std.proofs.lemmas.Cmp.{nat_list_cmp_total, tied_itself}
use Rattle.std.proofs.lemmas.Fn.{always_returns_same}
use Rattle.std.proofs.lemmas.Bool.{cases_Bool, cases_lt}
use Rattle.std.proofs.lemmas.Slice.Eq.{bytes_eq-Decides}
use Rattle.std.proofs.lemmas.Option.{slice_get_read, slice_get-get_or, get_or_from_slice_get}
use Rattle.dj_cursor.proofs.Options.{some_is}
use Rattle.dj_asm_source.specs.declared.syntax.Line as the_line
use Rattle.dj_asm_source.specs.declared.label_table.LabelPlace as the_place
use Rattle.dj_asm_source.specs.trusted.Lines.{Label, Line}
use Rattle.dj_asm_source.specs.trusted.Labels.{is_instruction}
use Rattle.dj_asm_source.specs.LineViews.{line_view}
use Rattle.dj_asm_source.specs.LabelReading.{LabelMark, Marks, defined_by, with_mark, number_after, marks_from}
use Rattle.dj_asm_tokens.specs.WordReading.{row_of}
use Rattle.dj_asm_source.specs.LabelViews.{label_of_mark, mark_view, mark_row, is_label_before, marked}
use denote.Ref.{Bor}
use denote.Param.Members.{Mut}

-- ---- in the order of the lines

abbrev lines_view : List the_line.Line → List Line
lines_view lines = map line_view lines

abbrev at : ℕ → ℕ → the_place.LabelPlace
at place number = record { place = place; number = number }

abbrev label_or_none : Option the_line.Line → Label
label_or_none (Some line) = unwrap_or (defined_by (line_view line)) []
label_or_none None = []

rows_after : (lines : List the_line.Line) (place number : ℕ) (label : Option Label) (more : Marks) → (slice_get lines place ≡ slice_get lines place) → unwrap_or label [] ≡ label_of_mark lines (at place number)
    → map (mark_row lines) (marked label (at place number)) ++ more ≡ with_mark label place number more
rows_after lines place number None more e f = refl
rows_after lines place number (Some label) more e f = ap (λ l. (l, record { place = place; number = number }) ∷ more) (sym f)

pub marked_more : (lines : List the_line.Line) (old new : List the_place.LabelPlace) (place number : ℕ) (line : the_line.Line) → place < length lines → line ≡ get_or lines place line
    → new ≡ old ++ marked (defined_by (line_view line)) (at place number)
    → map (mark_row lines) new ++ marks_from (place + 1) (number_after (line_view line) number) (map line_view (drop (place + 1) lines))
    ≡ map (mark_row lines) old ++ marks_from place number (map line_view (drop place lines))
unfolding marks_from
marked_more lines old new place number line within is e =
    let row = mark_row lines in
    let label = defined_by (line_view line) in
    let more = marks_from (place + 1) (number_after (line_view line) number) (lines_view (drop (place + 1) lines)) in
    let got : slice_get lines place ≡ Some line = slice_get_read lines (length lines) place line refl within is in
    let here : map row (marked label (at place number)) ++ more ≡ with_mark label place number more = rows_after lines place number label more refl (ap label_or_none (sym got)) in
    let rest : drop place lines ≡ line ∷ drop (place + 1) lines = drop_more lines place line within ∙ ap (λ l. l ∷ drop (place + 1) lines) (sym is) in
    let one : place + 1 ≡ suc place = omega arith in
    let step : with_mark label place number more ≡ marks_from place number (lines_view (drop place lines)) =
    ap (λ p. with_mark label place number (marks_from p (number_after (line_view line) number) (lines_view (drop (place + 1) lines)))) one
    ∙ ap (λ ls. marks_from place number (lines_view ls)) (sym rest) in
    ap (λ ms. map row ms ++ more) e
    ∙ (ap (λ rs. rs ++ more) (map-append row old (marked label (at place number)))
    ∙ (append_assoc (map row old) (map row (marked label (at place number))) more
    ∙ ap (λ rs. map row old ++ rs) (here ∙ step)))

-- a line is an instruction at most
pub number_more : (line : the_line.Line) (number place : ℕ) → number ≤ place → number_after (line_view line) number ≤ place + 1
number_more line number place most = by (is_instruction (line_view line)) where
  by : (b : Bool) → (if b then suc number else number) ≤ place + 1
  by true = omega (arith, most)
  by false = omega (arith, most)

pub marked_all : (lines : List the_line.Line) (marks : List the_place.LabelPlace) (place number : ℕ) → length lines ≤ place
    → map (mark_row lines) marks ++ marks_from place number (map line_view (drop place lines)) ≡ map (mark_row lines) marks
unfolding marks_from
marked_all lines marks place number past =
    ap (λ ls. map (mark_row lines) marks ++ marks_from place number (lines_view ls)) (drop_all place lines past) ∙ append-nil (map (mark_row lines) marks)

-- ---- sorted by labels

abbrev cmp : Label → Label → Ordering
cmp = slice_cmp nat_cmp

label_order : (lines : List the_line.Line) → IsStrictWeakOrder (is_label_before lines)
label_order lines = ranks_by nat_list_cmp_total (label_of_mark lines)

-- what a sort asks of the closure that compares two marks
pub compares_labels : (lines : List the_line.Line) {F : Type 0} {g : Mut F (Bor the_place.LabelPlace × (Bor the_place.LabelPlace × Unit {0})) Ordering} {f : F}
    → ((a : Bor the_place.LabelPlace × (Bor the_place.LabelPlace × Unit {0})) (r : Ordering) (f' : F) → Called g f a r f'
    → (r ≡ slice_cmp nat_cmp (label_of_mark lines a.0.now) (label_of_mark lines a.1.0.now)) × (f' ≡ f))
    → IsStrictWeakOrder (is_label_before lines) × ComparesAs g (is_label_before lines) f
compares_labels lines {g = g} {f = f} h = (
  label_order lines,
  always_returns_same g (λ a r. is_lt r ≡ is_label_before lines a.0.now a.1.0.now) f (λ a r f' k. (ap is_lt (h a r f' k).0, (h a r f' k).1)),
)

less_back : (a b : Label) → cmp a b ≡ Greater → cmp b a ≡ Less
less_back a b e = nat_list_cmp_total.antisymm b a ∙ ap ordering_reverse e

same_label : (a b : Label) → cmp a b ≡ Equal → a ≡ b
same_label a b e = slice_cmp-IsAntisymmetric nat_cmp-IsAntisymmetric a b e

equal_itself : (a : Label) → cmp a a ≡ Equal
equal_itself a = tied_itself nat_list_cmp_total a

module _ (lines : List the_line.Line) (label : Label) where
  -- the row of the first of the marks
  first_mark : List the_place.LabelPlace → Option LabelMark
  first_mark [] = None
  first_mark (mark ∷ marks) = Some (mark_view mark)

  module _ (x : the_place.LabelPlace) (is : label_of_mark lines x ≡ label) where
    tied : (m : the_place.LabelPlace) → label_of_mark lines m ≡ label → ties (is_label_before lines) x m ≡ true
    tied m e =
        let same : label_of_mark lines m ≡ label_of_mark lines x = e ∙ sym is in
        ap (λ k. not (is_lt (cmp (label_of_mark lines x) k)) && not (is_lt (cmp k (label_of_mark lines x)))) same
        ∙ ap (λ r. not (is_lt r) && not (is_lt r)) (equal_itself (label_of_mark lines x))

    not_tied : (m : the_place.LabelPlace) → (label_of_mark lines m ≡ label → ⊥) → ties (is_label_before lines) x m ≡ false
    not_tied m n = by (cmp (label_of_mark lines x) (label_of_mark lines m)) refl where
      by : (r : Ordering) → cmp (label_of_mark lines x) (label_of_mark lines m) ≡ r → not (is_lt (cmp (label_of_mark lines x) (label_of_mark lines m))) && not (is_lt (cmp (label_of_mark lines m) (label_of_mark lines x))) ≡ false
      by Less e = ap (λ r. not (is_lt r) && not (is_lt (cmp (label_of_mark lines m) (label_of_mark lines x)))) e
      by Equal e = absurd (n (sym (same_label (label_of_mark lines x) (label_of_mark lines m) e) ∙ is))
      by Greater e =
          ap (λ r. not (is_lt r) && not (is_lt (cmp (label_of_mark lines m) (label_of_mark lines x)))) e
          ∙ ap (λ r. not (is_lt r)) (less_back (label_of_mark lines x) (label_of_mark lines m) e)

    tie_is : (m : the_place.LabelPlace) → ties (is_label_before lines) x m ≡ bytes_eq (label_of_mark lines m) label
    tie_is m =
        elim (cases_Bool (bytes_eq (label_of_mark lines m) label)) [
          | inl t ↦ tied m ((bytes_eq-Decides (label_of_mark lines m) label).0 t) ∙ sym t
          | inr t ↦ not_tied m (λ e. true≢false (sym ((bytes_eq-Decides (label_of_mark lines m) label).1 e) ∙ t)) ∙ sym t
        ]

    first_of_ties : (marks : List the_place.LabelPlace) → row_of (map (mark_row lines) marks) label ≡ first_mark (filter (ties (is_label_before lines) x) marks)
    unfolding first_mark
    first_of_ties [] = refl
    first_of_ties (m ∷ marks) =
        let rest = row_of (map (mark_row lines) marks) label in
        ap (λ t. cond t (Some (mark_view m)) rest) (sym (tie_is m)) ∙ by (ties (is_label_before lines) x m) (first_of_ties marks) where
          by : (t : Bool) → row_of (map (mark_row lines) marks) label ≡ first_mark (filter (ties (is_label_before lines) x) marks)
              → cond t (Some (mark_view m)) (row_of (map (mark_row lines) marks) label) ≡ first_mark (cond t (m ∷ filter (ties (is_label_before lines) x) marks) (filter (ties (is_label_before lines) x) marks))
          by true e = refl
          by false e = e

    same_at : (old new : List the_place.LabelPlace) → IsStableBy (is_label_before lines) old new → row_of (map (mark_row lines) new) label ≡ row_of (map (mark_row lines) old) label
    same_at old new stable = first_of_ties new ∙ (ap first_mark (stable x) ∙ sym (first_of_ties old))

  with_label : (marks : List the_place.LabelPlace) (found : LabelMark) → row_of (map (mark_row lines) marks) label ≡ Some found → (x : the_place.LabelPlace) × (label_of_mark lines x ≡ label)
  with_label [] found e = absurd cc
  with_label (m ∷ marks) found e =
      elim (cases_Bool (bytes_eq (label_of_mark lines m) label)) [
        | inl t ↦ (m, (bytes_eq-Decides (label_of_mark lines m) label).0 t)
        | inr t ↦ with_label marks found (sym (ap (λ b. cond b (Some (mark_view m)) (row_of (map (mark_row lines) marks) label)) t) ∙ e)
      ]

  stable_at : (old new : List the_place.LabelPlace) → IsStableBy (is_label_before lines) old new → row_of (map (mark_row lines) new) label ≡ row_of (map (mark_row lines) old) label
  stable_at old new stable = by (row_of (map (mark_row lines) old) label) (row_of (map (mark_row lines) new) label) refl refl where
    by : (o p : Option LabelMark) → row_of (map (mark_row lines) old) label ≡ o → row_of (map (mark_row lines) new) label ≡ p → row_of (map (mark_row lines) new) label ≡ row_of (map (mark_row lines) old) label
    by None None e f = f ∙ sym e
    by None (Some q) e f = let x = with_label new q f in same_at x.0 x.1 old new stable
    by (Some q) p e f = let x = with_label old q e in same_at x.0 x.1 old new stable

  -- ---- looked up

  -- it comes before the label
  abbrev comes_before : the_place.LabelPlace → Bool
  comes_before m = is_lt (slice_cmp nat_cmp (label_of_mark lines m) label)

  -- what is no later than a label before it comes before it too
  before_with : (a b : Label) → is_lt (cmp b a) ≡ false → is_lt (cmp b label) ≡ true → is_lt (cmp a label) ≡ true
  before_with a b far t = by (cmp a label) refl (cmp b label) refl t where
    no_less : cmp b a ≡ Less → ⊥
    no_less e = true≢false (sym (ap is_lt e) ∙ far)

    by : (r : Ordering) → cmp a label ≡ r → (s : Ordering) → cmp b label ≡ s → is_lt s ≡ true → is_lt r ≡ true
    by Less e s f t = refl
    by Equal e Less f t = absurd (no_less (ap (cmp b) (same_label a label e) ∙ f))
    by Equal e Equal f t = absurd (true≢false (sym t))
    by Equal e Greater f t = absurd (true≢false (sym t))
    by Greater e Less f t = absurd (no_less (nat_list_cmp_total.trans b label a f (less_back a label e)))
    by Greater e Equal f t = absurd (true≢false (sym t))
    by Greater e Greater f t = absurd (true≢false (sym t))

  parted : (marks : List the_place.LabelPlace) → IsSortedBy (is_label_before lines) marks → IsPartitionedBy (λ m. is_lt (slice_cmp nat_cmp (label_of_mark lines m) label)) marks
  parted marks sorted i j d up within t =
      before_with (label_of_mark lines (get_or marks i d)) (label_of_mark lines (get_or marks j d))
      (sorted_far (is_label_before lines) (label_order lines) marks sorted i j d up within) t

  unequal : (m : the_place.LabelPlace) → (label_of_mark lines m ≡ label → ⊥) → bytes_eq (label_of_mark lines m) label ≡ false
  unequal m n =
      elim (cases_Bool (bytes_eq (label_of_mark lines m) label)) [
        | inl t ↦ absurd (n ((bytes_eq-Decides (label_of_mark lines m) label).0 t))
        | inr t ↦ t
      ]

  -- a row that is passed
  passed : (m : the_place.LabelPlace) (marks : List the_place.LabelPlace) → (label_of_mark lines m ≡ label → ⊥) → row_of (map (mark_row lines) (m ∷ marks)) label ≡ row_of (map (mark_row lines) marks) label
  passed m marks n = ap (λ b. cond b (Some (mark_view m)) (row_of (map (mark_row lines) marks) label)) (unequal m n)

  not_before : (m : the_place.LabelPlace) → is_lt (cmp (label_of_mark lines m) label) ≡ true → label_of_mark lines m ≡ label → ⊥
  not_before m t e = true≢false (sym t ∙ (ap (λ k. is_lt (cmp k label)) e ∙ ap is_lt (equal_itself label)))

  found_at : (marks : List the_place.LabelPlace) (i : ℕ) (x : the_place.LabelPlace) → ((k : ℕ) (d : the_place.LabelPlace) → k < i → is_lt (cmp (label_of_mark lines (get_or marks k d)) label) ≡ true)
      → slice_get marks i ≡ Some x → label_of_mark lines x ≡ label → row_of (map (mark_row lines) marks) label ≡ Some (mark_view x)
  found_at [] i x before at e = absurd cc
  found_at (m ∷ marks) zero x before at e =
      let same : m ≡ x = some_is m x at in
      ap (λ b. cond b (Some (mark_view m)) (row_of (map (mark_row lines) marks) label)) ((bytes_eq-Decides (label_of_mark lines m) label).1 (ap (label_of_mark lines) same ∙ e))
      ∙ ap (λ y. Some (mark_view y)) same
  found_at (m ∷ marks) (suc i) x before at e =
      passed m marks (not_before m (before 0 m (omega arith)))
      ∙ found_at marks i x (λ k d below. before (suc k) d (omega (arith, below))) at e

  none_at : (marks : List the_place.LabelPlace) → ((k : ℕ) (d : the_place.LabelPlace) → k < length marks → label_of_mark lines (get_or marks k d) ≡ label → ⊥) → row_of (map (mark_row lines) marks) label ≡ None
  none_at [] none = refl
  none_at (m ∷ marks) none = passed m marks (none 0 m (omega arith)) ∙ none_at marks (λ k d below. none (suc k) d (omega (arith, below)))

  abbrev IsPoint : List the_place.LabelPlace → ℕ → Type 0
  IsPoint marks i = IsPartitionPoint (λ m. is_lt (slice_cmp nat_cmp (label_of_mark lines m) label) ≡ true) (λ m. is_lt (slice_cmp nat_cmp (label_of_mark lines m) label) ≡ false) marks i

  found_row : (marks : List the_place.LabelPlace) (i : ℕ) (x : the_place.LabelPlace) → IsPoint marks i → slice_get marks i ≡ Some x → cmp (label_of_mark lines x) label ≡ Equal
      → row_of (map (mark_row lines) marks) label ≡ Some (mark_view x)
  found_row marks i x point at e = found_at marks i x (λ k d below. point.0 k d (omega arith) below) at (same_label (label_of_mark lines x) label e)

  past_rows : (marks : List the_place.LabelPlace) (i : ℕ) → IsPoint marks i → length marks ≤ i → row_of (map (mark_row lines) marks) label ≡ None
  past_rows marks i point past = none_at marks (λ k d below. not_before (get_or marks k d) (point.0 k d (omega arith) (omega (arith, below, past))))

  -- the first that isn't before the label is after it
  no_row_of : (marks : List the_place.LabelPlace) (i : ℕ) (x : the_place.LabelPlace) → IsSortedBy (is_label_before lines) marks → IsPoint marks i → slice_get marks i ≡ Some x
      → cmp (label_of_mark lines x) label ≡ Greater → row_of (map (mark_row lines) marks) label ≡ None
  no_row_of marks i x sorted point at e = none_at marks each where
    each : (k : ℕ) (d : the_place.LabelPlace) → k < length marks → label_of_mark lines (get_or marks k d) ≡ label → ⊥
    each k d below same =
        elim (cases_lt k i) [
          | inl earlier ↦ not_before (get_or marks k d) (point.0 k d (omega arith) earlier) same
          | inr later ↦
              let far : is_lt (cmp (label_of_mark lines (get_or marks k d)) (label_of_mark lines (get_or marks i d))) ≡ false = sorted_far (is_label_before lines) (label_order lines) marks sorted i k d later below in
              let first : get_or marks i d ≡ x = get_or_from_slice_get marks i x d at in
              let less : cmp (label_of_mark lines (get_or marks k d)) (label_of_mark lines (get_or marks i d)) ≡ Less =
              ap (λ y. cmp y (label_of_mark lines (get_or marks i d))) same ∙ (ap (λ y. cmp label (label_of_mark lines y)) first ∙ less_back (label_of_mark lines x) label e) in
              true≢false (sym (ap is_lt less) ∙ far)
        ]

-- ---- for the table's own functions

-- sorting keeps what labels have
pub stable_rows : (lines : List the_line.Line) (old new : List the_place.LabelPlace) (label : Label) → IsStableBy (is_label_before lines) old new
    → row_of (map (mark_row lines) new) label ≡ row_of (map (mark_row lines) old) label
stable_rows lines old new label stable = stable_at lines label old new stable

-- what a look-up asks, and what the marks from there on say
pub parted_by : (lines : List the_line.Line) (label : Label) (marks : List the_place.LabelPlace) → IsSortedBy (is_label_before lines) marks
    → IsPartitionedBy (λ m. is_lt (slice_cmp nat_cmp (label_of_mark lines m) label)) marks
parted_by lines label marks sorted = parted lines label marks sorted

itself : (marks : List the_place.LabelPlace) (i : ℕ) (d : the_place.LabelPlace) → i < length marks → slice_get marks i ≡ Some (get_or marks i d)
itself marks i d within = slice_get-get_or marks i d within

pub row_found : (lines : List the_line.Line) (label : Label) (marks : List the_place.LabelPlace) (i : ℕ) (d : the_place.LabelPlace)
    → IsPartitionPoint (λ m. is_lt (slice_cmp nat_cmp (label_of_mark lines m) label) ≡ true) (λ m. is_lt (slice_cmp nat_cmp (label_of_mark lines m) label) ≡ false) marks i
    → i < length marks → Equal ≡ slice_cmp nat_cmp (label_of_mark lines (get_or marks i d)) label → Some (mark_view (get_or marks i d)) ≡ row_of (map (mark_row lines) marks) label
row_found lines label marks i d point within e = sym (found_row lines label marks i (get_or marks i d) point (itself marks i d within) (sym e))

pub row_missing : (lines : List the_line.Line) (label : Label) (marks : List the_place.LabelPlace) (i : ℕ) (d : the_place.LabelPlace) → IsSortedBy (is_label_before lines) marks
    → IsPartitionPoint (λ m. is_lt (slice_cmp nat_cmp (label_of_mark lines m) label) ≡ true) (λ m. is_lt (slice_cmp nat_cmp (label_of_mark lines m) label) ≡ false) marks i
    → i < length marks → Greater ≡ slice_cmp nat_cmp (label_of_mark lines (get_or marks i d)) label → None ≡ row_of (map (mark_row lines) marks) label
row_missing lines label marks i d sorted point within e = sym (no_row_of lines label marks i (get_or marks i d) sorted point (itself marks i d within) (sym e))

-- the mark there isn't before the label
pub row_less : (lines : List the_line.Line) (label : Label) (marks : List the_place.LabelPlace) (i : ℕ) (d : the_place.LabelPlace)
    → IsPartitionPoint (λ m. is_lt (slice_cmp nat_cmp (label_of_mark lines m) label) ≡ true) (λ m. is_lt (slice_cmp nat_cmp (label_of_mark lines m) label) ≡ false) marks i
    → i < length marks → Less ≡ slice_cmp nat_cmp (label_of_mark lines (get_or marks i d)) label → None ≡ row_of (map (mark_row lines) marks) label
row_less lines label marks i d point within e = absurd (true≢false (ap is_lt e ∙ point.1 i d (omega arith) within))

pub row_past_all : (lines : List the_line.Line) (label : Label) (marks : List the_place.LabelPlace) (i : ℕ)
    → IsPartitionPoint (λ m. is_lt (slice_cmp nat_cmp (label_of_mark lines m) label) ≡ true) (λ m. is_lt (slice_cmp nat_cmp (label_of_mark lines m) label) ≡ false) marks i
    → length marks ≤ i → None ≡ row_of (map (mark_row lines) marks) label
row_past_all lines label marks i point past = sym (past_rows lines label marks i point past)
