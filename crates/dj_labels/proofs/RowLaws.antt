-- Rows of an exception table and their ranges.
use Rattle.std.proofs.Common.{◌≡◌, ℕ, ◌+◌, ◌<◌, inl, inr, List, [], ◌∷◌, ◌++◌, length, take, get_or, slice_get, Some, refl, ap, subst, ◌∙◌, arith}
use Rattle.std.specs.List.{AllByRecursion}
use Rattle.std.proofs.lemmas.Bool.{cases_order}
use Rattle.std.proofs.lemmas.List.{length-append, get_or_append_left, map_push}
use Rattle.std.proofs.lemmas.Option.{slice_get_within, get_or_from_slice_get}
use Rattle.dj_ops.specs.declared.rows.CatchRow.{CatchRow}
use Rattle.dj_labels.specs.declared.labelled.Protected.{Protected}
use Rattle.dj_labels.specs.trusted.Labels.{IsRange, row_of}
use Rattle.dj_labels.specs.Faults.{IsRow}
use Rattle.dj_labels.specs.Passes.{IsRising, IsRangeOf, AreRangesOf, IsRowFault}
use Rattle.dj_labels.proofs.Lists.{each_more}
use Rattle.dj_labels.proofs.Numbers.{are_rows}

abbrev pub range_with : ℕ → ℕ → ℕ → ℕ → Protected
range_with start end handler catch_type = record { start = start; end = end; handler = handler; catch_type = catch_type }

abbrev row_with : ℕ → ℕ → ℕ → ℕ → CatchRow
row_with start end handler catch_type = record { start = start; end = end; handler = handler; catch_type = catch_type }

-- numbers rise as their addresses do
number_rises : (xs : List ℕ) (i j a b : ℕ) → IsRising xs → get_or xs i 0 ≡ a → get_or xs j 0 ≡ b → i < length xs → a < b → i < j
number_rises xs i j a b rise first second within lt = elim (cases_order i j) [
  | inl same ↦ absurd (omega (arith, ap (λ (n : ℕ). get_or xs n 0) same, first, second, lt))
  | inr apart ↦ elim apart [
    | inl before ↦ before
    | inr after ↦ let falls : get_or xs j 0 < get_or xs i 0 = rise j i 0 after within in absurd (omega (arith, falls, first, second, lt))
  ]
]

pub range_made : (starts : List ℕ) (size start end handler : ℕ) (row : CatchRow) → IsRising (starts ++ size ∷ []) → row.start < row.end → slice_get starts start ≡ Some row.start → slice_get (starts ++ size ∷ []) end ≡ Some row.end → slice_get starts handler ≡ Some row.handler → IsRangeOf starts size row (range_with start end handler row.catch_type)
range_made starts size start end handler row rise lt at_start at_end at_handler =
    let many : length (starts ++ size ∷ []) ≡ length starts + 1 = length-append starts (size ∷ []) in
    let start_in : start < length starts = slice_get_within starts start row.start at_start in
    let handler_in : handler < length starts = slice_get_within starts handler row.handler at_handler in
    let end_in : end < length (starts ++ size ∷ []) = slice_get_within (starts ++ size ∷ []) end row.end at_end in
    let first : get_or (starts ++ size ∷ []) start 0 ≡ row.start = get_or_append_left starts (size ∷ []) 0 start start_in ∙ get_or_from_slice_get starts start row.start 0 at_start in
    let last : get_or (starts ++ size ∷ []) end 0 ≡ row.end = get_or_from_slice_get (starts ++ size ∷ []) end row.end 0 at_end in
    let caught : get_or (starts ++ size ∷ []) handler 0 ≡ row.handler = get_or_append_left starts (size ∷ []) 0 handler handler_in ∙ get_or_from_slice_get starts handler row.handler 0 at_handler in
    record {
      good = record {
        some = number_rises (starts ++ size ∷ []) start end row.start row.end rise first last (omega (arith, many, start_in)) lt;
        within = omega (arith, many, end_in);
        handled = handler_in;
      };
      row_is =
          ap (λ (n : ℕ). row_with n (get_or (starts ++ size ∷ []) end 0) (get_or (starts ++ size ∷ []) handler 0) row.catch_type) first
          ∙ ap (λ (n : ℕ). row_with row.start n (get_or (starts ++ size ∷ []) handler 0) row.catch_type) last
          ∙ ap (λ (n : ℕ). row_with row.start row.end n row.catch_type) caught;
    }

-- ---- the pass over the rows

pub ranges_none : (starts : List ℕ) (size : ℕ) → AreRangesOf starts size [] []
ranges_none starts size = record { good = tt; rows_are = refl }

pub ranges_more : (starts : List ℕ) (size : ℕ) (rows : List CatchRow) (ranges : List Protected) (row : CatchRow) (range : Protected) → AreRangesOf starts size rows ranges → IsRangeOf starts size row range → AreRangesOf starts size (rows ++ row ∷ []) (ranges ++ range ∷ [])
ranges_more starts size rows ranges row range h is = record {
  good = each_more (IsRange (length starts)) ranges range h.good is.good;
  rows_are =
      map_push (row_of (starts ++ size ∷ [])) ranges range
      ∙ ap (λ (l : List CatchRow). l ++ row_of (starts ++ size ∷ []) range ∷ []) h.rows_are
      ∙ ap (λ (r : CatchRow). rows ++ r ∷ []) is.row_is;
}

pub row_fault : (starts : List ℕ) (size : ℕ) (table : List CatchRow) (ranges : List Protected) (number : ℕ) (row : CatchRow) → IsRising (starts ++ size ∷ []) → AreRangesOf starts size (take number table) ranges → slice_get table number ≡ Some row → (IsRow starts size row → ⊥) → IsRowFault starts size table number
row_fault starts size table ranges number row rise h found lacks = record {
  row = row;
  first = record {
    found = found;
    lacks = lacks;
    before = subst (AllByRecursion (IsRow starts size)) h.rows_are (are_rows starts size ranges rise h.good);
  };
}
