-- Code and its table have labels, or a first fault: one of them is always there.
use Rattle.std.proofs.Common.{◌≡◌, ℕ, zero, suc, ◌+◌, ◌<◌, ◌≤◌, ◌⊎◌, inl, inr, ℤ, pos, negsuc, nat_abs, List, [], ◌∷◌, ◌++◌, map, length, get_or, slice_get, Some, Contains, refl, sym, ap, subst, ◌∙◌, arith, tests}
use Rattle.std.specs.List.{AllByRecursion}
use Rattle.std.proofs.lemmas.Bool.{cases_lt, cases_eq}
use Rattle.std.proofs.lemmas.Int.{ints}
use Rattle.std.proofs.lemmas.List.{length-map, get_or-map}
use Rattle.std.proofs.lemmas.List.Elements.{Contains-get_or}
use Rattle.std.proofs.lemmas.Option.{slice_get-get_or, slice_get_within}
use Rattle.dj_cursor.specs.Reading.{cursor_at}
use Rattle.dj_cursor.proofs.Bytes.{IsBytes}
use Rattle.dj_ops.specs.declared.instruction.Instr.{Instr}
use Rattle.dj_ops.specs.declared.rows.CatchRow.{CatchRow}
use Rattle.dj_ops.specs.Reading.{instr_at}
use Rattle.dj_ops.proofs.Parts.{outcome}
use Rattle.dj_ops.proofs.Whole.{what_is_read, reads_again}
use Rattle.dj_labels.specs.declared.labelled.Protected.{Protected}
use Rattle.dj_labels.specs.declared.errors.CodeError.TheVariants as errors
use Rattle.dj_labels.specs.trusted.Targets.{targets_of, with_targets}
use Rattle.dj_labels.specs.trusted.Labels.{IsCut, IsNumber, HasNumbers, IsRange, address_of, addressed, row_of}
use Rattle.dj_labels.specs.Faults.{IsFirstWithout, IsOpFault, HasStarts, IsRow}
use Rattle.dj_labels.specs.Laws.{HasLabels, HasFault, LabelsOrFault}
use Rattle.dj_labels.specs.Passes.{AreStarts, IsInstrOf, AreInstrs, IsRangeOf, AreRangesOf, IsRising}
use Rattle.dj_labels.proofs.Lists.{each_then, each_map, map_undone}
use Rattle.dj_labels.proofs.Cuts.{one_more, as_many}
use Rattle.dj_labels.proofs.Numbers.{place_of, number_of, targets_undone, targets_replaced}
use Rattle.dj_labels.proofs.RowLaws.{range_with, range_made}
use Rattle.dj_labels.proofs.Whole.{bounds_all_rise, labelled}

abbrev Is : Type 0 → Type 0
Is P = P ⊎ (P → ⊥)

-- ---- what is decided of lists

contains_cons : {X : Type 0} (y x : X) (ys : List X) (k : ℕ) → (y ≡ x → ⊥) → (Contains ys x → ⊥) → k < length (y ∷ ys) → get_or (y ∷ ys) k x ≡ x → ⊥
contains_cons y x ys zero apart none lt at = apart at
contains_cons y x ys (suc k) apart none lt at = none (k, omega (arith, lt), at)

contains : {X : Type 0} → ((a b : X) → Is (a ≡ b)) → (xs : List X) (x : X) → Is (Contains xs x)
contains same [] x = inr (λ there. omega (arith, there.1))
contains same (y ∷ ys) x = elim (same y x) [
  | inl here ↦ inl (0, omega arith, here)
  | inr apart ↦ elim (contains same ys x) [
    | inl there ↦ inl (suc there.0, omega (arith, there.1), there.2)
    | inr none ↦ inr (λ there. contains_cons y x ys there.0 apart none there.1 there.2)
  ]
]

int_same : (a b : ℤ) → Is (a ≡ b)
int_same (pos m) (pos n) = elim (cases_eq m n) [ inl same ↦ inl (ap pos same) | inr apart ↦ inr (λ e. apart (ap nat_abs e)) ]
int_same (pos m) (negsuc n) = inr (λ e. absurd cc)
int_same (negsuc m) (pos n) = inr (λ e. absurd cc)
int_same (negsuc m) (negsuc n) = elim (cases_eq m n) [ inl same ↦ inl (ap negsuc same) | inr apart ↦ inr (λ e. let abs = ap nat_abs e in apart (omega (arith, abs))) ]

each : {X : Type 0} (P : X → Type 0) → ((x : X) → Is (P x)) → (xs : List X) → Is (AllByRecursion P xs)
each P is [] = inl tt
each P is (x ∷ xs) = elim (is x) [
  | inl here ↦ elim (each P is xs) [ inl rest ↦ inl (here, rest) | inr none ↦ inr (λ all. none all.1) ]
  | inr none ↦ inr (λ all. none all.0)
]

record Without {X : Type 0} (P : X → Type 0) (xs : List X) : Type 0 where
  pub number : ℕ
  pub item : X
  pub first : IsFirstWithout P xs number item

first_without : {X : Type 0} (P : X → Type 0) → ((x : X) → Is (P x)) → (xs : List X) → AllByRecursion P xs ⊎ Without P xs
first_without P is [] = inl tt
first_without P is (x ∷ xs) = elim (is x) [
  | inl here ↦ elim (first_without P is xs) [
    | inl rest ↦ inl (here, rest)
    | inr w ↦ inr (record { number = suc w.number; item = w.item; first = record { found = w.first.found; lacks = w.first.lacks; before = (here, w.first.before) } })
  ]
  | inr lacks ↦ inr (record { number = 0; item = x; first = record { found = refl; lacks = lacks; before = tt } })
]

-- ---- the cut

record Cut (code : List ℕ) : Type 0 where
  pub starts : List ℕ
  pub are : AreStarts code starts

record OpFault (code : List ℕ) : Type 0 where
  pub at : ℕ
  pub fault : IsOpFault code at

whole : (code starts : List ℕ) (instrs : List Instr) (at : ℕ) → IsCut code starts instrs at → at ≤ length code → length code ≤ at → Cut code
whole code starts instrs at cut le past =
    let same : at ≡ length code = omega (arith, le, past) in
    record { starts = starts; are = record { instrs = instrs; cut = subst (λ (n : ℕ). IsCut code starts instrs n) same cut } }

cut_from : (fuel : ℕ) (code starts : List ℕ) (instrs : List Instr) (at : ℕ) → IsBytes code → IsCut code starts instrs at → at ≤ length code → length code ≤ at + fuel → Cut code ⊎ OpFault code
cut_from zero code starts instrs at bytes cut le enough = inl (whole code starts instrs at cut le (omega (arith, enough)))
cut_from (suc fuel) code starts instrs at bytes cut le enough = elim (cases_lt at (length code)) [
  | inr past ↦ inl (whole code starts instrs at cut le past)
  | inl lt ↦ elim (outcome (instr_at (cursor_at at code))) [
    | inl x ↦
        let s = what_is_read code at x.0 bytes lt x.1 in
        cut_from fuel code (starts ++ at ∷ []) (instrs ++ x.0.0 ∷ []) x.0.1.place bytes (one_more code starts instrs at x.0.1.place x.0.0 cut s) s.within (omega (arith, enough, s.later))
    | inr e ↦ inr (record {
      at = at;
      fault = record {
        starts = starts;
        instrs = instrs;
        cut = cut;
        within = lt;
        none = λ instr next s. let read = reads_again code at instr next s in let refused = e.1 in absurd cc;
      };
    })
  ]
]

-- ---- numbers of addresses

contains_tail : (x a : ℕ) (xs : List ℕ) (k : ℕ) → (x ≡ a → ⊥) → k < length (x ∷ xs) → get_or (x ∷ xs) k a ≡ a → Contains xs a
contains_tail x a xs zero apart lt at = absurd (apart at)
contains_tail x a xs (suc k) apart lt at = (k, omega (arith, lt), at)

place_in : (xs : List ℕ) (a : ℕ) → Contains xs a → (place_of xs a < length xs) × (get_or xs (place_of xs a) 0 ≡ a)
unfolding place_of
place_in [] a there = absurd (omega (arith, there.1))
place_in (x ∷ xs) a there = elim (cases_eq x a) [
  | inl same ↦ (grind (arith, tests, same), grind (arith, tests, same))
  | inr apart ↦
      let rest = place_in xs a (contains_tail x a xs there.0 apart there.1 there.2) in
      (grind (arith, tests, apart, rest), grind (arith, tests, apart, rest))
]

IsBack : List ℕ → ℤ → Type 0
IsBack starts t = IsNumber (length starts) (number_of starts t) × (address_of starts (number_of starts t) ≡ t)

back_at : (starts : List ℕ) (a : ℕ) → Contains starts a → IsBack starts (pos a)
unfolding IsBack number_of
back_at starts a there = let p = place_in starts a there in let lt = p.0 in ((omega (arith, ints), omega (arith, ints, lt)), ap pos p.1)

number_back : (starts : List ℕ) (t : ℤ) → Contains (map pos starts) t → IsBack starts t
number_back starts t there =
    let within : there.0 < length starts = omega (arith, there.1, length-map starts pos) in
    let here : t ≡ pos (get_or starts there.0 0) = sym there.2 ∙ get_or-map pos starts there.0 0 t within in
    subst (IsBack starts) (sym here) (back_at starts (get_or starts there.0 0) (Contains-get_or starts there.0 0 within))

instr_back : (starts : List ℕ) (instr : Instr) → HasStarts starts instr → IsInstrOf starts instr (with_targets (number_of starts) instr)
unfolding IsBack
instr_back starts instr has =
    let back = each_then (Contains (map pos starts)) (IsBack starts) (number_back starts) (targets_of instr) has in
    record {
      each = subst (AllByRecursion (IsNumber (length starts))) (sym (targets_replaced (number_of starts) instr))
          (each_map (IsNumber (length starts)) (number_of starts) (targets_of instr) (each_then (IsBack starts) (λ t. IsNumber (length starts) (number_of starts t)) (λ t b. b.0) (targets_of instr) back));
      start = targets_undone (number_of starts) (address_of starts) instr (each_then (IsBack starts) (λ t. address_of starts (number_of starts t) ≡ t) (λ t b. b.1) (targets_of instr) back);
    }

instrs_back : (code starts : List ℕ) (instrs : List Instr) → IsCut code starts instrs (length code) → AllByRecursion (HasStarts starts) instrs → AreInstrs code starts (map (with_targets (number_of starts)) instrs)
instrs_back code starts instrs cut has =
    let back = each_then (HasStarts starts) (λ instr. IsInstrOf starts instr (with_targets (number_of starts) instr)) (instr_back starts) instrs has in
    let same : addressed starts (map (with_targets (number_of starts)) instrs) ≡ instrs =
    map_undone (with_targets (number_of starts)) (with_targets (address_of starts)) instrs (each_then (λ instr. IsInstrOf starts instr (with_targets (number_of starts) instr)) (λ instr. with_targets (address_of starts) (with_targets (number_of starts) instr) ≡ instr) (λ instr b. b.start) instrs back) in
    record {
      cut = subst (λ (l : List Instr). IsCut code starts l (length code)) (sym same) cut;
      each = each_map (HasNumbers (length starts)) (with_targets (number_of starts)) instrs (each_then (λ instr. IsInstrOf starts instr (with_targets (number_of starts) instr)) (λ instr. HasNumbers (length starts) (with_targets (number_of starts) instr)) (λ instr b. b.each) instrs back);
    }

-- ---- ranges of rows

range_back : List ℕ → ℕ → CatchRow → Protected
range_back starts size row = range_with (place_of starts row.start) (place_of (starts ++ size ∷ []) row.end) (place_of starts row.handler) row.catch_type

found : (xs : List ℕ) (a : ℕ) → Contains xs a → slice_get xs (place_of xs a) ≡ Some a
found xs a there = let p = place_in xs a there in slice_get-get_or xs (place_of xs a) 0 p.0 ∙ ap (λ (n : ℕ). Some n) p.1

row_back : (starts : List ℕ) (size : ℕ) (row : CatchRow) → IsRising (starts ++ size ∷ []) → IsRow starts size row → IsRangeOf starts size row (range_back starts size row)
unfolding range_back
row_back starts size row rise is =
    range_made starts size (place_of starts row.start) (place_of (starts ++ size ∷ []) row.end) (place_of starts row.handler) row rise is.some
    (found starts row.start is.start) (found (starts ++ size ∷ []) row.end is.end) (found starts row.handler is.handler)

rows_back : (starts : List ℕ) (size : ℕ) (rows : List CatchRow) → IsRising (starts ++ size ∷ []) → AllByRecursion (IsRow starts size) rows → AreRangesOf starts size rows (map (range_back starts size) rows)
rows_back starts size rows rise are =
    let back = each_then (IsRow starts size) (λ row. IsRangeOf starts size row (range_back starts size row)) (λ row is. row_back starts size row rise is) rows are in
    record {
      good = each_map (IsRange (length starts)) (range_back starts size) rows (each_then (λ row. IsRangeOf starts size row (range_back starts size row)) (λ row. IsRange (length starts) (range_back starts size row)) (λ row b. b.good) rows back);
      rows_are = map_undone (range_back starts size) (row_of (starts ++ size ∷ [])) rows (each_then (λ row. IsRangeOf starts size row (range_back starts size row)) (λ row. row_of (starts ++ size ∷ []) (range_back starts size row) ≡ row) (λ row b. b.row_is) rows back);
    }

is_range : (starts : List ℕ) (size : ℕ) (row : CatchRow) → Is (IsRow starts size row)
is_range starts size row = elim (cases_lt row.start row.end) [
  | inr falls ↦ inr (λ is. omega (arith, falls, is.some))
  | inl some ↦ elim (contains cases_eq starts row.start) [
    | inr none ↦ inr (λ is. none is.start)
    | inl start ↦ elim (contains cases_eq (starts ++ size ∷ []) row.end) [
      | inr none ↦ inr (λ is. none is.end)
      | inl end' ↦ elim (contains cases_eq starts row.handler) [
        | inr none ↦ inr (λ is. none is.handler)
        | inl handler ↦ inl (record { some = some; start = start; end = end'; handler = handler })
      ]
    ]
  ]
]

-- ---- all of it

after_cut : (code : List ℕ) (table : List CatchRow) (cut : Cut code) → HasLabels code table ⊎ HasFault code table
after_cut code table c =
    elim (first_without (HasStarts c.starts) (λ instr. each (Contains (map pos c.starts)) (contains int_same (map pos c.starts)) (targets_of instr)) c.are.instrs) [
      | inr w ↦
          let many = as_many code c.starts c.are.instrs (length code) c.are.cut.each in
          let within = slice_get_within c.are.instrs w.number w.item w.first.found in
          inr (record {
            error = errors.Target (get_or c.starts w.number 0);
            cause = record {
              starts = c.starts;
              instrs = c.are.instrs;
              cut = c.are.cut;
              number = w.number;
              stands_at = slice_get-get_or c.starts w.number 0 (omega (arith, many, within));
              instr = w.item;
              first = w.first;
            };
          })
      | inl targets ↦ elim (first_without (IsRow c.starts (length code)) (is_range c.starts (length code)) table) [
        | inr w ↦ inr (record {
          error = errors.Range w.number;
          cause = record { starts = c.starts; instrs = c.are.instrs; cut = c.are.cut; targets = targets; row = w.item; first = w.first };
        })
        | inl rows ↦ inl (record {
          labelled = record { code = map (with_targets (number_of c.starts)) c.are.instrs; ranges = map (range_back c.starts (length code)) table };
          is = labelled code table c.starts (map (with_targets (number_of c.starts)) c.are.instrs) (map (range_back c.starts (length code)) table) (instrs_back code c.starts c.are.instrs c.are.cut targets) (rows_back c.starts (length code) table (bounds_all_rise code c.starts c.are) rows);
        })
      ]
    ]

pub labels_or_fault : LabelsOrFault
labels_or_fault code table bytes =
    elim (cut_from (length code) code [] [] 0 bytes (record { first = refl; each = tt }) (omega arith) (omega arith)) [
      | inl cut ↦ after_cut code table cut
      | inr op ↦ inr (record { error = errors.Op op.at; cause = op.fault })
    ]
