-- Code and a table have one labelling at most, or one first fault, and not both.
use Rattle.std.proofs.Common.{◌≡◌, ℕ, inl, inr, List, [], ◌∷◌, ◌++◌, map, length, slice_get, Some, sym, ap, subst, ◌∙◌, arith}
use Rattle.std.specs.List.{AllByRecursion}
use Rattle.std.proofs.lemmas.Bool.{cases_lt}
use Rattle.std.proofs.lemmas.List.{length-map}
use Rattle.std.proofs.lemmas.Option.{same_Some}
use Rattle.dj_ops.specs.declared.instruction.Instr.{Instr}
use Rattle.dj_ops.specs.declared.rows.CatchRow.{CatchRow}
use Rattle.dj_labels.specs.declared.labelled.Protected.{Protected}
use Rattle.dj_labels.specs.declared.labelled.Labelled.{Labelled}
use Rattle.dj_labels.specs.declared.errors.CodeError.TheVariants as errors
use Rattle.dj_labels.specs.trusted.Targets.{with_targets}
use Rattle.dj_labels.specs.trusted.Labels.{IsCut, HasNumbers, IsRange, addressed, IsLabelled}
use Rattle.dj_labels.specs.Faults.{IsFirstWithout, IsOpFault, IsTargetFault, IsRangeFault, HasStarts, IsRow}
use Rattle.dj_labels.specs.Laws.{OneLabelling, NoLabelsWhereRefused, OneFault}
use Rattle.dj_labels.specs.Passes.{IsRising}
use Rattle.dj_labels.proofs.Lists.{each_at, each_before}
use Rattle.dj_labels.proofs.Cuts.{whole_ends, SameCut, one_cut, as_many, starts_rise, starts_within}
use Rattle.dj_labels.proofs.Numbers.{number_of, range_in, code_undone, have_starts, bounds_rise, ranges_undone, are_rows}

-- ---- first faults

one_first : {X : Type 0} (P : X → Type 0) (xs : List X) (m n : ℕ) (x y : X) → IsFirstWithout P xs m x → IsFirstWithout P xs n y → m ≡ n
one_first P xs m n x y a b = elim (cases_lt m n) [
  | inl lt ↦ absurd (a.lacks (each_before P n m xs x b.before lt a.found))
  | inr le ↦ elim (cases_lt n m) [
    | inl lt ↦ absurd (b.lacks (each_before P m n xs y a.before lt b.found))
    | inr ge ↦ omega (arith, le, ge)
  ]
]

-- the code is cut in one way
same_cut : (code : List ℕ) (s t : List ℕ) (a b : List Instr) → IsCut code s a (length code) → IsCut code t b (length code) → SameCut s t a b (length code) (length code)
same_cut code s t a b h k = one_cut code s t a b (length code) (length code) (whole_ends code) (whole_ends code) h k

-- code that is cut whole has no address at which the cutting stops
not_cut : (code : List ℕ) (starts : List ℕ) (instrs : List Instr) (at : ℕ) → IsCut code starts instrs (length code) → IsOpFault code at → ⊥
not_cut code starts instrs at cut fault =
    let same = one_cut code starts fault.starts instrs fault.instrs (length code) at (whole_ends code) fault.none cut fault.cut in
    omega (arith, same.ends, fault.within)

-- the first fault of a target, by other names of the starts and instructions
record FirstTarget (starts : List ℕ) (instrs : List Instr) (at : ℕ) : Type 0 where
  pub number : ℕ
  pub stands_at : slice_get starts number ≡ Some at
  pub instr : Instr
  pub first : IsFirstWithout (HasStarts starts) instrs number instr

first_target : (code : List ℕ) (starts : List ℕ) (instrs : List Instr) (at : ℕ) → IsCut code starts instrs (length code) → IsTargetFault code at → FirstTarget starts instrs at
first_target code starts instrs at cut fault =
    let same = same_cut code fault.starts starts fault.instrs instrs fault.cut cut in
    record {
      number = fault.number;
      stands_at = subst (λ (s : List ℕ). slice_get s fault.number ≡ Some at) same.starts fault.stands_at;
      instr = fault.instr;
      first = subst (λ (l : List Instr). IsFirstWithout (HasStarts starts) l fault.number fault.instr) same.instrs (subst (λ (s : List ℕ). IsFirstWithout (HasStarts s) fault.instrs fault.number fault.instr) same.starts fault.first);
    }

-- where all targets are starts, none is at fault
no_target : (code : List ℕ) (starts : List ℕ) (instrs : List Instr) (at : ℕ) → IsCut code starts instrs (length code) → AllByRecursion (HasStarts starts) instrs → IsTargetFault code at → ⊥
no_target code starts instrs at cut targets fault =
    let first = first_target code starts instrs at cut fault in
    first.first.lacks (each_at (HasStarts starts) first.number instrs first.instr targets first.first.found)

first_row : (code : List ℕ) (table : List CatchRow) (starts : List ℕ) (instrs : List Instr) (number : ℕ) → IsCut code starts instrs (length code) → (fault : IsRangeFault code table number) → IsFirstWithout (IsRow starts (length code)) table number fault.row
first_row code table starts instrs number cut fault =
    let same = same_cut code fault.starts starts fault.instrs instrs fault.cut cut in
    subst (λ (s : List ℕ). IsFirstWithout (IsRow s (length code)) table number fault.row) same.starts fault.first

same_target : (code : List ℕ) (a b : ℕ) → IsTargetFault code a → IsTargetFault code b → a ≡ b
same_target code a b h k =
    let other = first_target code h.starts h.instrs b h.cut k in
    let same : h.number ≡ other.number = one_first (HasStarts h.starts) h.instrs h.number other.number h.instr other.instr h.first other.first in
    same_Some a b (sym h.stands_at ∙ ap (slice_get h.starts) same ∙ other.stands_at)

same_op : (code : List ℕ) (a b : ℕ) → IsOpFault code a → IsOpFault code b → a ≡ b
same_op code a b h k = (one_cut code h.starts k.starts h.instrs k.instrs a b h.none k.none h.cut k.cut).ends

pub one_fault_is : OneFault
one_fault_is code table (errors.Op a) (errors.Op b) h k = ap (λ (n : ℕ). errors.Op n) (same_op code a b h k)
one_fault_is code table (errors.Op a) (errors.Target b) h k = absurd (not_cut code k.starts k.instrs a k.cut h)
one_fault_is code table (errors.Op a) (errors.Range b) h k = absurd (not_cut code k.starts k.instrs a k.cut h)
one_fault_is code table (errors.Target a) (errors.Op b) h k = absurd (not_cut code h.starts h.instrs b h.cut k)
one_fault_is code table (errors.Target a) (errors.Target b) h k = ap (λ (n : ℕ). errors.Target n) (same_target code a b h k)
one_fault_is code table (errors.Target a) (errors.Range b) h k = absurd (no_target code k.starts k.instrs a k.cut k.targets h)
one_fault_is code table (errors.Range a) (errors.Op b) h k = absurd (not_cut code h.starts h.instrs b h.cut k)
one_fault_is code table (errors.Range a) (errors.Target b) h k = absurd (no_target code h.starts h.instrs b h.cut h.targets k)
one_fault_is code table (errors.Range a) (errors.Range b) h k =
    ap (λ (n : ℕ). errors.Range n) (one_first (IsRow h.starts (length code)) table a b h.row k.row h.first (first_row code table h.starts h.instrs b h.cut k))
one_fault_is code table errors.Memory b h k = absurd h
one_fault_is code table a errors.Memory h k = absurd k

-- ---- labelled code

-- as many instructions as starts
many : (code : List ℕ) (table : List CatchRow) (l : Labelled) (h : IsLabelled code table l) → length l.code ≡ length h.starts
many code table l h = sym (as_many code h.starts (addressed h.starts l.code) (length code) h.cut.each ∙ length-map l.code _)

-- the numbers of the targets and the ranges, by the starts
targets_of_starts : (code : List ℕ) (table : List CatchRow) (l : Labelled) (h : IsLabelled code table l) → AllByRecursion (HasNumbers (length h.starts)) l.code
targets_of_starts code table l h = subst (λ (n : ℕ). AllByRecursion (HasNumbers n) l.code) (many code table l h) h.targets

ranges_of_starts : (code : List ℕ) (table : List CatchRow) (l : Labelled) (h : IsLabelled code table l) → AllByRecursion (IsRange (length h.starts)) l.ranges
ranges_of_starts code table l h = subst (λ (n : ℕ). AllByRecursion (IsRange n) l.ranges) (many code table l h) h.ranges

rising : (code : List ℕ) (table : List CatchRow) (l : Labelled) (h : IsLabelled code table l) → IsRising (h.starts ++ length code ∷ [])
rising code table l h =
    bounds_rise h.starts (length code) (starts_rise code h.starts (addressed h.starts l.code) (length code) h.cut) (starts_within code h.starts (addressed h.starts l.code) (length code) h.cut)

pub no_labels : NoLabelsWhereRefused
no_labels code table l (errors.Op at) h fault = not_cut code h.starts (addressed h.starts l.code) at h.cut fault
no_labels code table l (errors.Target at) h fault =
    no_target code h.starts (addressed h.starts l.code) at h.cut (have_starts h.starts l.code (targets_of_starts code table l h)) fault
no_labels code table l (errors.Range number) h fault =
    let first = first_row code table h.starts (addressed h.starts l.code) number h.cut fault in
    let rows = are_rows h.starts (length code) l.ranges (rising code table l h) (ranges_of_starts code table l h) in
    first.lacks (each_at (IsRow h.starts (length code)) number table fault.row (subst (AllByRecursion (IsRow h.starts (length code))) (sym h.rows) rows) first.found)
no_labels code table l errors.Memory h fault = fault

-- the instructions and the ranges of labelled code, from the starts and what stands there
code_from : (code : List ℕ) (table : List CatchRow) (l : Labelled) (h : IsLabelled code table l) → l.code ≡ map (with_targets (number_of h.starts)) (addressed h.starts l.code)
code_from code table l h = sym (code_undone h.starts l.code (starts_rise code h.starts (addressed h.starts l.code) (length code) h.cut) (targets_of_starts code table l h))

ranges_from : (code : List ℕ) (table : List CatchRow) (l : Labelled) (h : IsLabelled code table l) → l.ranges ≡ map (range_in (h.starts ++ length code ∷ [])) table
ranges_from code table l h =
    sym (ranges_undone h.starts (length code) l.ranges (rising code table l h) (ranges_of_starts code table l h))
    ∙ ap (map (range_in (h.starts ++ length code ∷ []))) (sym h.rows)

pub one_labelling_is : OneLabelling
one_labelling_is code table a b h k =
    let same = same_cut code h.starts k.starts (addressed h.starts a.code) (addressed k.starts b.code) h.cut k.cut in
    let instrs : a.code ≡ b.code =
    code_from code table a h
    ∙ ap (λ (s : List ℕ). map (with_targets (number_of s)) (addressed h.starts a.code)) same.starts
    ∙ ap (map (with_targets (number_of k.starts))) same.instrs
    ∙ sym (code_from code table b k) in
    let ranges : a.ranges ≡ b.ranges =
    ranges_from code table a h
    ∙ ap (λ (s : List ℕ). map (range_in (s ++ length code ∷ [])) table) same.starts
    ∙ sym (ranges_from code table b k) in
    ap (λ (l : List Instr). record { code = l; ranges = a.ranges }) instrs ∙ ap (λ (l : List Protected). record { code = b.code; ranges = l }) ranges
