-- There is one layout, or one first fault, and not both.
use Rattle.std.proofs.Common.{◌≡◌, ℕ, ◌+◌, ◌<◌, ◌≤◌, List, [], ◌∷◌, ◌++◌, map, length, sym, ap, ap₂, subst, ◌∙◌, arith, inl, inr}
use Rattle.std.specs.List.{flat_map, AllByRecursion}
use Rattle.std.proofs.lemmas.Bool.{cases_lt}
use Rattle.dj_ops.specs.declared.instruction.Instr.{Instr}
use Rattle.dj_ops.specs.declared.rows.CatchRow.{CatchRow}
use Rattle.dj_labels.specs.trusted.Labels.{address_of, row_of}
use Rattle.dj_labels.proofs.Lists.{each_at, each_before}
use Rattle.dj_labels.proofs.Once.{one_labelling_is}
use Rattle.dj_layout.specs.declared.laid.Laid.{Laid}
use Rattle.dj_layout.specs.declared.errors.LayError.TheVariants as errors
use Rattle.dj_layout.specs.trusted.Places.{starts_from, end_from}
use Rattle.dj_layout.specs.trusted.Layouts.{placed, placed_bytes, most_bytes}
use Rattle.dj_layout.specs.trusted.Faults.{Reaches}
use Rattle.dj_layout.specs.Faults.{IsFirstPast, IsFirstFar}
use Rattle.dj_layout.specs.Laws.{OneLayout, LabelsAgain, NoCodeWhereRefused, OneFault}
use Rattle.dj_layout.proofs.Ends.{end_within, end_rises}
use Rattle.dj_layout.proofs.Standing.{same_places, all_reach}

-- ---- no layout where there is a fault

pub no_code_where_refused_is : NoCodeWhereRefused
no_code_where_refused_is labelled code table (errors.TooLong number) short h fault =
    let same = same_places (address_of h.starts) code h.starts labelled.code (length code) 0 h.cut.each h.cut.first in
    omega (arith, short, same.end_is, fault.past, end_within 0 (number + 1) labelled.code)
no_code_where_refused_is labelled code table (errors.Far number) short h fault =
    let same = same_places (address_of h.starts) code h.starts labelled.code (length code) 0 h.cut.each h.cut.first in
    let all : AllByRecursion Reaches (placed h.starts labelled.code) = all_reach (address_of h.starts) code h.starts labelled.code (length code) h.cut.each in
    let there : AllByRecursion Reaches (placed (starts_from 0 labelled.code) labelled.code) = subst (λ (s : List ℕ). AllByRecursion Reaches (placed s labelled.code)) same.starts_are all in
    fault.first.lacks (each_at Reaches number _ fault.jump there fault.first.found)
no_code_where_refused_is labelled code table errors.Memory short h fault = fault

-- ---- one fault

past_once : (instrs : List Instr) (m n : ℕ) → IsFirstPast instrs m → IsFirstPast instrs n → m < n → ⊥
past_once instrs m n a b lt = omega (arith, a.past, b.before, end_rises 0 (m + 1) n instrs (omega (arith, lt)))

past_same : (instrs : List Instr) (m n : ℕ) → IsFirstPast instrs m → IsFirstPast instrs n → m ≡ n
past_same instrs m n a b =
    elim (cases_lt m n) [
      | inl lt ↦ absurd (past_once instrs m n a b lt)
      | inr le ↦ elim (cases_lt n m) [ inl lt ↦ absurd (past_once instrs n m b a lt) | inr ge ↦ omega (arith, le, ge) ]
    ]

past_not_short : (instrs : List Instr) (number : ℕ) → IsFirstPast instrs number → end_from 0 instrs ≤ most_bytes → ⊥
past_not_short instrs number a short = omega (arith, a.past, short, end_within 0 (number + 1) instrs)

far_once : (instrs : List Instr) (m n : ℕ) → IsFirstFar instrs m → IsFirstFar instrs n → m < n → ⊥
far_once instrs m n a b lt = a.first.lacks (each_before Reaches n m _ a.jump b.first.before lt a.first.found)

far_same : (instrs : List Instr) (m n : ℕ) → IsFirstFar instrs m → IsFirstFar instrs n → m ≡ n
far_same instrs m n a b =
    elim (cases_lt m n) [
      | inl lt ↦ absurd (far_once instrs m n a b lt)
      | inr le ↦ elim (cases_lt n m) [ inl lt ↦ absurd (far_once instrs n m b a lt) | inr ge ↦ omega (arith, le, ge) ]
    ]

pub one_fault_is : OneFault
one_fault_is labelled (errors.TooLong m) (errors.TooLong n) a b = ap (λ (k : ℕ). errors.TooLong k) (past_same labelled.code m n a b)
one_fault_is labelled (errors.TooLong m) (errors.Far n) a b = absurd (past_not_short labelled.code m a b.short)
one_fault_is labelled (errors.Far m) (errors.TooLong n) a b = absurd (past_not_short labelled.code n b a.short)
one_fault_is labelled (errors.Far m) (errors.Far n) a b = ap (λ (k : ℕ). errors.Far k) (far_same labelled.code m n a b)
one_fault_is labelled errors.Memory b h k = absurd h
one_fault_is labelled a errors.Memory h k = absurd k

-- ---- one layout

same_laid : (a b : Laid) → a.code ≡ b.code → a.starts ≡ b.starts → a.table ≡ b.table → a ≡ b
same_laid a b code starts table =
    let laid : List ℕ → List ℕ → List CatchRow → Laid = λ c s t. record { code = c; starts = s; table = t } in
    ap₂ (λ (c s : List ℕ). laid c s a.table) code starts ∙ ap (λ (t : List CatchRow). laid b.code b.starts t) table

pub one_layout_is : OneLayout
one_layout_is labelled a b h k =
    let starts : a.starts ≡ b.starts = h.starts ∙ sym k.starts in
    let code : a.code ≡ b.code = h.code ∙ ap (λ (s : List ℕ). flat_map placed_bytes (placed s labelled.code)) starts ∙ sym k.code in
    let table : a.table ≡ b.table = h.table ∙ ap₂ (λ (s c : List ℕ). map (row_of (s ++ length c ∷ [])) labelled.ranges) starts code ∙ sym k.table in
    same_laid a b code starts table

pub labels_again_is : LabelsAgain
labels_again_is labelled other laid h k = one_labelling_is laid.code laid.table other labelled k h.labels
