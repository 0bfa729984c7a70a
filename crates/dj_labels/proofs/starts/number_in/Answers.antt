use Rattle.std.proofs.Common.{◌≡◌, ℕ, ◌<◌, ◌≤◌, Some, length, get_or, ap, subst, ◌∙◌, arith, inl, inr}
use Rattle.std.specs.Prelude.{Contains}
use Rattle.std.specs.Result.{MatchResult}
use Rattle.std.proofs.lemmas.Bool.{cases_lt}
use Rattle.std.proofs.lemmas.List.Sorted.{searched}
use Rattle.std.proofs.lemmas.Option.{slice_get-get_or}
use Rattle.dj_labels.proofs.Searched.{never_falls, number_below, not_between, not_above}
use Rattle.dj_labels.proofs.starts.number_in.Goals as goal

pub returns-in_default-clause-none : goal.returns-in_default-clause-none
returns-in_default-clause-none c =
    not_above c.args.starts.now c.args.address (λ k lt.
    elim (cases_lt c.args.address 4294967296) [
      | inl small ↦ absurd (c.in_default.ensures small)
      | inr large ↦ omega (arith, large, c.type_inv.starts k)
    ])

pub overflow_cast-result : goal.overflow_cast-result
overflow_cast-result c =
    omega (arith, number_below c.args.starts.now c.requires c.in-Ok-binary_search.number c.in-Ok-binary_search.ensures.bound, c.type_inv.starts c.in-Ok-binary_search.number)

pub returns-in-Ok-binary_search-clause-found : goal.returns-in-Ok-binary_search-clause-found
returns-in-Ok-binary_search-clause-found c =
    let s = searched c.args.starts.now c.in-Ok.key c.binary_search.result c.binary_search.ensures.position (never_falls c.args.starts.now c.requires) in
    let found = subst (λ x. MatchResult x (λ i. (i < length c.args.starts.now) × (get_or c.args.starts.now i 0 ≡ c.in-Ok.key)) (λ i. (i ≤ length c.args.starts.now) × ((k : ℕ) → k < i → get_or c.args.starts.now k 0 < c.in-Ok.key) × ((k : ℕ) → i ≤ k → k < length c.args.starts.now → c.in-Ok.key < get_or c.args.starts.now k 0))) c.in-Ok-binary_search.is s in
    slice_get-get_or c.args.starts.now c.in-Ok-binary_search.number 0 found.0 ∙ ap Some (found.1 ∙ c.in-Ok.ensures.1)

pub returns-in-Err-clause-none : goal.returns-in-Err-clause-none
returns-in-Err-clause-none c =
    let s = searched c.args.starts.now c.in-Ok.key c.binary_search.result c.binary_search.ensures.position (never_falls c.args.starts.now c.requires) in
    let none = subst (λ x. MatchResult x (λ i. (i < length c.args.starts.now) × (get_or c.args.starts.now i 0 ≡ c.in-Ok.key)) (λ i. (i ≤ length c.args.starts.now) × ((k : ℕ) → k < i → get_or c.args.starts.now k 0 < c.in-Ok.key) × ((k : ℕ) → i ≤ k → k < length c.args.starts.now → c.in-Ok.key < get_or c.args.starts.now k 0))) c.in-Err.is s in
    let same : c.in-Ok.key ≡ c.args.address = c.in-Ok.ensures.1 in
    subst (λ (k : ℕ). Contains c.args.starts.now k → ⊥) same (not_between c.args.starts.now c.in-Ok.key c.in-Err.field-0 none.1 none.2)
