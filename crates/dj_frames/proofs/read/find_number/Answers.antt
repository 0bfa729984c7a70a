use Rattle.std.proofs.Common.{◌≡◌, ℕ, ◌<◌, ◌≤◌, length, get_or, subst, ◌∙◌, arith, inl, inr}
use Rattle.std.proofs.lemmas.Bool.{cases_lt}
use Rattle.std.specs.Prelude.{Contains}
use Rattle.std.specs.Result.{MatchResult}
use Rattle.std.proofs.lemmas.List.Sorted.{searched}
use Rattle.dj_frames.proofs.Numbers.{never_falls, number_below, number_again, number_fails, not_between, not_above}
use Rattle.dj_frames.proofs.read.find_number.Goals as goal

pub returns-in_default-clause-gives : goal.returns-in_default-clause-gives
returns-in_default-clause-gives c =
    number_fails c.args.starts.now c.args.place c.args.address (not_above c.args.starts.now c.args.address (λ k lt.
    elim (cases_lt c.args.address 4294967296) [
      | inl small ↦ absurd (c.in_default.ensures small)
      | inr large ↦ omega (arith, large, c.type_inv.starts k)
    ]))

pub overflow_cast-result : goal.overflow_cast-result
overflow_cast-result c =
    omega (arith, number_below c.args.starts.now c.requires.rise c.in-Ok-binary_search.number c.in-Ok-binary_search.ensures.bound, c.type_inv.starts c.in-Ok-binary_search.number)

pub returns-clause-gives : goal.returns-clause-gives
returns-clause-gives c =
    let r = c.binary_search.result in
    let s = searched c.args.starts.now c.in-Ok.key r c.binary_search.ensures.position (never_falls c.args.starts.now c.requires.rise) in
    let found = subst (λ x. MatchResult x (λ i. (i < length c.args.starts.now) × (get_or c.args.starts.now i 0 ≡ c.in-Ok.key)) (λ i. (i ≤ length c.args.starts.now) × ((k : ℕ) → k < i → get_or c.args.starts.now k 0 < c.in-Ok.key) × ((k : ℕ) → i ≤ k → k < length c.args.starts.now → c.in-Ok.key < get_or c.args.starts.now k 0))) c.in-Ok-binary_search.is s in
    number_again c.args.starts.now c.args.place c.args.address c.in-Ok-binary_search.number c.requires.rise found.0 (found.1 ∙ c.in-Ok.ensures.1)

pub returns-in_default-binary_search-clause-gives : goal.returns-in_default-binary_search-clause-gives
returns-in_default-binary_search-clause-gives c =
    let s = searched c.args.starts.now c.in-Ok.key c.binary_search.result c.binary_search.ensures.position (never_falls c.args.starts.now c.requires.rise) in
    let none = subst (λ x. MatchResult x (λ i. (i < length c.args.starts.now) × (get_or c.args.starts.now i 0 ≡ c.in-Ok.key)) (λ i. (i ≤ length c.args.starts.now) × ((k : ℕ) → k < i → get_or c.args.starts.now k 0 < c.in-Ok.key) × ((k : ℕ) → i ≤ k → k < length c.args.starts.now → c.in-Ok.key < get_or c.args.starts.now k 0))) c.in_default-binary_search.is s in
    let same : c.in-Ok.key ≡ c.args.address = c.in-Ok.ensures.1 in
    number_fails c.args.starts.now c.args.place c.args.address (subst (λ (k : ℕ). Contains c.args.starts.now k → ⊥) same (not_between c.args.starts.now c.in-Ok.key c.in_default-binary_search.field-0 none.1 none.2))
