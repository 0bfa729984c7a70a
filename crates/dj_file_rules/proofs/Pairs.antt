-- Pairs of numbers that were put in order and then lost their repeats.
use Rattle.std.proofs.Common.{◌≡◌, ℕ, ◌↔◌, List, refl, IsPermutation, Contains, Bool, true, false, ◌&&◌, nat_eq}
use Rattle.std.specs.List.{dedup}
use Rattle.std.specs.Cmp.{and_equiv, on_equiv, nat_eq_equiv}
use Rattle.std.proofs.lemmas.Bool.{eqb-true}
use Rattle.dj_report.proofs.Adding.{once_members}

both_true : (a b : Bool) → (a && b) ≡ true → (a ≡ true) × (b ≡ true)
both_true true b e = (refl, e)
both_true false b e = absurd cc

same_pairs : (x y : ℕ × ℕ) → (nat_eq x.0 y.0 && nat_eq x.1 y.1) ≡ true → x ≡ y
same_pairs x y e = let both = both_true (nat_eq x.0 y.0) (nat_eq x.1 y.1) e in λ i. (eqb-true x.0 y.0 both.0 i, eqb-true x.1 y.1 both.1 i)

pub once_pairs : (a b c : List (ℕ × ℕ)) → IsPermutation a b → c ≡ dedup (λ x y. nat_eq x.0 y.0 && nat_eq x.1 y.1) b → (pair : ℕ × ℕ) → Contains c pair ↔ Contains a pair
once_pairs = once_members (and_equiv (on_equiv (λ t. t.0) nat_eq_equiv) (on_equiv (λ t. t.1) nat_eq_equiv)) same_pairs
