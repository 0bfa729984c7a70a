-- Lists of one item.
use Rattle.std.proofs.Common.{◌≡◌, ℤ, pos, List, [], ◌∷◌, length, get_or, arith}
use Rattle.std.specs.List.{AllByRecursion}

pub each_of_one : (P : ℤ → Type 0) (xs : List ℤ) → length xs ≡ 1 → P (get_or xs 0 (pos 0)) → AllByRecursion P xs
each_of_one P [] one p = absurd (omega (arith, one))
each_of_one P (x ∷ []) one p = (p, tt)
each_of_one P (x ∷ (y ∷ ys)) one p = absurd (omega (arith, one))
