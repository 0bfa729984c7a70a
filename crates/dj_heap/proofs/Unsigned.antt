-- Elements without sign, as whole numbers.
use Rattle.std.proofs.Common.{◌≡◌, ℕ, zero, suc, ℤ, pos, List, ◌∷◌, map, set, replicate, refl, ap, ◌∙◌}
use Rattle.std.proofs.lemmas.List.{map-set}

pub zeros : (n : ℕ) → map pos (replicate n 0) ≡ replicate n (pos 0)
zeros zero = refl
zeros (suc n) = ap (λ list. pos 0 ∷ list) (zeros n)

pub written : (items : List ℕ) (at n : ℕ) (z : ℤ) → pos n ≡ z → map pos (set items at n) ≡ set (map pos items) at z
written items at n z is = map-set pos items at n ∙ ap (set (map pos items) at) is
