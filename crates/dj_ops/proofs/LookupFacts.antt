-- What numbers find among pairs, by plain values.
use Rattle.std.proofs.Common.{◌≡◌, ℤ, pos, negsuc, true, false, List, [], ◌∷◌, map, Some, None, refl}
use Rattle.dj_ops.specs.trusted.Lookups.{rises}
use Rattle.dj_ops.specs.Lookups.{first_target, is_match}

abbrev pairs : List (ℤ × ℤ)
pairs = (negsuc 4, pos 10) ∷ (pos 0, pos 20) ∷ (pos 7, pos 30) ∷ []

-- of -5, 0 and 7 there are pairs, and of none else
found : map (first_target pairs) (negsuc 4 ∷ pos 0 ∷ pos 7 ∷ negsuc 5 ∷ negsuc 3 ∷ pos 5 ∷ pos 8 ∷ []) ≡ Some (pos 10) ∷ Some (pos 20) ∷ Some (pos 30) ∷ None ∷ None ∷ None ∷ None ∷ []
found = refl

-- of two with one match the first, and not the second
first_found : map (first_target ((pos 1, pos 10) ∷ (pos 2, pos 20) ∷ (pos 1, pos 30) ∷ [])) (pos 1 ∷ pos 2 ∷ []) ≡ Some (pos 10) ∷ Some (pos 20) ∷ []
first_found = refl

none_found : first_target [] (pos 0) ≡ None
none_found = refl

matches : map (is_match (pos 5)) (pos 5 ∷ pos 4 ∷ pos 6 ∷ negsuc 4 ∷ []) ≡ true ∷ false ∷ false ∷ false ∷ []
matches = refl

-- none, one, three that rise; two equal ones don't, nor do falling ones
rising : map rises ([] ∷ ((pos 3, pos 10) ∷ []) ∷ pairs ∷ ((pos 1, pos 10) ∷ (pos 1, pos 20) ∷ []) ∷ ((pos 1, pos 10) ∷ (pos 2, pos 20) ∷ (negsuc 0, pos 30) ∷ []) ∷ []) ≡ true ∷ true ∷ true ∷ false ∷ false ∷ []
rising = refl
