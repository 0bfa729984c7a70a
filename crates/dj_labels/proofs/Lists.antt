-- Lists: what holds of each item, by its number and in a part.
use Rattle.std.proofs.Common.{◌≡◌, ℕ, zero, suc, ◌<◌, List, [], ◌∷◌, ◌++◌, map, length, take, set, slice_get, Some, Contains, refl, ap, subst, arith}
use Rattle.std.specs.List.{AllByRecursion}
use Rattle.std.proofs.lemmas.Option.{same_Some, none-some}

pub each_more : {X : Type 0} (P : X → Type 0) (xs : List X) (y : X) → AllByRecursion P xs → P y → AllByRecursion P (xs ++ y ∷ [])
each_more P [] y h p = (p, tt)
each_more P (x ∷ xs) y h p = (h.0, each_more P xs y h.1 p)

pub each_map : {X Y : Type 0} (P : Y → Type 0) (f : X → Y) (xs : List X) → AllByRecursion (λ x. P (f x)) xs → AllByRecursion P (map f xs)
each_map P f [] h = tt
each_map P f (x ∷ xs) h = (h.0, each_map P f xs h.1)

pub each_of_map : {X Y : Type 0} (P : Y → Type 0) (f : X → Y) (xs : List X) → AllByRecursion P (map f xs) → AllByRecursion (λ x. P (f x)) xs
each_of_map P f [] h = tt
each_of_map P f (x ∷ xs) h = (h.0, each_of_map P f xs h.1)

pub each_then : {X : Type 0} (P Q : X → Type 0) → ((x : X) → P x → Q x) → (xs : List X) → AllByRecursion P xs → AllByRecursion Q xs
each_then P Q f [] h = tt
each_then P Q f (x ∷ xs) h = (f x h.0, each_then P Q f xs h.1)

pub each_take : {X : Type 0} (P : X → Type 0) (n : ℕ) (xs : List X) → AllByRecursion P xs → AllByRecursion P (take n xs)
each_take P zero xs h = tt
each_take P (suc n) [] h = tt
each_take P (suc n) (x ∷ xs) h = (h.0, each_take P n xs h.1)

pub each_at : {X : Type 0} (P : X → Type 0) (n : ℕ) (xs : List X) (x : X) → AllByRecursion P xs → slice_get xs n ≡ Some x → P x
each_at P n [] x h at = absurd (none-some x at)
each_at P zero (y ∷ ys) x h at = subst P (same_Some y x at) h.0
each_at P (suc n) (y ∷ ys) x h at = each_at P n ys x h.1 at

-- of the first n items, of which one has this number
pub each_before : {X : Type 0} (P : X → Type 0) (m n : ℕ) (xs : List X) (x : X) → AllByRecursion P (take m xs) → n < m → slice_get xs n ≡ Some x → P x
each_before P m n [] x h lt at = absurd (none-some x at)
each_before P zero n (y ∷ ys) x h lt at = absurd (omega (arith, lt))
each_before P (suc m) zero (y ∷ ys) x h lt at = subst P (same_Some y x at) h.0
each_before P (suc m) (suc n) (y ∷ ys) x h lt at = each_before P m n ys x h.1 (omega (arith, lt)) at

-- what undoes f at each item undoes the map
pub map_undone : {X Y : Type 0} (f : X → Y) (g : Y → X) (xs : List X) → AllByRecursion (λ x. g (f x) ≡ x) xs → map g (map f xs) ≡ xs
map_undone f g [] h = refl
map_undone f g (x ∷ xs) h = let here : g (f x) ≡ x = h.0 in let rest : map g (map f xs) ≡ xs = map_undone f g xs h.1 in cc

pub contains_at : {X : Type 0} (n : ℕ) (xs : List X) (x : X) → slice_get xs n ≡ Some x → Contains xs x
contains_at n [] x at = absurd (none-some x at)
contains_at zero (y ∷ ys) x at = (0, omega arith, same_Some y x at)
contains_at (suc n) (y ∷ ys) x at = let rest = contains_at n ys x at in (suc rest.0, omega (arith, rest.1), rest.2)

pub slice_get-set_same : {X : Type 0} (xs : List X) (i : ℕ) (y : X) → i < length xs → slice_get (set xs i y) i ≡ Some y
slice_get-set_same [] i y lt = absurd (omega (arith, lt))
slice_get-set_same (x ∷ xs) zero y lt = refl
slice_get-set_same (x ∷ xs) (suc i) y lt = slice_get-set_same xs i y (omega (arith, lt))

pub slice_get-set_other : {X : Type 0} (xs : List X) (i j : ℕ) (y : X) → (j ≡ i → ⊥) → slice_get (set xs i y) j ≡ slice_get xs j
slice_get-set_other [] i j y apart = refl
slice_get-set_other (x ∷ xs) zero zero y apart = absurd (apart refl)
slice_get-set_other (x ∷ xs) zero (suc j) y apart = refl
slice_get-set_other (x ∷ xs) (suc i) zero y apart = refl
slice_get-set_other (x ∷ xs) (suc i) (suc j) y apart = slice_get-set_other xs i j y (λ same. apart (ap suc same))
