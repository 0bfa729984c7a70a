-- Small facts on numbers and lists.
use Rattle.std.proofs.Common.{◌≡◌, ℕ, zero, suc, ◌+◌, ◌<◌, ◌≤◌, ◌⊎◌, inl, inr, Bool, true, false, ◌&&◌, ◌||◌, List, [], ◌∷◌, ◌++◌, map, length, get_or, Option, Some, slice_get, refl, ap, arith}
use Rattle.std.specs.List.{AllByRecursion}

pub either : (b : Bool) → (b ≡ true) ⊎ (b ≡ false)
either true = inl refl
either false = inr refl

pub split_le : (a b : ℕ) → a ≤ b → (a ≡ b) ⊎ (a + 1 ≤ b)
split_le zero zero h = inl refl
split_le zero (suc b) h = inr (omega arith)
split_le (suc a) zero h = absurd (omega (arith, h))
split_le (suc a) (suc b) h = elim (split_le a b (omega (arith, h))) [ inl e ↦ inl (ap suc e) | inr less ↦ inr (omega (arith, less)) ]

-- ---- lists

pub length_map : {A B : Type 0} (f : A → B) (xs : List A) → length (map f xs) ≡ length xs
length_map f [] = refl
length_map f (x ∷ xs) = ap suc (length_map f xs)

pub all_at : {X : Type 0} (P : X → Type 0) (xs : List X) (i : ℕ) (d : X) → AllByRecursion P xs → i < length xs → P (get_or xs i d)
all_at P [] i d h less = absurd (omega (arith, less))
all_at P (x ∷ xs) zero d h less = h.0
all_at P (x ∷ xs) (suc i) d h less = all_at P xs i d h.1 (omega (arith, less))

pub all_more : {X : Type 0} (P : X → Type 0) (xs : List X) (x : X) → AllByRecursion P xs → P x → AllByRecursion P (xs ++ x ∷ [])
all_more P [] x h here = (here, tt)
all_more P (y ∷ ys) x h here = (h.0, all_more P ys x h.1 here)

pub all_of : {X : Type 0} (P : X → Type 0) (xs : List X) → ((x : X) → P x) → AllByRecursion P xs
all_of P [] f = tt
all_of P (x ∷ xs) f = (f x, all_of P xs f)

pub each_of : {X : Type 0} (P Q : X → Type 0) (xs : List X) → ((x : X) → P x → Q x) → AllByRecursion P xs → AllByRecursion Q xs
each_of P Q [] f h = tt
each_of P Q (x ∷ xs) f h = (f x h.0, each_of P Q xs f h.1)
