-- Lists of numbers: which numbers are there, and what becomes of a list in which each number stands once.
use Rattle.std.proofs.Common.{◌≡◌, ℕ, true, false, List, [], ◌∷◌, ◌++◌, nat_eq, refl, sym, ◌∙◌, ap, inl, inr, ◌⊎◌, eqb-true}
use Rattle.std.specs.List.{flat_map}
use Rattle.std.proofs.lemmas.Bool.{false≢true}
use Rattle.std.proofs.lemmas.Bool.{eq-eqb}
use Rattle.dj_model.proofs.MappedNames.{either}
use Rattle.dj_resolution.specs.Numbers.{has, with_new, with_all, first_places}

pub has_here : (xs : List ℕ) (y x : ℕ) → y ≡ x → has (y ∷ xs) x ≡ true
has_here xs y x same = rw (eq-eqb y x same) refl

pub has_self : (xs : List ℕ) (x : ℕ) → has (x ∷ xs) x ≡ true
has_self xs x = has_here xs x x refl

pub has_more : (xs : List ℕ) (y x : ℕ) → has xs x ≡ true → has (y ∷ xs) x ≡ true
has_more xs y x there = elim (either (nat_eq y x)) [ inl e ↦ rw e refl | inr e ↦ rw e there ]

pub has_cases : (xs : List ℕ) (y x : ℕ) → has (y ∷ xs) x ≡ true → (y ≡ x) ⊎ (has xs x ≡ true)
has_cases xs y x there = elim (either (nat_eq y x)) [ inl e ↦ inl (eqb-true y x e) | inr e ↦ inr (rw e at there) ]

pub has_left : (xs ys : List ℕ) (x : ℕ) → has xs x ≡ true → has (xs ++ ys) x ≡ true
has_left [] ys x there = absurd (false≢true there)
has_left (y ∷ xs) ys x there = elim (either (nat_eq y x)) [ inl e ↦ rw e refl | inr e ↦ rw e (has_left xs ys x (rw e at there)) ]

pub has_right : (xs ys : List ℕ) (x : ℕ) → has ys x ≡ true → has (xs ++ ys) x ≡ true
has_right [] ys x there = there
has_right (y ∷ xs) ys x there = has_more (xs ++ ys) y x (has_right xs ys x there)

pub has_either : (xs ys : List ℕ) (x : ℕ) → has (xs ++ ys) x ≡ true → (has xs x ≡ true) ⊎ (has ys x ≡ true)
has_either [] ys x there = inr there
has_either (y ∷ xs) ys x there = elim (either (nat_eq y x)) [
  | inl e ↦ inl (rw e refl)
  | inr e ↦ elim (has_either xs ys x (rw e at there)) [ inl h ↦ inl (rw e h) | inr h ↦ inr h ]
]

-- ---- lists put together

pub flat_has : (f : ℕ → List ℕ) (xs : List ℕ) (x z : ℕ) → has xs x ≡ true → has (f x) z ≡ true → has (flat_map f xs) z ≡ true
flat_has f [] x z there in_it = absurd (false≢true there)
flat_has f (y ∷ xs) x z there in_it = elim (has_cases xs y x there) [
  | inl e ↦ has_left (f y) (flat_map f xs) z (rw e in_it)
  | inr h ↦ has_right (f y) (flat_map f xs) z (flat_has f xs x z h in_it)
]

pub has_flat : (f : ℕ → List ℕ) (xs : List ℕ) (z : ℕ) → has (flat_map f xs) z ≡ true → (x : ℕ) × (has xs x ≡ true) × (has (f x) z ≡ true)
has_flat f [] z there = absurd (false≢true there)
has_flat f (y ∷ xs) z there = elim (has_either (f y) (flat_map f xs) z there) [
  | inl h ↦ (y, has_self xs y, h)
  | inr h ↦ (let rest = has_flat f xs z h in (rest.0, has_more xs y rest.0 rest.1, rest.2))
]

pub flat_alike : (f g : ℕ → List ℕ) (xs : List ℕ) → ((x : ℕ) → has xs x ≡ true → f x ≡ g x) → flat_map f xs ≡ flat_map g xs
flat_alike f g [] same = refl
flat_alike f g (x ∷ xs) same =
    ap (λ (ys : List ℕ). ys ++ flat_map f xs) (same x (has_self xs x)) ∙ ap (λ (ys : List ℕ). g x ++ ys) (flat_alike f g xs (λ z there. same z (has_more xs x z there)))

-- ---- each number once

pub new_there : (xs : List ℕ) (x : ℕ) → has xs x ≡ true → with_new xs x ≡ xs
new_there xs x there = rw there refl

pub new_new : (xs : List ℕ) (x : ℕ) → has xs x ≡ false → with_new xs x ≡ xs ++ x ∷ []
new_new xs x new = rw new refl

pub new_has : (xs : List ℕ) (x : ℕ) → has (with_new xs x) x ≡ true
new_has xs x = elim (either (has xs x)) [ inl e ↦ rw (new_there xs x e) e | inr e ↦ rw (new_new xs x e) (has_right xs (x ∷ []) x (has_self [] x)) ]

pub new_keeps : (xs : List ℕ) (x z : ℕ) → has xs z ≡ true → has (with_new xs x) z ≡ true
new_keeps xs x z there = elim (either (has xs x)) [ inl e ↦ rw (new_there xs x e) there | inr e ↦ rw (new_new xs x e) (has_left xs (x ∷ []) z there) ]

pub new_cases : (xs : List ℕ) (x z : ℕ) → has (with_new xs x) z ≡ true → (has xs z ≡ true) ⊎ (x ≡ z)
new_cases xs x z there = elim (either (has xs x)) [
  | inl e ↦ inl (rw (new_there xs x e) at there)
  | inr e ↦ elim (has_either xs (x ∷ []) z (rw (new_new xs x e) at there)) [ inl h ↦ inl h | inr h ↦ elim (has_cases [] x z h) [ inl same ↦ inr same | inr none ↦ absurd (false≢true none) ] ]
]

pub all_keeps : (xs ys : List ℕ) (z : ℕ) → has xs z ≡ true → has (with_all xs ys) z ≡ true
all_keeps xs [] z there = there
all_keeps xs (y ∷ ys) z there = all_keeps (with_new xs y) ys z (new_keeps xs y z there)

pub all_has : (xs ys : List ℕ) (z : ℕ) → has ys z ≡ true → has (with_all xs ys) z ≡ true
all_has xs [] z there = absurd (false≢true there)
all_has xs (y ∷ ys) z there = elim (has_cases ys y z there) [
  | inl e ↦ all_keeps (with_new xs y) ys z (rw (← e) (new_has xs y))
  | inr h ↦ all_has (with_new xs y) ys z h
]

pub all_cases : (xs ys : List ℕ) (z : ℕ) → has (with_all xs ys) z ≡ true → (has xs z ≡ true) ⊎ (has ys z ≡ true)
all_cases xs [] z there = inl there
all_cases xs (y ∷ ys) z there = elim (all_cases (with_new xs y) ys z there) [
  | inl h ↦ elim (new_cases xs y z h) [ inl old ↦ inl old | inr e ↦ inr (rw (← e) (has_self ys y)) ]
  | inr h ↦ inr (has_more ys y z h)
]

pub all_append : (xs ys zs : List ℕ) → with_all xs (ys ++ zs) ≡ with_all (with_all xs ys) zs
all_append xs [] zs = refl
all_append xs (y ∷ ys) zs = all_append (with_new xs y) ys zs

-- nothing is new
pub all_there : (xs ys : List ℕ) → ((z : ℕ) → has ys z ≡ true → has xs z ≡ true) → with_all xs ys ≡ xs
all_there xs [] there = refl
all_there xs (y ∷ ys) there =
    ap (λ (zs : List ℕ). with_all zs ys) (new_there xs y (there y (has_self ys y))) ∙ all_there xs ys (λ z h. there z (has_more ys y z h))

all_new : (xs ys : List ℕ) (y : ℕ) → with_all xs (with_new ys y) ≡ with_new (with_all xs ys) y
all_new xs ys y = elim (either (has ys y)) [
  | inl e ↦ rw (new_there ys y e) (sym (new_there (with_all xs ys) y (all_has xs ys y e)))
  | inr e ↦ rw (new_new ys y e) (all_append xs ys (y ∷ []))
]

all_of_all : (xs ys zs : List ℕ) → with_all xs (with_all ys zs) ≡ with_all (with_all xs ys) zs
all_of_all xs ys [] = refl
all_of_all xs ys (z ∷ zs) = all_of_all xs (with_new ys z) zs ∙ ap (λ (ws : List ℕ). with_all ws zs) (all_new xs ys z)

-- where each stands once before it makes no difference
pub all_of_places : (xs ys : List ℕ) → with_all xs (first_places ys) ≡ with_all xs ys
all_of_places xs ys = all_of_all xs [] ys
