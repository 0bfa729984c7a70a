-- Searches through lists of numbers: what is found doesn't change where each number stands once.
use Rattle.std.proofs.Common.{◌≡◌, ℕ, true, List, [], ◌∷◌, ◌++◌, Option, Some, None, refl, sym, ◌∙◌, ap, inl, inr}
use Rattle.std.specs.List.{flat_map}
use Rattle.std.specs.Option.{option_map}
use Rattle.std.proofs.lemmas.Bool.{false≢true}
use Rattle.dj_model.specs.trusted.Linking.{or_else}
use Rattle.dj_model.proofs.MappedNames.{either}
use Rattle.dj_resolution.specs.Numbers.{has, with_new, with_all, first_places, first_some}
use Rattle.dj_resolution.proofs.Lists.{has_cases, new_there, new_new}

-- ---- searches

pub or_else_assoc : {A : Type 0} (a b c : Option A) → or_else (or_else a b) c ≡ or_else a (or_else b c)
or_else_assoc None b c = refl
or_else_assoc (Some x) b c = refl

pub or_else_none : {A : Type 0} (a : Option A) → or_else a None ≡ a
or_else_none None = refl
or_else_none (Some x) = refl

or_else_found : {A : Type 0} (a b : Option A) → or_else (or_else a b) a ≡ or_else a b
or_else_found None b = or_else_none b
or_else_found (Some x) b = refl

pub first_some_append : {A : Type 0} (f : ℕ → Option A) (xs ys : List ℕ) → first_some f (xs ++ ys) ≡ or_else (first_some f xs) (first_some f ys)
first_some_append f [] ys = refl
first_some_append f (x ∷ xs) ys = ap (or_else (f x)) (first_some_append f xs ys) ∙ sym (or_else_assoc (f x) (first_some f xs) (first_some f ys))

-- a search through lists that are put together is one of searches
pub first_some_flat : {A : Type 0} (f : ℕ → Option A) (g : ℕ → List ℕ) (xs : List ℕ) → first_some f (flat_map g xs) ≡ first_some (λ x. first_some f (g x)) xs
first_some_flat f g [] = refl
first_some_flat f g (x ∷ xs) = first_some_append f (g x) (flat_map g xs) ∙ ap (or_else (first_some f (g x))) (first_some_flat f g xs)

pub first_some_alike : {A : Type 0} (f g : ℕ → Option A) → ((x : ℕ) → f x ≡ g x) → (xs : List ℕ) → first_some f xs ≡ first_some g xs
first_some_alike f g same [] = refl
first_some_alike {A} f g same (x ∷ xs) = ap (λ (o : Option A). or_else o (first_some f xs)) (same x) ∙ ap (or_else (g x)) (first_some_alike f g same xs)

-- ---- numbers, each once

-- a number that is there is looked at before
found_there : {A : Type 0} (f : ℕ → Option A) (xs : List ℕ) (x : ℕ) → has xs x ≡ true → or_else (first_some f xs) (f x) ≡ first_some f xs
found_there f [] x there = absurd (false≢true there)
found_there f (y ∷ ys) x there = elim (has_cases ys y x there) [
  | inl e ↦ rw (← e) (or_else_found (f y) (first_some f ys))
  | inr h ↦ or_else_assoc (f y) (first_some f ys) (f x) ∙ ap (or_else (f y)) (found_there f ys x h)
]

found_new : {A : Type 0} (f : ℕ → Option A) (xs : List ℕ) (x : ℕ) → first_some f (with_new xs x) ≡ or_else (first_some f xs) (f x)
found_new f xs x = elim (either (has xs x)) [
  | inl e ↦ rw (new_there xs x e) (sym (found_there f xs x e))
  | inr e ↦ rw (new_new xs x e) (first_some_append f xs (x ∷ []) ∙ ap (or_else (first_some f xs)) (or_else_none (f x)))
]

found_all : {A : Type 0} (f : ℕ → Option A) (xs ys : List ℕ) → first_some f (with_all xs ys) ≡ or_else (first_some f xs) (first_some f ys)
found_all f xs [] = sym (or_else_none (first_some f xs))
found_all {A} f xs (y ∷ ys) =
    found_all f (with_new xs y) ys ∙ ap (λ (o : Option A). or_else o (first_some f ys)) (found_new f xs y) ∙ or_else_assoc (first_some f xs) (f y) (first_some f ys)

pub first_places_found : {A : Type 0} (f : ℕ → Option A) (xs : List ℕ) → first_some f (first_places xs) ≡ first_some f xs
first_places_found f xs = found_all f [] xs

pub reported_above : {A : Type 0} (f : ℕ → Option A) (xs above : List ℕ) (t : Option (Option A)) → xs ≡ first_places above → t ≡ option_map Some (first_some f xs) → t ≡ option_map Some (first_some f above)
reported_above f xs above t is reported = reported ∙ ap (option_map Some) (ap (first_some f) is ∙ first_places_found f above)
