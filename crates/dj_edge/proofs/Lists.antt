-- Facts on answers and lists that std lacks: what follows of a result or an option, and lists under a function.
use Rattle.std.specs.Prelude.{◌==◌, ◌⊎◌}
use Rattle.std.specs.List.{AllByRecursion}
use Rattle.std.proofs.lemmas.Bool.Decides.{nat_tests}
use Rattle.std.proofs.Common.{◌≡◌, ℕ, ◌+◌, ◌<◌, true, List, [], ◌∷◌, ◌++◌, length, take, map, get_or, All, Option, Some, None, IfSome, sym, ap, ◌∙◌, subst, Result, Ok, Err, IfOk, inl, inr, arith}
use Rattle.std.proofs.lemmas.List.{length-map, take_more, get_or-map}

-- one fact from another, where there is a value
pub reported_so : {A : Type 0} (o : Option A) (P Q : A → Type 0) → ((x : A) → P x → Q x) → IfSome o P → IfSome o Q
reported_so None P Q so p = tt
reported_so (Some x) P Q so p = so x p

pub both_reported : {A : Type 0} (o : Option A) (P Q R : A → Type 0) → ((x : A) → P x → Q x → R x) → IfSome o P → IfSome o Q → IfSome o R
both_reported None P Q R so p q = tt
both_reported (Some x) P Q R so p q = so x p q

pub ok_so : {T E : Type 0} (r : Result T E) (P Q : T → Type 0) → ((x : T) → P x → Q x) → IfOk r P → IfOk r Q
ok_so (Ok x) P Q so p = so x p
ok_so (Err e) P Q so p = tt

-- a list whose view has no length is empty
pub nil_of_empty : {A : Type 0} (xs ys : List A) → ys ≡ xs → true ≡ (length ys == 0) → xs ≡ []
nil_of_empty xs [] same e = sym same
nil_of_empty xs (y ∷ ys) same e = absurd (grind (arith, nat_tests))

pub All-unmap : {X Y : Type 0} (f : X → Y) (P : Y → Type 0) (xs : List X) → All P (map f xs) → All (λ x. P (f x)) xs
All-unmap f P xs all k d within =
    let inside : k < length (map f xs) = omega (arith, length-map xs f) in
    subst P (get_or-map f xs k d (f d) within) (all k (f d) inside)

-- the item at i of a list, under a function
pub mapped_at : {X Y : Type 0} (f : X → Y) (xs : List X) (i : ℕ) (x : X) → i < length xs → x ≡ get_or xs i x → get_or (map f xs) i (f x) ≡ f x
mapped_at f xs i x within is = get_or-map f xs i x (f x) within ∙ ap f (sym is)

-- and one more item
pub mapped_more : {X Y : Type 0} (f : X → Y) (xs : List X) (i : ℕ) (x : X) (ys : List Y) → i < length xs → x ≡ get_or xs i x → ys ≡ take i (map f xs)
    → ys ++ f x ∷ [] ≡ take (i + 1) (map f xs)
mapped_more f xs i x ys within is so_far =
    let inside : i < length (map f xs) = omega (arith, length-map xs f) in
    sym (take_more (map f xs) i (f x) inside ∙ ap (λ y. take i (map f xs) ++ y ∷ []) (mapped_at f xs i x within is) ∙ ap (λ l. l ++ f x ∷ []) (sym so_far))

module _ {X : Type 0} where
  -- one list cut at two places
  pub cut_cases : (f g : List X) (x y : X) (r s : List X) → f ++ x ∷ r ≡ g ++ y ∷ s
      → ((rest : List X) × (g ≡ f ++ x ∷ rest)) ⊎ ((x ≡ y) ⊎ ((rest : List X) × (f ≡ g ++ y ∷ rest)))
  cut_cases [] [] x y r s e = inr (inl cc)
  cut_cases [] (z ∷ g) x y r s e = let first : z ∷ g ≡ x ∷ g = cc in inl (g, first)
  cut_cases (z ∷ f) [] x y r s e = let first : z ∷ f ≡ y ∷ f = cc in inr (inr (f, first))
  cut_cases (z ∷ f) (w ∷ g) x y r s e =
      let tails : f ++ x ∷ r ≡ g ++ y ∷ s = cc in
      let heads : z ≡ w = cc in
      elim (cut_cases f g x y r s tails) [
        | inl p ↦ let whole : w ∷ g ≡ z ∷ (f ++ x ∷ p.0) = cc in inl (p.0, whole)
        | inr q ↦ elim q [
          | inl same ↦ inr (inl same)
          | inr p ↦ let whole : z ∷ f ≡ w ∷ (g ++ y ∷ p.0) = cc in inr (inr (p.0, whole))
        ]
      ]

  pub at_cut : (P : X → Type 0) (f : List X) (x : X) (r : List X) → AllByRecursion P (f ++ x ∷ r) → P x
  at_cut P [] x r all = all.0
  at_cut P (y ∷ f) x r all = at_cut P f x r all.1
