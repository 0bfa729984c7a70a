-- What holds of each pair of elements, through take, reverse and map.
use Rattle.std.proofs.Common.{◌≡◌, ℕ, suc, ◌-◌, ◌<◌, zero, List, [], ◌∷◌, length, map, reverse, take, get_or, All, AllPairs, arith, length-take, get_or-take}
use Rattle.std.proofs.lemmas.List.{get_or-reverse, length-reverse}
use Rattle.std.proofs.lemmas.List.Elements.{All-map}
use Rattle.std.proofs.lemmas.List.Kept.{AllPairs-cons}

module _ {X : Type 0} (R : X → X → Type 0) where
  pub AllPairs-take : (n : ℕ) (xs : List X) → AllPairs R xs → AllPairs R (take n xs)
  AllPairs-take n xs pairs i j d before within =
      let size = length-take n xs in
      let below : j < n = omega arith in
      let inside : j < length xs = omega arith in
      let first : i < n = omega arith in
      rw (get_or-take n xs i d first, get_or-take n xs j d below) (pairs i j d before inside)

  -- where R goes both ways
  pub AllPairs-reverse : ((x y : X) → R x y → R y x) → (xs : List X) → AllPairs R xs → AllPairs R (reverse xs)
  AllPairs-reverse back xs pairs i j d before within =
      let size : length (reverse xs) ≡ length xs = length-reverse xs in
      let second : j < length xs = omega arith in
      let first : i < length xs = omega arith in
      let turned : length xs - 1 - j < length xs - 1 - i = omega arith in
      let inside : length xs - 1 - i < length xs = omega arith in
      rw (get_or-reverse xs i d first, get_or-reverse xs j d second) (back _ _ (pairs (length xs - 1 - j) (length xs - 1 - i) d turned inside))

  pub AllPairs-head : (x : X) (xs : List X) → AllPairs R (x ∷ xs) → All (R x) xs
  AllPairs-head x xs pairs k d within = pairs 0 (suc k) d (omega arith) (omega arith)

  pub AllPairs-tail : (x : X) (xs : List X) → AllPairs R (x ∷ xs) → AllPairs R xs
  AllPairs-tail x xs pairs i j d before within = pairs (suc i) (suc j) d (omega arith) (omega arith)

  pub AllPairs-nil : AllPairs R []
  AllPairs-nil i j d before within = absurd (omega arith)

pub AllPairs-weaker : {X : Type 0} (R S : X → X → Type 0) → ((x y : X) → R x y → S x y) → (xs : List X) → AllPairs R xs → AllPairs S xs
AllPairs-weaker R S weaker xs pairs i j d before within = weaker (get_or xs i d) (get_or xs j d) (pairs i j d before within)

module _ {X Y : Type 0} (f : Y → X) (R : X → X → Type 0) where
  pub AllPairs-map : (ys : List Y) → AllPairs (λ a b. R (f a) (f b)) ys → AllPairs R (map f ys)
  AllPairs-map [] pairs = AllPairs-nil R
  AllPairs-map (y ∷ ys) pairs =
      AllPairs-cons R (f y) (map f ys) (All-map (R (f y)) f ys (AllPairs-head (λ a b. R (f a) (f b)) y ys pairs)) (AllPairs-map ys (AllPairs-tail (λ a b. R (f a) (f b)) y ys pairs))

  pub All-unmap : (P : X → Type 0) (ys : List Y) → All P (map f ys) → All (λ y. P (f y)) ys
  All-unmap P [] all k d within = absurd (omega arith)
  All-unmap P (y ∷ ys) all k d within =
      elim k as (λ (n : ℕ). n < length (y ∷ ys) → P (f (get_or (y ∷ ys) n d))) [
        | zero ↦ λ _. all 0 (f d) (omega arith)
        | suc n ↦ λ inside. All-unmap P ys (λ i e h. all (suc i) e (omega arith)) n d (omega arith)
      ] within

  pub AllPairs-unmap : (ys : List Y) → AllPairs R (map f ys) → AllPairs (λ a b. R (f a) (f b)) ys
  AllPairs-unmap [] pairs = AllPairs-nil (λ a b. R (f a) (f b))
  AllPairs-unmap (y ∷ ys) pairs =
      AllPairs-cons (λ a b. R (f a) (f b)) y ys (All-unmap (R (f y)) ys (AllPairs-head R (f y) (map f ys) pairs)) (AllPairs-unmap ys (AllPairs-tail R (f y) (map f ys) pairs))
