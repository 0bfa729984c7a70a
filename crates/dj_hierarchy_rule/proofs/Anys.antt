-- A member of a list that is such, as loops look for it, and a mark more.
use Rattle.std.proofs.Common.{◌≡◌, ◌↔◌, ℕ, zero, suc, ◌+◌, ◌<◌, ◌≤◌, ◌⊎◌, Bool, IsTrue, false, List, [], ◌∷◌, ◌++◌, map, take, length, get_or, refl, sym, ap, ◌∙◌, subst, inl, inr, Contains, Some, arith}
use Rattle.std.specs.Prelude.{slice_get, option_map}
use Rattle.std.proofs.lemmas.List.{take_more, take_all, get_or-map, length-map, length-take, map-append}
use Rattle.std.proofs.lemmas.List.Elements.{Contains-get_or, Contains-push_cases}
use Rattle.std.proofs.lemmas.Option.{same_Some, slice_get-map, slice_get_read}
use Rattle.dj_library.specs.trusted.Heads.{Head}
use Rattle.dj_hierarchy_rule.specs.trusted.Hierarchy.{ViolatesHierarchy}
use Rattle.dj_hierarchy_rule.specs.Judged.{AreMarks}

-- ---- lists that are seen

module _ {X Y : Type 0} (f : X → Y) where
  -- the seen list, an item more
  pub seen_more : (xs : List X) (i : ℕ) (d : X) → i < length xs → map f (take (i + 1) xs) ≡ map f (take i xs) ++ f (get_or xs i d) ∷ []
  seen_more xs i d lt = ap (map f) (take_more xs i d lt) ∙ map-append f (take i xs) (get_or xs i d ∷ [])

  pub seen_all : (xs : List X) (i : ℕ) → length xs ≤ i → map f (take i xs) ≡ map f xs
  seen_all xs i le = ap (map f) (take_all i xs le)

  pub contains_seen : (xs : List X) (i : ℕ) (d : X) → i < length xs → Contains (map f xs) (f (get_or xs i d))
  contains_seen xs i d lt =
      let within : i < length (map f xs) = omega (arith, length-map xs f) in
      subst (λ (y : Y). Contains (map f xs) y) (get_or-map f xs i d (f d) lt) (Contains-get_or (map f xs) i (f d) within)

  pub length_seen : (xs : List X) (i : ℕ) → i < length xs → i ≡ length (map f (take i xs))
  length_seen xs i lt = let e = length-map (take i xs) f in omega (arith, length-take i xs)

  pub seen_at : (xs : List X) (i : ℕ) (x : X) → i < length (map f xs) → x ≡ get_or xs i x → slice_get (map f xs) i ≡ Some (f x)
  seen_at xs i x lt read = let within : i < length xs = omega (arith, length-map xs f) in slice_get-map f xs i ∙ ap (option_map f) (slice_get_read xs (length xs) i x refl within read)

-- ---- a member that is such

module _ {X Y : Type 0} (f : X → Y) (P : Y → Type 0) where
  abbrev pub IsAny : List X → Type 0
  IsAny xs = (y : Y) × Contains (map f xs) y × P y

  pub none_yet : (xs : List X) → IsAny (take 0 xs) → ⊥
  none_yet xs any = let h = any.1.1 in omega arith

  pub none_more : (xs : List X) (i : ℕ) (d : X) → i < length xs → (IsAny (take i xs) → ⊥) → (P (f (get_or xs i d)) → ⊥) → IsAny (take (i + 1) xs) → ⊥
  none_more xs i d lt before here any =
      elim (Contains-push_cases (map f (take i xs)) (f (get_or xs i d)) any.0 (subst (λ (ys : List Y). Contains ys any.0) (seen_more f xs i d lt) any.1)) [
        | inl old ↦ before (any.0, old, any.2)
        | inr e ↦ here (subst P (sym e) any.2)
      ]

  pub found_at : (xs : List X) (i : ℕ) (d : X) (b : Bool) → i < length xs → IsTrue b → P (f (get_or xs i d)) → IsTrue b ↔ IsAny xs
  found_at xs i d b lt reported is = (λ t. (f (get_or xs i d), contains_seen f xs i d lt, is), λ any. reported)

  pub none_at_all : (xs : List X) (i : ℕ) → length xs ≤ i → (IsAny (take i xs) → ⊥) → IsTrue false ↔ IsAny xs
  none_at_all xs i le none = (λ t. absurd cc, λ any. absurd (none (any.0, subst (λ (ys : List Y). Contains ys any.0) (sym (seen_all f xs i le)) any.1, any.2)))

-- ---- marks

slice_get_push : {X : Type 0} (xs : List X) (x : X) (i : ℕ) (y : X) → slice_get (xs ++ x ∷ []) i ≡ Some y → (slice_get xs i ≡ Some y) ⊎ ((i ≡ length xs) × (x ≡ y))
slice_get_push [] x zero y e = inr (refl, cc)
slice_get_push [] x (suc i) y e = absurd cc
slice_get_push (z ∷ xs) x zero y e = inl e
slice_get_push (z ∷ xs) x (suc i) y e = elim (slice_get_push xs x i y e) [ inl old ↦ inl old | inr (same, is) ↦ inr (ap suc same, is) ]

length_push : {X : Type 0} (xs : List X) (x : X) → length (xs ++ x ∷ []) ≡ length xs + 1
length_push [] x = refl
length_push (y ∷ xs) x = let e = length_push xs x in omega arith

pub marks_more : (heads : List Head) (place : ℕ) (head : Head) (mark : Bool) (old new : List Bool) → slice_get heads place ≡ Some head → new ≡ old ++ mark ∷ []
    → (IsTrue mark ↔ ViolatesHierarchy (Contains heads) head) → AreMarks heads place old → AreMarks heads (place + 1) new
marks_more heads place head mark old new at is reported marks =
    subst (AreMarks heads (place + 1)) (sym is)
    (record {
      all = length_push old mark ∙ ap (λ (n : ℕ). n + 1) marks.all;
      each = λ k h m there marked. elim (slice_get_push old mark k m marked) [
        | inl had ↦ marks.each k h m there had
        | inr (last, same) ↦
            let same_head : h ≡ head = same_Some h head (sym there ∙ ap (slice_get heads) (last ∙ marks.all) ∙ at) in
            let reported_m : IsTrue m ↔ ViolatesHierarchy (Contains heads) head = subst (λ (b : Bool). IsTrue b ↔ ViolatesHierarchy (Contains heads) head) same reported in
            subst (λ (x : Head). IsTrue m ↔ ViolatesHierarchy (Contains heads) x) (sym same_head) reported_m
      ];
    })
