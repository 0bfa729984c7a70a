-- Code in groups is as long, and its jumps reach as far, whatever the indexes of the accounter's methods are.
use Rattle.std.proofs.Common.{◌≡◌, ℕ, zero, suc, ◌+◌, ℤ, List, [], ◌∷◌, ◌++◌, map, zip, take, refl, ap, ◌∙◌}
use Rattle.std.specs.Prelude.{⊤}
use Rattle.std.specs.List.{AllByRecursion}
use Rattle.dj_ops.specs.declared.instruction.Instr.{Instr}
use Rattle.dj_ops.specs.trusted.Instructions.{AreOffsets, length_at}
use Rattle.dj_labels.specs.trusted.Targets.{with_targets}
use Rattle.dj_layout.specs.trusted.Places.{starts_from, end_from}
use Rattle.dj_groups.specs.Groups.{Inserted, Copy, ObjectBytes, ElementBytes, Record, Own, Group, inserted, spelled, regrouped}
use Rattle.dj_groups.specs.Grouped.{inserted_instr}

-- both are as long at each address, and reach the same targets
pub record IsAlike (x y : Instr) : Type 0 where
  pub long : (at : ℕ) → length_at at x ≡ length_at at y
  pub there : (f : ℤ → ℤ) (at : ℕ) → AreOffsets at (with_targets f x) → AreOffsets at (with_targets f y)
  pub back : (f : ℤ → ℤ) (at : ℕ) → AreOffsets at (with_targets f y) → AreOffsets at (with_targets f x)

pub AreAlike : List Instr → List Instr → Type 0
AreAlike [] [] = ⊤
AreAlike (x ∷ xs) (y ∷ ys) = IsAlike x y × AreAlike xs ys
AreAlike xs ys = ⊥

itself : (x : Instr) → IsAlike x x
itself x = record { long = λ at. refl; there = λ f at h. h; back = λ f at h. h }

inserted_alike : (a b : ℕ) (x : Inserted) → IsAlike (inserted_instr a x) (inserted_instr b x)
inserted_alike a b Copy = itself _
inserted_alike a b (ObjectBytes n) = itself _
inserted_alike a b (ElementBytes element) = itself _
inserted_alike a b (Record c) = record { long = λ at. refl; there = λ f at h. h; back = λ f at h. h }

append_alike : (xs ys us vs : List Instr) → AreAlike xs ys → AreAlike us vs → AreAlike (xs ++ us) (ys ++ vs)
unfolding AreAlike
append_alike [] [] us vs p q = q
append_alike (x ∷ xs) (y ∷ ys) us vs p q = (p.0, append_alike xs ys us vs p.1 q)
append_alike [] (y ∷ ys) us vs p q = absurd p
append_alike (x ∷ xs) [] us vs p q = absurd p

mapped_alike : (a b : ℕ) (xs : List Inserted) → AreAlike (map (inserted_instr a) xs) (map (inserted_instr b) xs)
unfolding AreAlike
mapped_alike a b [] = tt
mapped_alike a b (x ∷ xs) = (inserted_alike a b x, mapped_alike a b xs)

pub regrouped_alike : (a b : ℕ) (become : Own → Instr → Instr) (gs : List Group) (is : List Instr)
    → AreAlike (regrouped (inserted_instr a) become gs is) (regrouped (inserted_instr b) become gs is)
unfolding AreAlike
regrouped_alike a b become [] is = tt
regrouped_alike a b become (g ∷ gs) [] = tt
regrouped_alike a b become (g ∷ gs) (i ∷ is) =
    append_alike (spelled (inserted_instr a) become (g, i)) (spelled (inserted_instr b) become (g, i)) _ _
    (append_alike (map (inserted_instr a) (inserted g)) (map (inserted_instr b) (inserted g)) (become g.own i ∷ []) (become g.own i ∷ [])
    (mapped_alike a b (inserted g)) (itself (become g.own i), tt))
    (regrouped_alike a b become gs is)

-- the instructions stand at the same addresses, and end there
pub same_starts : (at : ℕ) (xs ys : List Instr) → AreAlike xs ys → starts_from at xs ≡ starts_from at ys
unfolding AreAlike
same_starts at [] [] h = refl
same_starts at (x ∷ xs) (y ∷ ys) h = ap (λ (n : ℕ). at ∷ starts_from (at + n) xs) (h.0.long at) ∙ ap (λ (s : List ℕ). at ∷ s) (same_starts (at + length_at at y) xs ys h.1)
same_starts at [] (y ∷ ys) h = absurd h
same_starts at (x ∷ xs) [] h = absurd h

pub same_ends : (at n : ℕ) (xs ys : List Instr) → AreAlike xs ys → end_from at (take n xs) ≡ end_from at (take n ys)
unfolding AreAlike
same_ends at zero xs ys h = refl
same_ends at (suc n) [] [] h = refl
same_ends at (suc n) (x ∷ xs) (y ∷ ys) h = ap (λ (k : ℕ). end_from (at + k) (take n xs)) (h.0.long at) ∙ same_ends (at + length_at at y) n xs ys h.1
same_ends at (suc n) [] (y ∷ ys) h = absurd h
same_ends at (suc n) (x ∷ xs) [] h = absurd h

-- the first jump that is too far is the same: what comes before it reaches its targets in both, and it in neither
pub same_reach : (f : ℤ → ℤ) (starts : List ℕ) (xs ys : List Instr) (n : ℕ) → AreAlike xs ys
    → AllByRecursion (λ (p : ℕ × Instr). AreOffsets p.0 p.1) (take n (zip starts (map (with_targets f) xs)))
    → AllByRecursion (λ (p : ℕ × Instr). AreOffsets p.0 p.1) (take n (zip starts (map (with_targets f) ys)))
unfolding AreAlike
same_reach f starts xs ys zero h all = tt
same_reach f [] xs ys (suc n) h all = tt
same_reach f (s ∷ starts) [] [] (suc n) h all = tt
same_reach f (s ∷ starts) (x ∷ xs) (y ∷ ys) (suc n) h all = (h.0.there f s all.0, same_reach f starts xs ys n h.1 all.1)
same_reach f (s ∷ starts) [] (y ∷ ys) (suc n) h all = absurd h
same_reach f (s ∷ starts) (x ∷ xs) [] (suc n) h all = absurd h
