-- One more group, and one more instruction of a range.
use Rattle.std.proofs.Common.{◌≡◌, ℕ, zero, suc, ◌+◌, ◌-◌, ◌<◌, ◌≤◌, Bool, true, false, List, [], ◌∷◌, ◌++◌, map, filter, length, get_or, refl, sym, ap, ◌∙◌, arith, append_assoc, if◌then◌else◌}
use Rattle.std.specs.List.{range_with_len}
use Rattle.std.proofs.lemmas.List.{get_or-map}
use Rattle.std.proofs.lemmas.List.FromFn.{map-range_with_len_more}
use Rattle.dj_groups.specs.Groups.{Group, inserted, size, start, own, group_at, plain_group}
use Rattle.dj_groups.proofs.GroupLaws.{start_zero, start_next}
use Rattle.dj_emit.specs.declared.parts.GroupPart.{GroupPart}
use Rattle.dj_emit.proofs.Orders.{length_map}
use Rattle.dj_emit.specs.Parts.{group_seen, groups_seen}

pub group_is : (parts : List GroupPart) (i : ℕ) (d : GroupPart) → i < length parts → group_at (groups_seen parts) i ≡ group_seen (get_or parts i d)
group_is parts i d h = get_or-map group_seen parts i d plain_group h

pub more : (f : ℕ → ℕ) (xs : List ℕ) (i x : ℕ) → xs ≡ map f (range_with_len 0 i) → x ≡ f i → xs ++ x ∷ [] ≡ map f (range_with_len 0 (i + 1))
more f xs i x e d = ap (λ (ys : List ℕ). ys ++ x ∷ []) e ∙ ap (λ (y : ℕ). map f (range_with_len 0 i) ++ y ∷ []) d ∙ sym (map-range_with_len_more f 0 i i (omega arith))

pub next_start : (parts : List GroupPart) (i at inserted_ : ℕ) (d : GroupPart) → i < length parts → at ≡ start (groups_seen parts) i → inserted_ ≡ length (inserted (group_seen (get_or parts i d)))
    → at + inserted_ + 1 ≡ start (groups_seen parts) (i + 1)
next_start parts i at n d h e c =
    let s : size (group_at (groups_seen parts) i) ≡ length (inserted (group_seen (get_or parts i d))) + 1 = ap size (group_is parts i d h) in
    let one : start (groups_seen parts) (suc i) ≡ start (groups_seen parts) (i + 1) = ap (start (groups_seen parts)) (omega arith) in
    omega (arith, e, c, s, start_next (groups_seen parts) i, one)

pub own_here : (parts : List GroupPart) (i at inserted_ : ℕ) (d : GroupPart) → i < length parts → at ≡ start (groups_seen parts) i → inserted_ ≡ length (inserted (group_seen (get_or parts i d)))
    → at + inserted_ ≡ own (groups_seen parts) i
own_here parts i at n d h e c = omega (arith, e, c, ap (λ (g : Group). length (inserted g)) (group_is parts i d h))

pub length_groups : (parts : List GroupPart) → length (groups_seen parts) ≡ length parts
length_groups parts = length_map group_seen parts

-- past the end
pub own_end : (parts : List GroupPart) → own (groups_seen parts) (length parts) ≡ start (groups_seen parts) (length parts)
own_end parts = omega (arith, ap (λ (g : Group). length (inserted g)) (past (groups_seen parts) (length parts) (omega (arith, length_map group_seen parts)))) where
  past : (gs : List Group) (k : ℕ) → length gs ≤ k → group_at gs k ≡ plain_group
  past [] k h = refl
  past (g ∷ gs) zero h = absurd (omega (arith, h))
  past (g ∷ gs) (suc k) h = past gs k (omega (arith, h))
