-- Targets that are looked up in the list of starts are the starts.
use Rattle.std.proofs.Common.{◌≡◌, ℕ, zero, suc, ◌+◌, ◌<◌, ◌≤◌, ℤ, pos, negsuc, unsigned_abs, List, [], ◌∷◌, ◌++◌, map, take, length, get_or, refl, sym, ap, ap₂, ◌∙◌, arith}
use Rattle.std.specs.Prelude.{slice_index}
use Rattle.std.specs.List.{range_with_len, AllByRecursion}
use Rattle.std.proofs.lemmas.Int.{ints}
use Rattle.std.proofs.lemmas.List.{take_more, map-append}
use Rattle.std.proofs.lemmas.List.FromFn.{get_or-map-range_with_len, length-range_with_len}
use Rattle.dj_ops.specs.declared.instruction.Instr.{Instr}
use Rattle.dj_ops.specs.declared.instruction.Instr.TheVariants as instrs
use Rattle.dj_labels.specs.trusted.Labels.{IsNumber, HasNumbers, address_of}
use Rattle.dj_labels.specs.trusted.Targets.{targets_of, with_targets}
use Rattle.dj_groups.specs.Groups.{Own, Kept, Popped, Group, start, own, starts, owns}
use Rattle.dj_groups.specs.Grouped.{new_target, own_instr}
use Rattle.dj_emit.proofs.Orders.{length_map}
use Rattle.dj_emit.specs.Aimed.{own_aimed}

pub length_starts : (gs : List Group) → length (starts gs) ≡ length gs + 1
length_starts gs = length_map (start gs) (range_with_len 0 (length gs + 1)) ∙ length-range_with_len 0 (length gs + 1)

pub length_owns : (gs : List Group) → length (owns gs) ≡ length gs + 1
length_owns gs = length_map (own gs) (range_with_len 0 (length gs + 1)) ∙ length-range_with_len 0 (length gs + 1)

pub start_at : (gs : List Group) (k d : ℕ) → k ≤ length gs → get_or (starts gs) k d ≡ start gs k
start_at gs k d less = get_or-map-range_with_len (start gs) 0 (length gs + 1) k k d (omega (arith, less)) (omega arith)

pub own_at : (gs : List Group) (k d : ℕ) → k ≤ length gs → get_or (owns gs) k d ≡ own gs k
own_at gs k d less = get_or-map-range_with_len (own gs) 0 (length gs + 1) k k d (omega (arith, less)) (omega arith)

pub map_more : {X Y : Type 0} (f : X → Y) (xs : List X) (i : ℕ) (d : X) → i < length xs → map f (take (i + 1) xs) ≡ map f (take i xs) ++ f (get_or xs i d) ∷ []
map_more f xs i d less = ap (map f) (take_more xs i d less) ∙ map-append f (take i xs) (get_or xs i d ∷ [])

-- ---- instructions

module _ (gs : List Group) where
  target_same : (target : ℤ) → IsNumber (length gs) target → address_of (starts gs) target ≡ new_target (start gs) target
  target_same (pos k) h = ap pos (start_at gs k 0 (omega (arith, ints, h.1)))
  target_same (negsuc k) h = absurd (omega (arith, ints, h.0))

  targets_same : (targets : List ℤ) → AllByRecursion (IsNumber (length gs)) targets → map (address_of (starts gs)) targets ≡ map (new_target (start gs)) targets
  targets_same [] h = refl
  targets_same (t ∷ ts) h = ap₂ (λ (x : ℤ) (xs : List ℤ). x ∷ xs) (target_same t h.0) (targets_same ts h.1)

  abbrev aimed_pair : (ℤ → ℤ) → ℤ × ℤ → ℤ × ℤ
  aimed_pair f pair = (pair.0, f pair.1)

  pairs_same : (pairs : List (ℤ × ℤ)) → AllByRecursion (IsNumber (length gs)) (map (λ pair. pair.1) pairs)
      → map (aimed_pair (address_of (starts gs))) pairs ≡ map (aimed_pair (new_target (start gs))) pairs
  pairs_same [] h = refl
  pairs_same (p ∷ ps) h = ap₂ (λ (x : ℤ) (xs : List (ℤ × ℤ)). (p.0, x) ∷ xs) (target_same p.1 h.0) (pairs_same ps h.1)

  pub own_same : (o : Own) (instr : Instr) → HasNumbers (length gs) instr → own_aimed (starts gs) o instr ≡ own_instr (start gs) o instr
  unfolding own_aimed
  own_same Popped instr h = refl
  own_same Kept (instrs.Branch op target) h = ap (instrs.Branch op) (target_same target h.0)
  own_same Kept (instrs.Table low default targets) h = ap₂ (λ (x : ℤ) (xs : List ℤ). instrs.Table low x xs) (target_same default h.0) (targets_same targets h.1)
  own_same Kept (instrs.Lookup default pairs) h = ap₂ (λ (x : ℤ) (xs : List (ℤ × ℤ)). instrs.Lookup x xs) (target_same default h.0) (pairs_same pairs h.1)
  own_same Kept (instrs.Simple op) h = refl
  own_same Kept (instrs.Push op value) h = refl
  own_same Kept (instrs.Literal op index) h = refl
  own_same Kept (instrs.Local op slot wide) h = refl
  own_same Kept (instrs.Inc slot by wide) h = refl
  own_same Kept (instrs.Member op index) h = refl
  own_same Kept (instrs.Interface index count) h = refl
  own_same Kept (instrs.Dynamic index) h = refl
  own_same Kept (instrs.Class op index) h = refl
  own_same Kept (instrs.Array base) h = refl
  own_same Kept (instrs.Multi index dims) h = refl

-- numbers of instructions are below the end too
pub numbers_low : (n : ℕ) (targets : List ℤ) → AllByRecursion (IsNumber n) targets → AllByRecursion (IsNumber (n + 1)) targets
numbers_low n [] h = tt
numbers_low n (t ∷ ts) h = ((h.0.0, omega (arith, ints, h.0.1)), numbers_low n ts h.1)

pub pair_number : (n : ℕ) (pairs : List (ℤ × ℤ)) (i : ℕ) (d : ℤ × ℤ) → AllByRecursion (IsNumber n) (map (λ pair. pair.1) pairs) → i < length pairs → IsNumber n (get_or pairs i d).1
pair_number n [] i d h less = absurd (omega (arith, less))
pair_number n (p ∷ ps) zero d h less = h.0
pair_number n (p ∷ ps) (suc i) d h less = pair_number n ps i d h.1 (omega (arith, less))
