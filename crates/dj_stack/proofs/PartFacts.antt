-- Values in parts, at plain values.
use Rattle.std.proofs.Common.{◌≡◌, ◌≢◌, ℕ, zero, suc, List, [], ◌∷◌, map, get_or, Some, None, pos, negsuc, refl, ap, arith}
use Rattle.dj_names.specs.declared.run.Value.TheVariants as values
use Rattle.dj_stack.specs.declared.parts.Kind.TheVariants as kinds
use Rattle.dj_stack.specs.declared.parts.Parts.{Parts}
use Rattle.dj_stack.specs.Parts.{part, value_of, local_of, parts_in, Put}

-- an int's bits are the low ones, and the highest of them is its sign
ints : (value_of (part kinds.Int 0 0) ≡ values.Int (pos 0)) × (value_of (part kinds.Int 2147483647 0) ≡ values.Int (pos 2147483647)) × (value_of (part kinds.Int 2147483648 0) ≡ values.Int (negsuc 2147483647)) × (value_of (part kinds.Int 4294967295 0) ≡ values.Int (negsuc 0))
ints = (refl, refl, refl, refl)

-- a long has the low and the high ones
longs : (value_of (part kinds.Long 4294967295 0) ≡ values.Long (pos 4294967295)) × (value_of (part kinds.Long 5 1) ≡ values.Long (pos 4294967301)) × (value_of (part kinds.Long 0 2147483648) ≡ values.Long (negsuc 9223372036854775807)) × (value_of (part kinds.Long 4294967295 4294967295) ≡ values.Long (negsuc 0))
longs = (refl, refl, refl, refl)

-- the halves aren't exchanged, and the high one counts
high_counts : value_of (part kinds.Long 5 1) ≡ values.Long (pos 5) → ⊥
high_counts same = absurd cc

not_exchanged : value_of (part kinds.Long 0 1) ≡ values.Long (pos 1) → ⊥
not_exchanged same = absurd cc

-- a reference is its number
references : (value_of (part kinds.Ref 0 0) ≡ values.Ref 0) × (value_of (part kinds.Ref 4294967295 0) ≡ values.Ref 4294967295)
references = (refl, refl)

kind_counts : value_of (part kinds.Int 7 0) ≡ value_of (part kinds.Ref 7 0) → ⊥
kind_counts same = absurd cc

int_is_no_long : value_of (part kinds.Int 7 0) ≡ value_of (part kinds.Long 7 0) → ⊥
int_is_no_long same = absurd cc

-- a local variable without a value, and those with one
locals : map local_of (part kinds.Empty 7 1 ∷ part kinds.Int 7 1 ∷ part kinds.Long 7 1 ∷ part kinds.Ref 7 1 ∷ [])
    ≡ None ∷ Some (values.Int (pos 7)) ∷ Some (values.Long (pos 4294967303)) ∷ Some (values.Ref 7) ∷ []
locals = refl

null_is_a_value : local_of (part kinds.Ref 0 0) ≡ None → ⊥
null_is_a_value same = absurd cc

-- ---- parts that are kept apart

-- the high ones past the end of their list are 0
kept_apart : parts_in (kinds.Int ∷ kinds.Long ∷ kinds.Ref ∷ []) (1 ∷ 2 ∷ 3 ∷ []) (0 ∷ 4 ∷ []) ≡ part kinds.Int 1 0 ∷ part kinds.Long 2 4 ∷ part kinds.Ref 3 0 ∷ []
kept_apart = refl

no_highs : parts_in (kinds.Int ∷ kinds.Ref ∷ []) (1 ∷ 3 ∷ []) [] ≡ part kinds.Int 1 0 ∷ part kinds.Ref 3 0 ∷ []
no_highs = refl

none : parts_in [] (1 ∷ []) (2 ∷ []) ≡ []
none = refl

other_place : parts_in (kinds.Long ∷ kinds.Long ∷ []) (1 ∷ 2 ∷ []) (3 ∷ 4 ∷ []) ≡ part kinds.Long 1 4 ∷ part kinds.Long 2 3 ∷ [] → ⊥
other_place same = let high : 3 ≡ 4 = ap (λ (all : List Parts). get_or (map (λ (p : Parts). p.high) all) 0 0) same in omega (arith, high)

-- ---- writing one number

abbrev two : List ℕ
two = 1 ∷ 2 ∷ []

-- at a place that is there
second : (i : ℕ) → ◌≢◌ {A = ℕ} i 1 → get_or {A = ℕ} (1 ∷ 3 ∷ []) i 0 ≡ get_or two i 0
second zero other = refl
second (suc zero) other = absurd (other refl)
second (suc (suc i)) other = refl

within : Put two (1 ∷ 3 ∷ []) 1 3
within = record { here = refl; others = second }

-- past the end, with 0 between
fourth : (i : ℕ) → ◌≢◌ {A = ℕ} i 3 → get_or {A = ℕ} (1 ∷ 2 ∷ 0 ∷ 4 ∷ []) i 0 ≡ get_or two i 0
fourth zero other = refl
fourth (suc zero) other = refl
fourth (suc (suc zero)) other = refl
fourth (suc (suc (suc zero))) other = absurd (other refl)
fourth (suc (suc (suc (suc i)))) other = refl

past : Put two (1 ∷ 2 ∷ 0 ∷ 4 ∷ []) 3 4
past = record { here = refl; others = fourth }

-- a 0 past the end is there already
zero_past : Put two two 2 0
zero_past = record { here = refl; others = λ i other. refl }

not_written : Put two two 1 3 → ⊥
not_written put = let here : 2 ≡ 3 = put.here in omega (arith, here)

another_too : Put two (4 ∷ 3 ∷ []) 1 3 → ⊥
another_too put = let first : 4 ≡ 1 = put.others 0 (λ (e : 0 ≡ 1). absurd (omega (arith, e))) in omega (arith, first)
