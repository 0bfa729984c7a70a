-- Local variables that are there, and others.
use Rattle.std.proofs.Common.{◌≡◌, ◌<◌, ◌≤◌, ℕ, zero, suc, ◌-◌, Bool, true, false, List, [], ◌∷◌, length, set, Option, Some, None, nat_eq, if◌then◌else◌, refl, arith}
use Rattle.std.proofs.lemmas.List.{length-set}
use Rattle.dj_names.specs.declared.run.Value.{Value}
use Rattle.dj_model.specs.trusted.Numbers.{is_long}
use Rattle.dj_model.specs.trusted.Values.{is_some_wide, local_at, without_half}

pub past : (locals : List (Option Value)) (slot : ℕ) → length locals ≤ slot → local_at locals slot ≡ None
past [] slot e = refl
past (v ∷ locals) zero e = absurd (omega (arith, e))
past (v ∷ locals) (suc slot) e = past locals slot (omega (arith, e))

pub within : (locals : List (Option Value)) (slot : ℕ) (v : Value) → local_at locals slot ≡ Some v → slot < length locals
within [] slot v e = absurd cc
within (found ∷ locals) zero v e = omega arith
within (found ∷ locals) (suc slot) v e = let less : slot < length locals = within locals slot v e in omega (arith, less)

length_if : (b : Bool) (locals : List (Option Value)) (at : ℕ) → length (if b then set locals at None else locals) ≡ length locals
length_if true locals at = length-set locals at None
length_if false locals at = refl

length_past : (first : Bool) (b : Bool) (locals : List (Option Value)) (at : ℕ) → length (if first then locals else (if b then set locals at None else locals)) ≡ length locals
length_past true b locals at = refl
length_past false b locals at = length_if b locals at

pub length_without_half : (locals : List (Option Value)) (slot : ℕ) → length (without_half is_long locals slot) ≡ length locals
length_without_half locals slot = length_past (nat_eq slot 0) (is_some_wide is_long (local_at locals (slot - 1))) locals (slot - 1)
