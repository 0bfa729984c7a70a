-- Divisors, and what is computed from the operands.
use Rattle.std.proofs.Common.{◌≡◌, ◌≢◌, ◌≤◌, ◌<◌, ◌&&◌, ℕ, Bool, true, false, ℤ, pos, negsuc, zero, suc, List, ◌∷◌, length, nat_eq, Option, Some, None, Result, Ok, Err, if◌then◌else◌, refl, sym, ap, subst, ◌∙◌, arith}
use Rattle.std.specs.Prelude.{unsigned_abs}
use Rattle.dj_names.specs.declared.descriptor.Kind.{Kind}
use Rattle.dj_names.specs.declared.run.Value.{Value}
use Rattle.dj_names.specs.declared.run.Raised.{Raised}
use Rattle.dj_names.specs.declared.run.Raised.TheVariants as raises
use Rattle.dj_names.specs.trusted.Heaps.{value_number}
use Rattle.dj_model.specs.trusted.Instructions.{BinaryOperation, Compute}
use Rattle.dj_model.specs.trusted.Numbers.{divided, compute, given_kind, is_of_kind, left_kind, right_kind}
use Rattle.dj_model.specs.trusted.State.{Next, Raise}
use Rattle.dj_model.specs.trusted.Values.{Values, computed, left, on_values}
use Rattle.dj_effects.specs.Does.{FitsIn}
use Rattle.dj_effects.specs.Results.{of_two, value_result}
use Rattle.dj_effects.proofs.ArrayFacts.{not_null}

-- ---- divisors

pub no_divisor : (b quotient : ℤ) → b ≡ pos 0 → divided b quotient ≡ Err raises.Arithmetic
no_divisor (pos zero) quotient e = refl
no_divisor (pos (suc n)) quotient e = absurd cc
no_divisor (negsuc n) quotient e = absurd cc

not_zero : (b : ℤ) → b ≢ pos 0 → nat_eq (unsigned_abs b) 0 ≡ false
not_zero (pos n) e = not_null n (λ none. e (ap pos none))
not_zero (negsuc n) e = not_null (suc n) (λ none. omega (arith, none))

pub some_divisor : (b quotient : ℤ) → b ≢ pos 0 → divided b quotient ≡ Ok quotient
some_divisor b quotient e = ap (λ (null : Bool). if null then Err raises.Arithmetic else Ok quotient) (not_zero b e)

-- ---- what is computed

abbrev two_reported : List (Option Value) → List Value → List Value → Option (Result Value Raised) → Option Values
two_reported locals operands rest None = None
two_reported locals operands rest (Some (Ok v)) = Some (left locals (v ∷ rest) Next)
two_reported locals operands rest (Some (Err raised)) = Some (left locals operands (Raise raised))

two_if : (locals : List (Option Value)) (operands rest : List Value) (kind : Kind) (b : Bool) (number : Result ℤ Raised)
    → (if b then Some (computed locals operands rest kind number) else None) ≡ two_reported locals operands rest (if b then Some (value_result kind number) else None)
two_if locals operands rest kind false number = refl
two_if locals operands rest kind true (Ok z) = refl
two_if locals operands rest kind true (Err raised) = refl

compute_reported : (operation : BinaryOperation) (locals : List (Option Value)) (operands rest : List Value) (a b : Value) → operands ≡ b ∷ (a ∷ rest)
    → on_values (Compute operation) locals operands ≡ two_reported locals operands rest (of_two operation a b)
unfolding on_values
compute_reported operation locals operands rest a b all =
    subst (λ (operands : List Value). on_values (Compute operation) locals operands ≡ two_reported locals operands rest (of_two operation a b)) (sym all)
    (two_if locals (b ∷ (a ∷ rest)) rest (given_kind operation) (is_of_kind (right_kind operation) b && is_of_kind (left_kind operation) a)
    (compute operation (value_number a) (value_number b)))

pub computes : (operation : BinaryOperation) (locals : List (Option Value)) (operands rest : List Value) (a b v : Value) → operands ≡ b ∷ (a ∷ rest)
    → of_two operation a b ≡ Some (Ok v) → on_values (Compute operation) locals operands ≡ Some (left locals (v ∷ rest) Next)
computes operation locals operands rest a b v all e = compute_reported operation locals operands rest a b all ∙ ap (two_reported locals operands rest) e

pub compute_room : (operation : BinaryOperation) (locals : List (Option Value)) (operands rest : List Value) (a b v : Value) (room : ℕ) → operands ≡ b ∷ (a ∷ rest)
    → of_two operation a b ≡ Some (Ok v) → FitsIn room (on_values (Compute operation) locals operands) → length rest < room
compute_room operation locals operands rest a b v room all e fits =
    let left : length (v ∷ rest) ≤ room = subst (FitsIn room) (computes operation locals operands rest a b v all e) fits in
    omega (arith, left)
