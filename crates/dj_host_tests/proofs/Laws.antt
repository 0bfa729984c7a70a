-- What is known of the three classes and of the arrays, by computing.
use Rattle.std.proofs.Common.{◌≡◌, ℕ, zero, suc, ◌<◌, Bool, true, false, List, [], length, Option, Some, None, refl, arith}
use Rattle.std.specs.Prelude.{nat_eq, ◌||◌}
use Rattle.dj_names.specs.trusted.Types.{component_type}
use Rattle.dj_model.specs.trusted.Linking.{is_subtype, is_subclass, chain_of, interfaces_from, interfaces_above, most_classes}
use Rattle.dj_model.specs.trusted.Natives.{class_name}
use Rattle.dj_model.specs.trusted.Types.{is_stop}
use Rattle.dj_library_types.specs.Numbered.{type_at, holds_references, begins_array, ArePlain, HasNumber, HaveComponents, SaysStop}
use Rattle.dj_host_tests.specs.Three.{three_types, three_program}

-- of five numbers
pub each_of_five : (P : ℕ → Type 0) → P 0 → P 1 → P 2 → P 3 → P 4 → (k : ℕ) → k < 5 → P k
each_of_five P a b c d e zero less = a
each_of_five P a b c d e (suc zero) less = b
each_of_five P a b c d e (suc (suc zero)) less = c
each_of_five P a b c d e (suc (suc (suc zero))) less = d
each_of_five P a b c d e (suc (suc (suc (suc zero)))) less = e
each_of_five P a b c d e (suc (suc (suc (suc (suc k))))) less = absurd (omega (arith, less))

abbrev IsBelow : ℕ → ℕ → Type 0
IsBelow a b = (nat_eq a b || nat_eq b 0) ≡ is_subtype three_program [] (type_at three_types a) (type_at three_types b)

pub below_is : (a b : ℕ) → a < 5 → b < 5 → IsBelow a b
unfolding is_subtype is_subclass chain_of interfaces_from interfaces_above most_classes
below_is a b first second =
    each_of_five (λ k. IsBelow k b)
    (each_of_five (IsBelow 0) refl refl refl refl refl b second)
    (each_of_five (IsBelow 1) refl refl refl refl refl b second)
    (each_of_five (IsBelow 2) refl refl refl refl refl b second)
    (each_of_five (IsBelow 3) refl refl refl refl refl b second)
    (each_of_five (IsBelow 4) refl refl refl refl refl b second)
    a first

pub says_stop : SaysStop three_types [] None
says_stop = each_of_five (λ k. is_stop [] (type_at three_types k) ≡ false) refl refl refl refl refl

abbrev IsPlain : ℕ → Type 0
IsPlain k = (type_at three_types k).dims ≡ 0 → begins_array (class_name (type_at three_types k)) ≡ false

pub are_plain : ArePlain three_types
are_plain = each_of_five IsPlain (λ e. refl) (λ e. refl) (λ e. refl) (λ e. absurd cc) (λ e. absurd cc)

abbrev HasComponent : ℕ → Type 0
HasComponent k = holds_references (type_at three_types k) ≡ true → HasNumber three_types (component_type (type_at three_types k))

pub have_components : HaveComponents three_types
have_components = each_of_five HasComponent (λ e. absurd cc) (λ e. absurd cc) (λ e. absurd cc) (λ e. absurd cc) (λ e. absurd cc)
