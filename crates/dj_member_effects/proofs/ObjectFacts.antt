-- Casts and thrown objects.
use Rattle.std.proofs.Common.{◌≡◌, ℕ, Bool, true, false, List, ◌∷◌, Some, Ok, sym, ap, ◌∙◌}
use Rattle.dj_names.specs.declared.run.Value.{Value}
use Rattle.dj_names.specs.declared.run.Value.TheVariants as values
use Rattle.dj_names.specs.trusted.Heaps.{Heap}
use Rattle.dj_model.specs.trusted.State.{Next}
use Rattle.dj_model.specs.trusted.Arrays.{flows, with_value}
use Rattle.dj_member_effects.specs.declared.objects.Thrown.{Thrown}
use Rattle.dj_member_effects.specs.Objects.{cast_flows, check_cast_by, instance_of_by, instance_reported, is_instance_by, throw_by, thrown_by}

pub casts : (is_below : ℕ → Bool) (heap : Heap ℕ) (operands rest after : List Value) (r : ℕ) → operands ≡ values.Ref r ∷ rest
    → true ≡ is_instance_by is_below heap r → after ≡ values.Ref r ∷ rest → check_cast_by is_below heap operands ≡ Some (cast_flows heap after true)
unfolding check_cast_by
casts is_below heap operands rest after r all is left =
    ap (check_cast_by is_below heap) all
    ∙ (ap (λ (b : Bool). Some (cast_flows heap (values.Ref r ∷ rest) b)) (sym is) ∙ ap (λ (after : List Value). Some (cast_flows heap after true)) (sym left))

pub casts_not : (is_below : ℕ → Bool) (heap : Heap ℕ) (operands rest : List Value) (r : ℕ) → operands ≡ values.Ref r ∷ rest
    → false ≡ is_instance_by is_below heap r → check_cast_by is_below heap operands ≡ Some (cast_flows heap operands false)
unfolding check_cast_by
casts_not is_below heap operands rest r all is =
    ap (check_cast_by is_below heap) all
    ∙ (ap (λ (b : Bool). Some (cast_flows heap (values.Ref r ∷ rest) b)) (sym is) ∙ ap (λ (after : List Value). Some (cast_flows heap after false)) (sym all))

pub says_instance : (is_below : ℕ → Bool) (heap : Heap ℕ) (operands rest after : List Value) (r : ℕ) (v : Value) → operands ≡ values.Ref r ∷ rest
    → v ≡ values.Int (instance_reported is_below heap r) → after ≡ v ∷ rest → instance_of_by is_below heap operands ≡ Some (flows heap after (Ok Next))
unfolding instance_of_by
says_instance is_below heap operands rest after r v all is left =
    ap (instance_of_by is_below heap) all
    ∙ (ap (λ (v : Value). Some (with_value heap rest v)) (sym is) ∙ ap (λ (after : List Value). Some (flows heap after (Ok Next))) (sym left))

pub throws : (is_below : ℕ → Bool) (heap : Heap ℕ) (operands rest : List Value) (r : ℕ) (t : Thrown) → operands ≡ values.Ref r ∷ rest
    → t ≡ thrown_by is_below heap r → Some t ≡ throw_by is_below heap operands
unfolding throw_by
throws is_below heap operands rest r t all is = ap Some is ∙ ap (throw_by is_below heap) (sym all)
