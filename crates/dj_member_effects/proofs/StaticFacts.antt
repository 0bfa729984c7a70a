-- What is done to static fields.
use Rattle.std.proofs.Common.{◌≡◌, ℕ, Bool, true, false, List, [], ◌∷◌, set, Some, None, if◌then◌else◌, sym, ap, ◌∙◌}
use Rattle.dj_names.specs.declared.descriptor.Kind.{Kind}
use Rattle.dj_names.specs.declared.run.Value.{Value}
use Rattle.dj_names.specs.trusted.Heaps.{field_bits}
use Rattle.dj_model.specs.trusted.Numbers.{is_of_kind}
use Rattle.dj_member_effects.specs.Statics.{leaves, put_static_by}

pub puts_none : (kind : Kind) (place : ℕ) (statics : List ℕ) (operands : List Value) → operands ≡ [] → put_static_by kind place statics operands ≡ None
unfolding put_static_by
puts_none kind place statics operands none = ap (put_static_by kind place statics) none

pub puts_no_such : (kind : Kind) (place : ℕ) (statics : List ℕ) (operands rest : List Value) (v : Value) → operands ≡ v ∷ rest → is_of_kind kind v ≡ false
    → put_static_by kind place statics operands ≡ None
unfolding put_static_by
puts_no_such kind place statics operands rest v all e =
    ap (put_static_by kind place statics) all ∙ ap (λ (b : Bool). if b then Some (leaves (set statics place (field_bits v)) rest) else None) e

pub puts : (kind : Kind) (place : ℕ) (statics now : List ℕ) (operands rest : List Value) (v : Value) → operands ≡ v ∷ rest → is_of_kind kind v ≡ true
    → now ≡ set statics place (field_bits v) → put_static_by kind place statics operands ≡ Some (leaves now rest)
unfolding put_static_by
puts kind place statics now operands rest v all e put =
    ap (put_static_by kind place statics) all
    ∙ (ap (λ (b : Bool). if b then Some (leaves (set statics place (field_bits v)) rest) else None) e ∙ ap (λ (now : List ℕ). Some (leaves now rest)) (sym put))
