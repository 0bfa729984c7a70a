-- Putting a static field leaves as many as there were.
use Rattle.std.proofs.Common.{◌≡◌, ℕ, Bool, true, false, List, [], ◌∷◌, length, set, Option, Some, None, refl, sym, ap, ◌∙◌}
use Rattle.std.specs.Prelude.{if◌then◌else◌}
use Rattle.std.proofs.lemmas.List.{length-set}
use Rattle.std.proofs.lemmas.Option.{none-some, same_Some}
use Rattle.dj_names.specs.declared.descriptor.Kind.{Kind}
use Rattle.dj_names.specs.declared.run.Value.{Value}
use Rattle.dj_names.specs.trusted.Heaps.{field_bits}
use Rattle.dj_model.specs.trusted.Numbers.{is_of_kind}
use Rattle.dj_stack.specs.Frames.{StackFrame, top_operands}
use Rattle.dj_effects.specs.declared.way.Way.{Way}
use Rattle.dj_member_effects.specs.Statics.{OnStatics, leaves, put_static_by, DoesOnStatics}

put_in : (b : Bool) (statics after : List ℕ) (place bits : ℕ) (rest operands : List Value) → (if b then Some (leaves (set statics place bits) rest) else None) ≡ Some (leaves after operands)
    → length after ≡ length statics
put_in false statics after place bits rest operands e = absurd (none-some (leaves after operands) e)
put_in true statics after place bits rest operands e =
    ap (λ (s : OnStatics). length s.statics) (sym (same_Some (leaves (set statics place bits) rest) (leaves after operands) e)) ∙ length-set statics place bits

put_long : (kind : Kind) (place : ℕ) (statics after : List ℕ) (old operands : List Value) → put_static_by kind place statics old ≡ Some (leaves after operands) → length after ≡ length statics
unfolding put_static_by
put_long kind place statics after [] operands e = absurd (none-some (leaves after operands) e)
put_long kind place statics after (v ∷ rest) operands e = put_in (is_of_kind kind v) statics after place (field_bits v) rest operands e

pub put_keeps_count : (kind : Kind) (place : ℕ) (old new : List StackFrame) (before after : List ℕ) (way : Way) → DoesOnStatics (put_static_by kind place) old new before after (Some way)
    → length after ≡ length before
put_keeps_count kind place old new before after way does = put_long kind place before after (top_operands old) (top_operands new) does.effect
