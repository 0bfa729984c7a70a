use Rattle.std.proofs.Common.{◌≡◌, List, ◌∷◌, refl, sym, ap, ◌∙◌}
use Rattle.dj_names.specs.declared.run.Value.{Value}
use Rattle.dj_names.specs.declared.run.Value.TheVariants as values
use Rattle.dj_stack.specs.Frames.{top_operands}
use Rattle.dj_effects.proofs.Frames.{both_same}
use Rattle.dj_member_effects.proofs.FieldFacts.{puts, puts_limit, puts_no_such, puts_nothing}
use Rattle.dj_member_effects.proofs.fields.put_field.Goals as goal

pub returns-then-not-is_of_kind : goal.returns-then-not-is_of_kind
returns-then-not-is_of_kind g c = record {
  effect = puts_no_such _ c.args.field.kind c.args.field.place c.args.heap.now.heap (top_operands c.args.frames.now) (top_operands c.pop.new.frames) c.in_ok-value.value
      c.in_ok-value.ensures.top (sym c.if-not-is_of_kind.ensures);
  limit = refl;
  frames = c.in_ok-value.ensures.rest;
}

pub returns-in-Ok : goal.returns-in-Ok
returns-in-Ok g c =
    let under : top_operands c.pop.new.frames ≡ values.Ref c.in-Some-Ref.r ∷ top_operands c.pop-2.new.frames =
    c.in-Some-Ref.ensures.top ∙ ap (λ (v : Value). v ∷ top_operands c.pop-2.new.frames) c.in-Some-Ref.field-0-is in
    let all = c.in_ok-value.ensures.top ∙ ap (λ (rest : List Value). c.in_ok-value.value ∷ rest) under in
    record {
      effect = puts _ c.args.field.kind c.args.field.place c.args.heap.now c.put_bits.new.heap (top_operands c.args.frames.now) (top_operands c.pop-2.new.frames)
          c.in-Some-Ref.r c.in-Ok.count c.field_bits.result c.in_ok-value.value all c.if-not-is_of_kind.ensures c.in-Ok.ensures.reported c.in-Ok.ensures.there
          c.field_bits.ensures c.put_bits.ensures;
      limit = puts_limit c.args.heap.now c.put_bits.new.heap c.in-Some-Ref.r c.in-Ok.count c.args.field.place c.field_bits.result c.in-Ok.ensures.there c.put_bits.ensures;
      frames = both_same _ _ _ c.in_ok-value.ensures.rest c.in-Some-Ref.ensures.rest;
    }

pub returns-in-Err : goal.returns-in-Err
returns-in-Err g c =
    let under : top_operands c.pop.new.frames ≡ values.Ref c.in-Some-Ref.r ∷ top_operands c.pop-2.new.frames =
    c.in-Some-Ref.ensures.top ∙ ap (λ (v : Value). v ∷ top_operands c.pop-2.new.frames) c.in-Some-Ref.field-0-is in
    let all = c.in_ok-value.ensures.top ∙ ap (λ (rest : List Value). c.in_ok-value.value ∷ rest) under in
    record {
      effect = puts_nothing _ c.args.field.kind c.args.field.place c.args.heap.now.heap c.args.frames.now c.pop-2.new.frames (top_operands c.pop-2.new.frames)
          c.in-Some-Ref.r c.in_ok-value.value c.in-Err.flow all c.if-not-is_of_kind.ensures c.in-Err.ensures.reported;
      limit = refl;
      frames = both_same _ _ _ c.in_ok-value.ensures.rest c.in-Some-Ref.ensures.rest;
    }
