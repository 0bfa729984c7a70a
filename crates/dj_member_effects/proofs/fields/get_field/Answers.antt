use Rattle.std.proofs.Common.{◌≡◌, ◌∷◌, refl, ap, ◌∙◌}
use Rattle.dj_names.specs.declared.run.Value.{Value}
use Rattle.dj_names.specs.declared.run.Value.TheVariants as values
use Rattle.dj_stack.specs.Frames.{top_operands}
use Rattle.dj_effects.proofs.Frames.{both_same}
use Rattle.dj_member_effects.proofs.FieldFacts.{gets, gets_nothing}
use Rattle.dj_member_effects.proofs.fields.get_field.Goals as goal

pub returns-in-Ok : goal.returns-in-Ok
returns-in-Ok g c =
    let all : top_operands c.args.frames.now ≡ values.Ref c.in-Some-Ref.r ∷ top_operands c.pop.new.frames =
    c.in-Some-Ref.ensures.top ∙ ap (λ (v : Value). v ∷ top_operands c.pop.new.frames) c.in-Some-Ref.field-0-is in
    record {
      effect = gets _ c.args.field.kind c.args.field.place c.args.heap.now.heap (top_operands c.args.frames.now) (top_operands c.pop.new.frames)
          (top_operands c.push_value.new.self) c.in-Some-Ref.r c.in-Ok.count c.bits_at-bits.result c.field_value.result all c.in-Ok.ensures.reported c.in-Ok.ensures.there
          c.bits_at-bits.ensures c.field_value.ensures c.push_value.ensures.operands;
      limit = refl;
      frames = both_same _ _ _ c.in-Some-Ref.ensures.rest c.push_value.ensures.rest;
    }

pub returns-in-Err : goal.returns-in-Err
returns-in-Err g c =
    let all : top_operands c.args.frames.now ≡ values.Ref c.in-Some-Ref.r ∷ top_operands c.pop.new.frames =
    c.in-Some-Ref.ensures.top ∙ ap (λ (v : Value). v ∷ top_operands c.pop.new.frames) c.in-Some-Ref.field-0-is in
    record {
      effect = gets_nothing _ c.args.field.kind c.args.field.place c.args.heap.now.heap c.args.frames.now c.pop.new.frames (top_operands c.pop.new.frames)
          c.in-Some-Ref.r c.in-Err.flow all c.in-Err.ensures.reported;
      limit = refl;
      frames = c.in-Some-Ref.ensures.rest;
    }
