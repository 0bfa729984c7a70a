use Rattle.std.proofs.Common.{◌≡◌, ◌∷◌, refl, ap, ◌∙◌}
use Rattle.dj_names.specs.declared.run.Value.{Value}
use Rattle.dj_names.specs.declared.run.Value.TheVariants as values
use Rattle.dj_stack.specs.Frames.{top_operands}
use Rattle.dj_effects.proofs.Frames.{both_same}
use Rattle.dj_member_effects.proofs.ObjectFacts.{says_instance}
use Rattle.dj_member_effects.proofs.objects.instance_of.Goals as goal

pub returns : goal.returns
returns g c =
    let all : top_operands c.args.frames.now ≡ values.Ref c.in-Some-Ref.r ∷ top_operands c.pop.new.frames =
    c.in-Some-Ref.ensures.top ∙ ap (λ (v : Value). v ∷ top_operands c.pop.new.frames) c.in-Some-Ref.field-0-is in
    record {
      effect = says_instance _ c.args.heap.now.heap (top_operands c.args.frames.now) (top_operands c.pop.new.frames) (top_operands c.push_value.new.self) c.in-Some-Ref.r
          c.instance_value.result all c.instance_value.ensures c.push_value.ensures.operands;
      limit = refl;
      frames = both_same _ _ _ c.in-Some-Ref.ensures.rest c.push_value.ensures.rest;
    }
