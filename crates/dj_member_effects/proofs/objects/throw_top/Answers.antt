use Rattle.std.proofs.Common.{◌≡◌, ◌∷◌, ap, ◌∙◌}
use Rattle.dj_names.specs.declared.run.Value.{Value}
use Rattle.dj_names.specs.declared.run.Value.TheVariants as values
use Rattle.dj_stack.specs.Frames.{top_operands}
use Rattle.dj_member_effects.proofs.ObjectFacts.{throws}
use Rattle.dj_member_effects.proofs.objects.throw_top.Goals as goal

pub returns-clause-thrown : goal.returns-clause-thrown
returns-clause-thrown g c =
    let all : top_operands c.args.frames.now ≡ values.Ref c.in-Some-Ref.r ∷ top_operands c.pop.new.frames =
    c.in-Some-Ref.ensures.top ∙ ap (λ (v : Value). v ∷ top_operands c.pop.new.frames) c.in-Some-Ref.field-0-is in
    throws _ c.args.heap.now.heap (top_operands c.args.frames.now) (top_operands c.pop.new.frames) c.in-Some-Ref.r c.thrown_by.result all c.thrown_by.ensures
