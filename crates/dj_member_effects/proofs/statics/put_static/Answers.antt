use Rattle.std.proofs.Common.{set, refl, sym, ap, ◌∙◌}
use Rattle.dj_stack.specs.Frames.{top_operands}
use Rattle.dj_member_effects.proofs.StaticFacts.{puts}
use Rattle.dj_member_effects.proofs.statics.put_static.Goals as goal

pub returns : goal.returns
returns c = record {
  effect = puts c.args.kind c.args.place c.args.statics.now c.set.new.self (top_operands c.args.frames.now) (top_operands c.pop.new.frames) c.in_ok-value.value c.in_ok-value.ensures.top
      (sym c.if-not-is_of_kind.ensures) (c.set.ensures ∙ ap (set c.args.statics.now c.args.place) c.field_bits.ensures);
  next = refl;
  frames = c.in_ok-value.ensures.rest;
}
