use Rattle.std.proofs.Common.{◌∙◌}
use Rattle.dj_stack.specs.Frames.{top_operands}
use Rattle.dj_effects.specs.Actions.{access_view}
use Rattle.dj_effects.proofs.StoreFacts.{reported_so}
use Rattle.dj_effects.proofs.arrays.store_element.Goals as goal

pub returns : goal.returns
returns c = λ takes so. record {
  effect = reported_so takes c.args.is_taken (access_view c.args.access) c.args.heap.now.heap (top_operands c.args.frames.now) so ∙ c.store_reported.ensures.effect;
  limit = c.store_reported.ensures.limit;
  frames = c.store_reported.ensures.frames;
}
