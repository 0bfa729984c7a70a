use Rattle.std.proofs.Common.{◌∙◌, sym, ap}
use Rattle.dj_model.specs.trusted.Values.{local_at}
use Rattle.dj_shape_rule.specs.Standing.{Standing}
use Rattle.dj_shape_rule.proofs.Lists.{at_listed}
use Rattle.dj_shape_rule.proofs.state.KindState.local_at.Goals as goal

pub returns : goal.returns
returns c = c.get.ensures ∙ sym (at_listed c.self.inside.lists.current c.args.slot) ∙ ap (λ (s : Standing). local_at s.kinds.locals c.args.slot) c.self.view_is
