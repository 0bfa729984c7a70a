use Rattle.std.proofs.Common.{◌∙◌, slice_get, Decides, reverse, ap, subst}
use Rattle.dj_kind_lists.specs.Lists.{Lists, ListFlows}
use Rattle.dj_shape_rule.specs.Standing.{Standing}
use Rattle.dj_shape_rule.proofs.Standings.{standing_of}
use Rattle.dj_shape_rule.proofs.state.KindState.flows.Goals as goal

pub returns-clause-same : goal.returns-clause-same
returns-clause-same c = ap (λ (l : Lists). standing_of c.self.inside.max_stack l (reverse c.self.inside.stack.items)) c.flows.ensures.same ∙ c.self.view_is

pub returns-clause-flows : goal.returns-clause-flows
returns-clause-flows c = λ list at.
    subst (λ (s : Standing). Decides c.flows.result (ListFlows s.kinds.locals list)) c.self.view_is
    (c.flows.ensures.flows list (ap (λ (s : Standing). slice_get s.frames c.args.place) c.self.view_is ∙ at))
