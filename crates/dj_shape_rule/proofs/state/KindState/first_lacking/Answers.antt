use Rattle.std.proofs.Common.{◌∙◌, reverse, ap, subst}
use Rattle.dj_kind_lists.specs.Lists.{Lists, IsFirstLack}
use Rattle.dj_shape_rule.specs.Standing.{Standing}
use Rattle.dj_shape_rule.proofs.Standings.{standing_of}
use Rattle.dj_shape_rule.proofs.state.KindState.first_lacking.Goals as goal

pub returns-in_err-first-clause-same : goal.returns-in_err-first-clause-same
returns-in_err-first-clause-same c = ap (λ (l : Lists). standing_of c.self.inside.max_stack l (reverse c.self.inside.stack.items)) c.first_lacking.ensures.same ∙ c.self.view_is

pub returns-clause-same : goal.returns-clause-same
returns-clause-same c = ap (λ (l : Lists). standing_of c.self.inside.max_stack l (reverse c.self.inside.stack.items)) c.first_lacking.ensures.same ∙ c.self.view_is

pub returns-clause-first : goal.returns-clause-first
returns-clause-first c =
    subst (λ (s : Standing). IsFirstLack s.states s.frames c.args.ranges.now c.args.limit c.in_ok-first.first) c.self.view_is c.in_ok-first.ensures.first
