use Rattle.std.proofs.Common.{◌∙◌, ap, sym, reverse}
use Rattle.dj_model.specs.trusted.Initialisation.{padded}
use Rattle.dj_shape_rule.proofs.Lists.{locals_flow, lists_flow}
use Rattle.dj_shape_rule.proofs.Slots.{reverse_injects}
use Rattle.dj_shape_rule.proofs.flows.flows.Goals as goal

pub returns-then-not-same_stacks-clause-flows : goal.returns-then-not-same_stacks-clause-flows
returns-then-not-same_stacks-clause-flows c = (
  λ no. absurd cc,
  λ both. absurd (let yes = c.same_stacks.ensures.1 (reverse_injects c.stack.result.now c.args.reported.now.stack.now (c.stack.ensures ∙ both.1)) in cc),
)

pub returns-clause-flows : goal.returns-clause-flows
returns-clause-flows c =
    let s = c.args.state.now in
    let reported = c.args.reported.now.locals in
    let decides = c.flows.ensures.flows (padded s.max_locals reported) c.requires.at in (
      λ yes. (locals_flow s.max_locals s.kinds.locals reported (decides.0 yes), sym c.stack.ensures ∙ ap reverse (c.same_stacks.ensures.0 c.if-not-same_stacks.false)),
      λ both. decides.1 (lists_flow s.max_locals s.kinds.locals reported both.0),
    )
