use Rattle.std.proofs.Common.{true, false, sym, subst}
use Rattle.dj_kind_trees.specs.Forests.{IsTree, FlowsInto}
use Rattle.dj_kind_lists.proofs.Ranging.{apart_flows, meet_flows, meet_lacks, one_whole, after_first, before_last, not_false, not_true}
use Rattle.dj_kind_lists.proofs.ranges.is_left.Goals as goal

pub returns-then-is_apart-clause-flows : goal.returns-then-is_apart-clause-flows
returns-then-is_apart-clause-flows c = λ e.
    apart_flows c.args.trees.now c.args.search.now.states.now c.args.search.now.frames.now c.args.part.height c.args.part.from c.args.part.size c.args.range c.requires.size (c.is_apart.ensures.0 c.if-is_apart.true)

pub returns-then-is_partly-clause-lacks : goal.returns-then-is_partly-clause-lacks
returns-then-is_partly-clause-lacks c = λ e low flows.
    one_whole c.args.part.height c.args.part.from c.args.part.size c.args.range c.requires.size low (λ apart. let yes = c.is_apart.ensures.1 apart in let no = c.if-is_apart.false in absurd cc) (c.is_partly.ensures.0 c.if-is_partly.true)

pub flows-requires-clause-first : goal.flows-requires-clause-first
flows-requires-clause-first c = c.requires.meet.tree_is

pub flows-requires-clause-second : goal.flows-requires-clause-second
flows-requires-clause-second c = subst (IsTree c.args.trees.now) (sym c.state_of.ensures) (c.requires.frames c.args.range.frame)

pub returns-clause-flows : goal.returns-clause-flows
returns-clause-flows c = λ e.
    meet_flows c.args.trees.now c.args.search.now.states.now c.args.search.now.frames.now c.args.part.height c.args.part.from c.args.part.size c.args.range c.requires.size c.args.meet c.requires.meet
    (subst (FlowsInto c.args.trees.now c.args.meet) c.state_of.ensures (c.flows.ensures.decides.0 (not_false c.flows.result e)))

pub returns-clause-lacks : goal.returns-clause-lacks
returns-clause-lacks c = λ e low.
    let from = c.args.part.from in
    let size = c.args.part.size in
    meet_lacks c.args.trees.now c.args.search.now.states.now c.args.search.now.frames.now c.args.part.height from size c.args.range c.requires.size c.args.meet low c.requires.meet
    (after_first from size c.args.range (λ partly. let yes = c.is_partly.ensures.1 partly in let no = c.if-is_partly.false in absurd cc))
    (before_last from size c.args.range (λ apart. let yes = c.is_apart.ensures.1 apart in let no = c.if-is_apart.false in absurd cc))
    (λ flows. let yes = c.flows.ensures.decides.1 (subst (FlowsInto c.args.trees.now c.args.meet) (sym c.state_of.ensures) flows) in let no = not_true c.flows.result e in absurd cc)
