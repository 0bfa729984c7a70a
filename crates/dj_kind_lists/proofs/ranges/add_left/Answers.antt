use Rattle.dj_kind_lists.proofs.Ranging.{one_left, one_dropped}
use Rattle.dj_kind_lists.proofs.ranges.add_left.Goals as goal

pub returns-then-not-is_left-clause-left : goal.returns-then-not-is_left-clause-left
returns-then-not-is_left-clause-left c = λ ranges.
    one_dropped c.args.trees.now c.args.search.now.states.now c.args.search.now.frames.now c.args.part.height c.args.part.from ranges c.args.rest.now.items c.args.range (c.is_left.ensures.flows c.if-not-is_left.true)

pub returns-clause-left : goal.returns-clause-left
returns-clause-left c = λ ranges.
    one_left c.args.trees.now c.args.search.now.states.now c.args.search.now.frames.now c.args.part.height c.args.part.from ranges c.args.rest.now.items c.push.new.self.items c.args.range c.in_ok-push.ensures.items
    (c.is_left.ensures.lacks c.if-not-is_left.false)
