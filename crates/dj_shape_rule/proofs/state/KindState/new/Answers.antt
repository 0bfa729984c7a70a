use Rattle.std.proofs.Common.{◌≤◌, length, reverse, ap, arith}
use Rattle.std.proofs.lemmas.Bool.Decides.{nat_tests}
use Rattle.dj_shape_rule.proofs.Standings.{begun}
use Rattle.dj_shape_rule.proofs.state.KindState.new.Goals as goal

pub returns : goal.returns
returns c =
    let few : length c.args.locals.now ≤ c.args.max_locals = grind (arith, nat_tests, c.if-from-locals.false, c.from.ensures) in
    begun c.args.max_stack c.args.max_locals c.args.locals.now (reverse c.new-2.result.items) c.in_ok-lists.lists c.set.new.self few c.in_ok-lists.ensures.count c.in_ok-lists.ensures.frames c.in_ok-lists.ensures.states
    c.set.ensures.same c.in_ok-set.ensures.set (ap reverse c.new-2.ensures.items)
