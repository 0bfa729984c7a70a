use Rattle.std.proofs.Common.{List, ℕ, ◌+◌, take, sym, subst, arith}
use Rattle.dj_layout.specs.Passes.{ArePlaces}
use Rattle.dj_layout.proofs.Passing.{past_at, more_placed, number_few}
use Rattle.dj_layout.proofs.places.place_instrs.Goals as goal

pub overflow_cast-result : goal.overflow_cast-result
overflow_cast-result c =
    omega (arith, number_few c.args.instrs.now c.loop-i.starts.items c.loop-i.i c.loop-i.at c.loop-i.invariant c.loop-i-test.true)

pub returns-in-None-clause-refused : goal.returns-in-None-clause-refused
returns-in-None-clause-refused c =
    past_at c.args.instrs.now c.loop-i.starts.items c.loop-i.i c.loop-i.at c.index-instrs-i.result c.loop-i.invariant c.loop-i-test.true c.index-instrs-i.is c.in-None.ensures.none

pub loop-i-preserved : goal.loop-i-preserved
loop-i-preserved c =
    let more = more_placed c.args.instrs.now c.loop-i.starts.items c.loop-i.i c.loop-i.at c.in-Some.next c.index-instrs-i.result c.loop-i.invariant c.loop-i-test.true c.index-instrs-i.is c.in-Some.ensures.some.0 c.in-Some.ensures.some.1 in
    subst (λ (s : List ℕ). ArePlaces (take (c.loop-i.i + 1) c.args.instrs.now) s c.in-Some.next) (sym c.in_ok-push-in-Some.ensures.items) more
