use Rattle.std.proofs.Common.{arith}
use Rattle.dj_edge.proofs.Growth.{wrote_more}
use Rattle.dj_edge.proofs.sink.put_all.Goals as goal

pub loop-rest-preserved : goal.loop-rest-preserved
loop-rest-preserved g c =
    let before = c.loop-rest.invariant.put in
    let step = c.in_ok-taken.ensures.writes in
    record {
      put = wrote_more _ (g.S.Sink.written c.loop-rest.sink) _ _ before.0 c.loop-rest.rest.now c.in_ok-taken.taken before.1 before.2 step.2;
      counted = omega (arith, c.loop-rest.invariant.counted, c.in_ok-taken.ensures.counts);
    }
