use Rattle.std.proofs.lemmas.Result.{err_from_is_err_and}
use Rattle.dj_cursor.specs.Reading.{many_at}
use Rattle.dj_ops.specs.Reading.{is_memory, pair_at}
use Rattle.dj_cursor.specs.Views.{cursor_of}
use Rattle.dj_cursor.proofs.Loop.{goes_on, ends, is_done}
use Rattle.dj_ops.proofs.switches.read_pair_list.Goals as goal

pub returns-in_err-pair : goal.returns-in_err-pair
returns-in_err-pair c =
    let p = err_from_is_err_and c.from_residual.result c.from_residual.ensures.1 in
    rw (p.1, p.2) (ends (pair_at c.args.at) (is_memory c.in_err-pair.field-0.0) c.in_err-pair.field-0.0 c.loop.pairs.items c.args.count c.loop.counter (cursor_of c.loop.after) (many_at (pair_at c.args.at) c.args.count (cursor_of c.args.cursor)) c.loop-test.true c.in_err-pair.ensures c.loop.invariant)

pub loop-preserved : goal.loop-preserved
loop-preserved c =
    rw c.in_ok-push.ensures.items (goes_on (pair_at c.args.at) c.loop.pairs.items c.args.count c.loop.counter (cursor_of c.loop.after) c.in_ok-pair.pair (cursor_of c.in_ok-pair.next) (many_at (pair_at c.args.at) c.args.count (cursor_of c.args.cursor)) c.loop-test.true c.in_ok-pair.ensures c.loop.invariant)

pub returns : goal.returns
returns c = is_done (pair_at c.args.at) c.loop.pairs.items c.args.count c.loop.counter (cursor_of c.loop.after) (many_at (pair_at c.args.at) c.args.count (cursor_of c.args.cursor)) c.loop-test.false c.loop.invariant
