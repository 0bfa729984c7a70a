use Rattle.std.proofs.lemmas.Result.{err_from_is_err_and}
use Rattle.dj_cursor.specs.Reading.{many_at}
use Rattle.dj_cursor.specs.Views.{cursor_of}
use Rattle.dj_cursor.proofs.Loop.{goes_on, ends, is_done}
use Rattle.dj_pool.specs.Tests.{is_class}
use Rattle.dj_class.specs.Reading.{index_at}
use Rattle.dj_class.specs.Memory.{is_memory}
use Rattle.dj_class.proofs.class.read_interface_list.Goals as goal

pub returns-in_err-index : goal.returns-in_err-index
returns-in_err-index c =
    let p = err_from_is_err_and c.from_residual-in_err-index.result c.from_residual-in_err-index.ensures.1 in
    rw (p.1, p.2) (ends (index_at (is_class c.args.pool.now)) (is_memory c.in_err-index.field-0.0) c.in_err-index.field-0.0 c.loop-i.interfaces.items c.args.count c.loop-i.i (cursor_of c.loop-i.after) (many_at (index_at (is_class c.args.pool.now)) c.args.count (cursor_of c.args.cursor)) c.loop-i-test.true c.in_err-index.ensures c.loop-i.invariant)

pub loop-i-preserved : goal.loop-i-preserved
loop-i-preserved c =
    rw c.in_ok-push.ensures.items (goes_on (index_at (is_class c.args.pool.now)) c.loop-i.interfaces.items c.args.count c.loop-i.i (cursor_of c.loop-i.after) c.in_ok-index.index (cursor_of c.in_ok-index.next) (many_at (index_at (is_class c.args.pool.now)) c.args.count (cursor_of c.args.cursor)) c.loop-i-test.true c.in_ok-index.ensures c.loop-i.invariant)

pub returns : goal.returns
returns c = is_done (index_at (is_class c.args.pool.now)) c.loop-i.interfaces.items c.args.count c.loop-i.i (cursor_of c.loop-i.after) (many_at (index_at (is_class c.args.pool.now)) c.args.count (cursor_of c.args.cursor)) c.loop-i-test.false c.loop-i.invariant
