use Rattle.std.proofs.lemmas.Result.{err_from_is_err_and}
use Rattle.dj_cursor.specs.Reading.{many_at}
use Rattle.dj_cursor.specs.Views.{cursor_of}
use Rattle.dj_cursor.proofs.Loop.{goes_on, ends, is_done}
use Rattle.dj_frames.specs.Reading.{is_memory, type_at}
use Rattle.dj_frames.proofs.read.read_types.Goals as goal

pub returns-in_err-item : goal.returns-in_err-item
returns-in_err-item c =
    let p = err_from_is_err_and c.from_residual.result c.from_residual.ensures.1 in
    rw (p.1, p.2) (ends (type_at c.args.starts.now) (is_memory c.in_err-item.field-0.0) c.in_err-item.field-0.0 c.loop.types c.args.count c.loop.counter (cursor_of c.loop.after) (many_at (type_at c.args.starts.now) c.args.count (cursor_of c.args.cursor)) c.loop-test.true c.in_err-item.ensures c.loop.invariant)

pub loop-preserved : goal.loop-preserved
loop-preserved c =
    rw c.in_ok-push.ensures.ok (goes_on (type_at c.args.starts.now) c.loop.types c.args.count c.loop.counter (cursor_of c.loop.after) c.in_ok-item.item (cursor_of c.in_ok-item.next) (many_at (type_at c.args.starts.now) c.args.count (cursor_of c.args.cursor)) c.loop-test.true c.in_ok-item.ensures c.loop.invariant)

pub returns : goal.returns
returns c = is_done (type_at c.args.starts.now) c.loop.types c.args.count c.loop.counter (cursor_of c.loop.after) (many_at (type_at c.args.starts.now) c.args.count (cursor_of c.args.cursor)) c.loop-test.false c.loop.invariant
