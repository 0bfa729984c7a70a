use Rattle.std.proofs.lemmas.Result.{err_from_is_err_and}
use Rattle.dj_cursor.specs.Reading.{many_at}
use Rattle.dj_cursor.specs.Views.{cursor_of}
use Rattle.dj_cursor.proofs.Loop.{goes_on, ends, is_done}
use Rattle.dj_class.specs.CodeReading.{row_at}
use Rattle.dj_class.specs.Memory.{code_is_memory}
use Rattle.dj_class.proofs.code.read_row_list.Goals as goal

pub returns-in_err-row : goal.returns-in_err-row
returns-in_err-row c =
    let p = err_from_is_err_and c.from_residual-in_err-row.result c.from_residual-in_err-row.ensures.1 in
    rw (p.1, p.2) (ends row_at (code_is_memory c.in_err-row.field-0.0) c.in_err-row.field-0.0 c.loop.rows.items c.args.count c.loop.counter (cursor_of c.loop.after) (many_at row_at c.args.count (cursor_of c.args.cursor)) c.loop-test.true c.in_err-row.ensures c.loop.invariant)

pub loop-preserved : goal.loop-preserved
loop-preserved c =
    rw c.in_ok-push.ensures.items (goes_on row_at c.loop.rows.items c.args.count c.loop.counter (cursor_of c.loop.after) c.in_ok-row.row (cursor_of c.in_ok-row.next) (many_at row_at c.args.count (cursor_of c.args.cursor)) c.loop-test.true c.in_ok-row.ensures c.loop.invariant)

pub returns : goal.returns
returns c = is_done row_at c.loop.rows.items c.args.count c.loop.counter (cursor_of c.loop.after) (many_at row_at c.args.count (cursor_of c.args.cursor)) c.loop-test.false c.loop.invariant
