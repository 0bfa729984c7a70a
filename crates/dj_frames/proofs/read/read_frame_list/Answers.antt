use Rattle.std.proofs.Common.{arith}
use Rattle.std.proofs.lemmas.Result.{err_from_is_err_and}
use Rattle.dj_cursor.specs.Views.{cursor_of}
use Rattle.dj_frames.specs.Reading.{frames_at}
use Rattle.dj_frames.proofs.Loop.{frames_go_on, frames_end, frames_done}
use Rattle.dj_frames.proofs.read.read_frame_list.Goals as goal

pub returns-in_err-frame : goal.returns-in_err-frame
returns-in_err-frame c =
    let p = err_from_is_err_and c.from_residual.result c.from_residual.ensures.1 in
    rw (p.1, p.2) (frames_end c.args.starts.now c.in_err-frame.field-0.0 c.loop.frames c.args.count c.loop.counter c.loop.least (cursor_of c.loop.after) (frames_at c.args.starts.now c.args.count 0 (cursor_of c.args.cursor)) c.loop-test.true c.in_err-frame.ensures.gives c.loop.invariant.0)

pub loop-preserved : goal.loop-preserved
loop-preserved c = (
  rw (c.in_ok-push.ensures.ok, c.from-least.ensures) (frames_go_on c.args.starts.now c.loop.frames c.args.count c.loop.counter c.loop.least (cursor_of c.loop.after) c.in_ok-frame.frame (cursor_of c.in_ok-frame.next) (frames_at c.args.starts.now c.args.count 0 (cursor_of c.args.cursor)) c.loop-test.true c.in_ok-frame.ensures.gives c.loop.invariant.0),
  omega (arith, c.from-least.ensures, c.type_inv.starts c.in_ok-frame.frame.at),
)

pub returns : goal.returns
returns c = frames_done c.args.starts.now c.loop.frames c.args.count c.loop.counter c.loop.least (cursor_of c.loop.after) (frames_at c.args.starts.now c.args.count 0 (cursor_of c.args.cursor)) c.loop-test.false c.loop.invariant.0
