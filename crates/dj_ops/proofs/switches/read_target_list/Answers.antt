use Rattle.std.proofs.Common.{FitsSigned, rules}
use Rattle.std.specs.Int.{w64}
use Rattle.std.proofs.lemmas.Int.{to_z-of_z}
use Rattle.std.proofs.lemmas.Result.{err_from_is_err_and}
use Rattle.dj_cursor.specs.Reading.{many_at}
use Rattle.dj_ops.specs.Reading.{is_memory, target_at}
use Rattle.dj_cursor.specs.Views.{cursor_of}
use Rattle.dj_cursor.proofs.Loop.{goes_on, ends, is_done}
use Rattle.dj_ops.proofs.switches.read_target_list.Goals as goal

pub returns-in_err-target : goal.returns-in_err-target
returns-in_err-target c =
    let p = err_from_is_err_and c.from_residual.result c.from_residual.ensures.1 in
    rw (p.1, p.2) (ends (target_at c.args.at) (is_memory c.in_err-target.field-0.0) c.in_err-target.field-0.0 c.loop.targets.items c.args.count c.loop.counter (cursor_of c.loop.after) (many_at (target_at c.args.at) c.args.count (cursor_of c.args.cursor)) c.loop-test.true c.in_err-target.ensures c.loop.invariant)

pub loop-preserved : goal.loop-preserved
loop-preserved c =
    let fits : FitsSigned w64 c.in_ok-target.target = search rules in
    rw (c.in_ok-push.ensures.items, to_z-of_z w64 c.in_ok-target.target fits) (goes_on (target_at c.args.at) c.loop.targets.items c.args.count c.loop.counter (cursor_of c.loop.after) c.in_ok-target.target (cursor_of c.in_ok-target.next) (many_at (target_at c.args.at) c.args.count (cursor_of c.args.cursor)) c.loop-test.true c.in_ok-target.ensures c.loop.invariant)

pub returns : goal.returns
returns c = is_done (target_at c.args.at) c.loop.targets.items c.args.count c.loop.counter (cursor_of c.loop.after) (many_at (target_at c.args.at) c.args.count (cursor_of c.args.cursor)) c.loop-test.false c.loop.invariant
