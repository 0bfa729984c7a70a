use Rattle.std.proofs.Common.{◌≡◌, ◌+◌, ◌++◌, ◌∷◌, [], map, false, arith}
use Rattle.std.proofs.lemmas.Result.{err_from_is_err_and}
use Rattle.std.proofs.lemmas.List.{map_push}
use Rattle.dj_cursor.specs.Views.{cursor_of}
use Rattle.dj_pool.specs.Views.{constant_of}
use Rattle.dj_pool.specs.Reading.{slots_at}
use Rattle.dj_pool.proofs.Loop.{slots_go_on, slots_end, slots_done}
use Rattle.dj_pool.proofs.read.read_slots.Goals as goal

pub returns-in_err-entry-clause-exact : goal.returns-in_err-entry-clause-exact
returns-in_err-entry-clause-exact c =
    let p = err_from_is_err_and c.from_residual-in_err-entry.result c.from_residual-in_err-entry.ensures.1 in
    rw (p.1, p.2) (slots_end c.in_err-entry.field-0.0 (map constant_of c.loop-i.entries.items) c.args.count c.loop-i.i c.loop-i.after_wide (cursor_of c.loop-i.after) (slots_at c.args.count false 1 (cursor_of c.args.cursor)) c.loop-i-test.true c.in_err-entry.ensures c.loop-i.invariant.so_far)

pub loop-i-preserved : goal.loop-i-preserved
loop-i-preserved c =
    let n = constant_of c.in_ok-entry.entry in
    let e : map constant_of c.push.new.self.items ≡ map constant_of c.loop-i.entries.items ++ n ∷ [] = rw c.in_ok-push.ensures.items (map_push constant_of c.loop-i.entries.items c.in_ok-entry.entry) in
    record {
      few = omega (arith, c.in_ok-push.ensures.len, c.loop-i.invariant.few);
      so_far = rw (c.is_wide-after_wide.ensures, e) (slots_go_on (map constant_of c.loop-i.entries.items) c.args.count c.loop-i.i c.loop-i.after_wide (cursor_of c.loop-i.after) n (cursor_of c.in_ok-entry.next) (slots_at c.args.count false 1 (cursor_of c.args.cursor)) c.loop-i-test.true c.in_ok-entry.ensures c.loop-i.invariant.so_far);
    }

pub returns-clause-exact : goal.returns-clause-exact
returns-clause-exact c =
    slots_done (map constant_of c.loop-i.entries.items) c.args.count c.loop-i.i c.loop-i.after_wide (c.loop-i.i + 1) (cursor_of c.loop-i.after) (slots_at c.args.count false 1 (cursor_of c.args.cursor)) c.loop-i-test.false c.loop-i.invariant.so_far
