use Rattle.std.proofs.Common.{◌≡◌, ◌-◌}
use Rattle.dj_cursor.specs.Reading.{many_at}
use Rattle.dj_ops.specs.Reading.{target_at}
use Rattle.dj_cursor.specs.Views.{cursor_of}
use Rattle.dj_cursor.proofs.Loop.{with_prefix}
use Rattle.dj_ops.proofs.switches.read_target_list.Given as goal

abbrev pub invariant-loop : goal.invariant-loop
invariant-loop l =
    with_prefix l.targets.items (many_at (target_at l.fn.at) (l.count - l.counter) (cursor_of l.after)) ≡ many_at (target_at l.fn.at) l.fn.count (cursor_of l.fn.cursor)
