use Rattle.std.proofs.Common.{◌≡◌, ◌-◌}
use Rattle.dj_cursor.specs.Reading.{many_at}
use Rattle.dj_cursor.specs.Views.{cursor_of}
use Rattle.dj_cursor.proofs.Loop.{with_prefix}
use Rattle.dj_pool.specs.Tests.{is_class}
use Rattle.dj_class.specs.Reading.{index_at}
use Rattle.dj_class.proofs.class.read_interface_list.Given as goal

abbrev pub invariant-loop-i : goal.invariant-loop-i
invariant-loop-i l =
    with_prefix l.interfaces.items (many_at (index_at (is_class l.pool)) (l.count - l.i) (cursor_of l.after)) ≡ many_at (index_at (is_class l.pool)) l.count (cursor_of l.fn.cursor)
