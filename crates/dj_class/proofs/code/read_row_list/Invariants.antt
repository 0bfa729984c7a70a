use Rattle.std.proofs.Common.{◌≡◌, ◌-◌}
use Rattle.dj_cursor.specs.Reading.{many_at}
use Rattle.dj_cursor.specs.Views.{cursor_of}
use Rattle.dj_cursor.proofs.Loop.{with_prefix}
use Rattle.dj_class.specs.CodeReading.{row_at}
use Rattle.dj_class.proofs.code.read_row_list.Given as goal

abbrev pub invariant-loop : goal.invariant-loop
invariant-loop l =
    with_prefix l.rows.items (many_at row_at (l.count - l.counter) (cursor_of l.after)) ≡ many_at row_at l.fn.count (cursor_of l.fn.cursor)
