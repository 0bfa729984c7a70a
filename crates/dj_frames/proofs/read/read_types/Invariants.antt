use Rattle.std.proofs.Common.{◌≡◌, ◌-◌}
use Rattle.dj_cursor.specs.Reading.{many_at}
use Rattle.dj_cursor.specs.Views.{cursor_of}
use Rattle.dj_cursor.proofs.Loop.{with_prefix}
use Rattle.dj_frames.specs.Reading.{type_at}
use Rattle.dj_frames.proofs.read.read_types.Given as goal

abbrev pub invariant-loop : goal.invariant-loop
invariant-loop l =
    with_prefix l.types (many_at (type_at l.fn.starts) (l.count - l.counter) (cursor_of l.after)) ≡ many_at (type_at l.fn.starts) l.fn.count (cursor_of l.fn.cursor)
