use Rattle.std.proofs.Common.{◌≡◌, ◌-◌, ◌≤◌}
use Rattle.dj_cursor.specs.Views.{cursor_of}
use Rattle.dj_cursor.proofs.Loop.{with_prefix}
use Rattle.dj_frames.specs.Reading.{frames_at}
use Rattle.dj_frames.proofs.read.read_frame_list.Given as goal

abbrev pub invariant-loop : goal.invariant-loop
invariant-loop l =
    (with_prefix l.frames (frames_at l.fn.starts (l.count - l.counter) l.least (cursor_of l.after)) ≡ frames_at l.fn.starts l.fn.count 0 (cursor_of l.fn.cursor))
    × (l.least ≤ 4294967296)
