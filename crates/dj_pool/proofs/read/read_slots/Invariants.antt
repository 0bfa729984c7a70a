use Rattle.std.proofs.Common.{◌≡◌, ◌+◌, ◌-◌, false, map, vec_len}
use Rattle.dj_cursor.specs.Views.{cursor_of}
use Rattle.dj_cursor.proofs.Loop.{with_prefix}
use Rattle.dj_pool.specs.Views.{constant_of}
use Rattle.dj_pool.specs.Reading.{slots_at}
use Rattle.dj_pool.proofs.read.read_slots.Given as goal

abbrev pub invariant-loop-i : goal.invariant-loop-i
invariant-loop-i l = record {
  few : vec_len l.entries ≡ l.i;
  so_far : with_prefix (map constant_of l.entries.items) (slots_at (l.count - l.i) l.after_wide (l.i + 1) (cursor_of l.after)) ≡ slots_at l.count false 1 (cursor_of l.fn.cursor);
}
