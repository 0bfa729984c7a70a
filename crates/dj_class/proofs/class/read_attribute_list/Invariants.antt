use Rattle.std.proofs.Common.{◌≡◌, ◌-◌, map}
use Rattle.dj_cursor.specs.Reading.{many_at}
use Rattle.dj_cursor.specs.Views.{cursor_of}
use Rattle.dj_cursor.proofs.Loop.{with_prefix}
use Rattle.dj_class.specs.Parts.{attribute_of}
use Rattle.dj_class.specs.Reading.{attribute_at}
use Rattle.dj_class.proofs.class.read_attribute_list.Given as goal

abbrev pub invariant-loop-i : goal.invariant-loop-i
invariant-loop-i l =
    with_prefix (map attribute_of l.attributes.items) (many_at (attribute_at l.pool) (l.count - l.i) (cursor_of l.after)) ≡ many_at (attribute_at l.pool) l.count (cursor_of l.fn.cursor)
