use Rattle.std.proofs.Common.{◌≡◌, ◌-◌, map}
use Rattle.dj_cursor.specs.Reading.{many_at}
use Rattle.dj_cursor.specs.Views.{cursor_of}
use Rattle.dj_cursor.proofs.Loop.{with_prefix}
use Rattle.dj_class.specs.Parts.{attribute_of}
use Rattle.dj_class.specs.CodeReading.{code_attribute_at}
use Rattle.dj_class.proofs.code.read_code_attribute_list.Given as goal

abbrev pub invariant-loop : goal.invariant-loop
invariant-loop l =
    with_prefix (map attribute_of l.attributes.items) (many_at code_attribute_at (l.count - l.counter) (cursor_of l.after)) ≡ many_at code_attribute_at l.fn.count (cursor_of l.fn.cursor)
