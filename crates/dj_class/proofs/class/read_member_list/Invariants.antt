use Rattle.std.proofs.Common.{◌≡◌, ◌-◌, map}
use Rattle.dj_cursor.specs.Reading.{many_at}
use Rattle.dj_cursor.specs.Views.{cursor_of}
use Rattle.dj_cursor.proofs.Loop.{with_prefix}
use Rattle.dj_class.specs.Members.{member_of}
use Rattle.dj_class.specs.Tests.{test_of}
use Rattle.dj_class.specs.Reading.{member_at}
use Rattle.dj_class.proofs.class.read_member_list.Given as goal

abbrev pub invariant-loop-i : goal.invariant-loop-i
invariant-loop-i l =
    with_prefix (map member_of l.members.items) (many_at (member_at (test_of l.name_test) (test_of l.desc_test) l.pool) (l.count - l.i) (cursor_of l.after)) ≡ many_at (member_at (test_of l.name_test) (test_of l.desc_test) l.pool) l.count (cursor_of l.fn.cursor)
