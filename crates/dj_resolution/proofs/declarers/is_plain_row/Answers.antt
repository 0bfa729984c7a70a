use Rattle.std.proofs.Common.{slice_get}
use Rattle.dj_class_table.specs.Tables.{methods_at}
use Rattle.dj_resolution.proofs.Marking.{by_private, by_static}
use Rattle.dj_resolution.proofs.declarers.is_plain_row.Goals as goal

pub returns-then-flags-eq0 : goal.returns-then-flags-eq0
returns-then-flags-eq0 c =
    by_static (slice_get (methods_at c.args.directory.now.program c.args.row.class) c.args.row.place) c.method_flags-flags.result c.method_flags-flags.ensures c.if-flags-eq0.true

pub returns-else-flags-eq0 : goal.returns-else-flags-eq0
returns-else-flags-eq0 c =
    by_private (slice_get (methods_at c.args.directory.now.program c.args.row.class) c.args.row.place) c.method_flags-flags.result c.method_flags-flags.ensures c.if-flags-eq0.false
