use Rattle.std.proofs.Common.{◌∙◌, sym}
use Rattle.std.specs.Prelude.{slice_get}
use Rattle.dj_class_table.specs.Tables.{methods_at}
use Rattle.dj_class_set.proofs.RawLaws.{static_yes, static_no}
use Rattle.dj_class_set.proofs.raw_rules.runs_static.Goals as goal

pub returns-then-is_static : goal.returns-then-is_static
returns-then-is_static c =
    static_yes (slice_get (methods_at c.args.table.now c.args.class) c.args.member) c.method_flags.result c.has_code.result c.method_flags.ensures c.has_code.ensures
    (sym c.is_static.ensures ∙ c.if-is_static.true)

pub returns-else-is_static : goal.returns-else-is_static
returns-else-is_static c =
    static_no (slice_get (methods_at c.args.table.now c.args.class) c.args.member) c.method_flags.result c.method_flags.ensures (sym c.is_static.ensures ∙ c.if-is_static.false)
