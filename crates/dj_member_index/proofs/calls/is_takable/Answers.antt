use Rattle.std.proofs.Common.{sym, ◌∙◌}
use Rattle.std.specs.Prelude.{slice_get}
use Rattle.std.proofs.lemmas.Bool.{false≢true}
use Rattle.dj_class_table.specs.Tables.{methods_at}
use Rattle.dj_member_index.specs.Calls.{tests}
use Rattle.dj_member_index.proofs.CallLaws.{in_class, in_methods, passes_is, takable_by}
use Rattle.dj_member_index.proofs.calls.is_takable.Goals as goal

pub method_flags-flags-requires-clause-there : goal.method_flags-flags-requires-clause-there
method_flags-flags-requires-clause-there c = in_class c.args.table.now c.args.rows.now c.requires.rows c.args.row c.requires.there

pub method_flags-flags-requires-clause-within : goal.method_flags-flags-requires-clause-within
method_flags-flags-requires-clause-within c = in_methods c.args.table.now c.args.rows.now c.requires.rows c.args.row c.requires.there

pub returns-then-takes : goal.returns-then-takes
returns-then-takes c =
    takable_by c.args.table.now (tests c.args.private_too) c.args.rows.now c.args.row c.is_first.result
    (passes_is c.args.private_too (slice_get (methods_at c.args.table.now c.args.row.class) c.args.row.place) c.method_flags-flags.result c.method_flags-flags.ensures ∙ sym c.takes.ensures ∙ c.if-takes.true) c.is_first.ensures

pub returns-else-takes : goal.returns-else-takes
returns-else-takes c takable =
    false≢true (sym (passes_is c.args.private_too (slice_get (methods_at c.args.table.now c.args.row.class) c.args.row.place) c.method_flags-flags.result c.method_flags-flags.ensures ∙ sym c.takes.ensures ∙ c.if-takes.false) ∙ takable.passed)
