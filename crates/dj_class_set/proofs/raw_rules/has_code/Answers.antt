use Rattle.std.specs.Prelude.{slice_get}
use Rattle.dj_class_table.specs.Tables.{methods_at}
use Rattle.dj_class_set.proofs.RawLaws.{native_reported, own_reported}
use Rattle.dj_class_set.proofs.raw_rules.has_code.Goals as goal

pub returns-in-Some : goal.returns-in-Some
returns-in-Some c = native_reported (slice_get (methods_at c.args.table.now c.args.class) c.args.member) c.method_native.result _ c.method_native.ensures c.in-Some.is

pub returns-in-None : goal.returns-in-None
returns-in-None c =
    own_reported (slice_get (methods_at c.args.table.now c.args.class) c.args.member) c.method_native.result c.method_has_body.result c.method_native.ensures c.in-None.is
    c.method_has_body.ensures
