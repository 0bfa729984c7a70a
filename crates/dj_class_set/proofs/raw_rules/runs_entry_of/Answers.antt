use Rattle.std.proofs.Common.{◌∙◌}
use Rattle.dj_class_table.specs.Tables.{methods_at}
use Rattle.dj_class_set.proofs.RawLaws.{entry_described, named_within, named_static, named_none}
use Rattle.dj_class_set.proofs.raw_rules.runs_entry_of.Goals as goal

pub method_named-requires-clause-described : goal.method_named-requires-clause-described
method_named-requires-clause-described c = entry_described

pub runs_static-requires-clause-within : goal.runs_static-requires-clause-within
runs_static-requires-clause-within c = named_within (methods_at c.args.table.now c.args.class) c.method_named.result c.in-Some.member c.method_named.ensures.found c.in-Some.is

pub returns-in-Some : goal.returns-in-Some
returns-in-Some c =
    c.runs_static.ensures ∙ named_static (methods_at c.args.table.now c.args.class) c.method_named.result c.in-Some.member c.method_named.ensures.found c.in-Some.is

pub returns-in-None : goal.returns-in-None
returns-in-None c = named_none (methods_at c.args.table.now c.args.class) c.method_named.result c.method_named.ensures.found c.in-None.is
