use Rattle.std.specs.Option.{option_map}
use Rattle.dj_class_table.specs.Tables.{method_there}
use Rattle.dj_resolution.proofs.Selections.{is_private_there, not_private_there, taken_private, taken_above}
use Rattle.dj_resolution.proofs.calls.taken_by.Goals as goal

pub returns-then-method_flags-eq0 : goal.returns-then-method_flags-eq0
returns-then-method_flags-eq0 c found there =
    let table = c.args.table.now in
    taken_above table found c.args.class (option_map (method_there table) c.plain_method_like.result)
    (not_private_there table c.args.resolved found there c.method_flags.result c.method_flags.ensures c.if-method_flags-eq0.true) (c.plain_method_like.ensures found there)

pub returns-else-method_flags-eq0 : goal.returns-else-method_flags-eq0
returns-else-method_flags-eq0 c found there =
    let table = c.args.table.now in
    taken_private table found c.args.class (method_there table c.args.resolved)
    (is_private_there table c.args.resolved found there c.method_flags.result c.method_flags.ensures c.if-method_flags-eq0.false) there
