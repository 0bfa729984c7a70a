use Rattle.std.proofs.Common.{Some}
use Rattle.std.specs.Option.{option_map}
use Rattle.dj_model.specs.trusted.Linking.{most_classes}
use Rattle.dj_class_table.specs.Tables.{methods_at, method_there}
use Rattle.dj_resolution.specs.Numbers.{numbers_up}
use Rattle.dj_resolution.proofs.Selections.{descriptor_there, is_private_there, not_private_there, named_there, taken_private, taken_above}
use Rattle.dj_resolution.proofs.select.taken_method.Goals as goal

pub plain_method_from-requires-clause-described : goal.plain_method_from-requires-clause-described
plain_method_from-requires-clause-described c =
    descriptor_there (methods_at c.args.table.now c.args.resolved.class) c.args.resolved.member c.method_desc.result.now c.requires.within c.method_desc.ensures

pub returns-then-method_flags-eq0 : goal.returns-then-method_flags-eq0
returns-then-method_flags-eq0 c found there =
    let table = c.args.table.now in
    taken_above table found c.args.class (option_map (method_there table) c.plain_method_from.result)
    (not_private_there table c.args.resolved found there c.method_flags.result c.method_flags.ensures c.if-method_flags-eq0.true)
    (named_there table c.args.resolved found there c.method_name-name.result.now c.method_desc.result.now (numbers_up most_classes table c.args.class) (option_map (method_there table) c.plain_method_from.result)
    c.method_name-name.ensures c.method_desc.ensures c.plain_method_from.ensures)

pub returns-else-method_flags-eq0 : goal.returns-else-method_flags-eq0
returns-else-method_flags-eq0 c found there =
    let table = c.args.table.now in
    taken_private table found c.args.class (method_there table c.args.resolved)
    (is_private_there table c.args.resolved found there c.method_flags.result c.method_flags.ensures c.if-method_flags-eq0.false) there
