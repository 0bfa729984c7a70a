use Rattle.std.proofs.Common.{◌≡◌, Some, ap, sym, subst, ◌∙◌}
use Rattle.dj_class_table.specs.Tables.{method_there}
use Rattle.dj_resolution.proofs.Selections.{Is, found_there, there_within, reported_there, taken_numbers}
use Rattle.dj_resolution.proofs.select.selected_method.Goals as goal

pub method_has_body-requires-clause-there : goal.method_has_body-requires-clause-there
method_has_body-requires-clause-there c =
    let table = c.args.table.now in
    let some = there_within table c.args.resolved c.requires.there c.requires.within in
    let reported = reported_there table c.in_ok-taken.taken (taken_numbers table some.0 c.args.class) (c.in_ok-taken.ensures some.0 some.1) in
    elim (found_there table c.in_ok-taken.taken reported.0 reported.2) [ Is lt within at ↦ lt ]

pub method_has_body-requires-clause-within : goal.method_has_body-requires-clause-within
method_has_body-requires-clause-within c =
    let table = c.args.table.now in
    let some = there_within table c.args.resolved c.requires.there c.requires.within in
    let reported = reported_there table c.in_ok-taken.taken (taken_numbers table some.0 c.args.class) (c.in_ok-taken.ensures some.0 some.1) in
    elim (found_there table c.in_ok-taken.taken reported.0 reported.2) [ Is lt within at ↦ within ]
