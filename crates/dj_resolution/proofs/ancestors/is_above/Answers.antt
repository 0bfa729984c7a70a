use Rattle.std.proofs.Common.{sym, ◌∙◌, arith}
use Rattle.dj_resolution.specs.Numbers.{lists_of, once_above}
use Rattle.dj_resolution.proofs.Chained.{has_reported}
use Rattle.dj_resolution.proofs.Listed.{listed_there, not_listed}
use Rattle.dj_resolution.proofs.ancestors.is_above.Goals as goal

pub has-requires : goal.has-requires
has-requires c = omega (arith, c.requires.methods.count, c.requires.there)

pub returns-in-Some-true : goal.returns-in-Some-true
returns-in-Some-true c =
    let reported = has_reported c.args.table.now (once_above c.args.table.now) (lists_of c.args.methods.now.lists.items) c.args.methods.now.places.items c.args.class c.args.other c.in-Some-true.field-0 c.requires.methods c.in-Some-true.ensures in
    sym (listed_there c.args.table.now c.args.class c.args.other (sym reported ∙ c.in-Some-true.field-0-test))

pub returns-in-Some-false : goal.returns-in-Some-false
returns-in-Some-false c =
    let reported = has_reported c.args.table.now (once_above c.args.table.now) (lists_of c.args.methods.now.lists.items) c.args.methods.now.places.items c.args.class c.args.other c.in-Some-false.field-0 c.requires.methods c.in-Some-false.ensures in
    c.is_own_or_superclass.ensures ∙ not_listed c.args.table.now c.args.class c.args.other (sym reported ∙ c.in-Some-false.field-0-test)
