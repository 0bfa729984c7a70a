use Rattle.std.proofs.Common.{refl}
use Rattle.dj_declarations.specs.trusted.Files.{desc_in}
use Rattle.dj_class_table.specs.Tables.{field_there}
use Rattle.dj_resolution.specs.Numbers.{field_found}
use Rattle.dj_resolution.proofs.Finding.{searched_here, searched_more, searched_end, has_at}
use Rattle.dj_resolution.proofs.find.field_among.Goals as goal

pub loop-class-init : goal.loop-class-init
loop-class-init c = record { same = refl }

pub field_in-requires-clause-there : goal.field_in-requires-clause-there
field_in-requires-clause-there c = c.requires.there _ (has_at c.args.classes.now c.loop-class.class-index c.loop-class-test.true)

pub returns-in-Some : goal.returns-in-Some
returns-in-Some c = searched_here (field_found c.args.table.now c.args.name.now (desc_in c.args.desc.now)) c.args.classes.now c.loop-class.class-index (field_there c.args.table.now c.in-Some.place) c.loop-class.invariant c.loop-class-test.true c.in-Some.ensures

pub loop-class-preserved : goal.loop-class-preserved
loop-class-preserved c = searched_more (field_found c.args.table.now c.args.name.now (desc_in c.args.desc.now)) c.args.classes.now c.loop-class.class-index c.loop-class.invariant c.loop-class-test.true c.in_default.ensures

pub returns : goal.returns
returns c = searched_end (field_found c.args.table.now c.args.name.now (desc_in c.args.desc.now)) c.args.classes.now c.loop-class.class-index c.loop-class.invariant c.loop-class-test.false
