use Rattle.std.proofs.Common.{refl}
use Rattle.dj_model.specs.trusted.Linking.{is_plain}
use Rattle.dj_declarations.specs.trusted.Files.{desc_in}
use Rattle.dj_class_table.specs.Tables.{method_there}
use Rattle.dj_resolution.specs.Numbers.{method_found}
use Rattle.dj_resolution.proofs.Finding.{searched_here, searched_more, searched_end, has_at}
use Rattle.dj_resolution.proofs.find.plain_method_among.Goals as goal

pub loop-class-init : goal.loop-class-init
loop-class-init c = record { same = refl }

pub plain_method_in-requires-clause-there : goal.plain_method_in-requires-clause-there
plain_method_in-requires-clause-there c = c.requires.there _ (has_at c.args.classes.now c.loop-class.class-index c.loop-class-test.true)

pub returns-in-Some : goal.returns-in-Some
returns-in-Some c = searched_here (method_found c.args.table.now is_plain c.args.name.now (desc_in c.args.desc.now)) c.args.classes.now c.loop-class.class-index (method_there c.args.table.now c.in-Some.place) c.loop-class.invariant c.loop-class-test.true c.in-Some.ensures

pub loop-class-preserved : goal.loop-class-preserved
loop-class-preserved c = searched_more (method_found c.args.table.now is_plain c.args.name.now (desc_in c.args.desc.now)) c.args.classes.now c.loop-class.class-index c.loop-class.invariant c.loop-class-test.true c.in_default.ensures

pub returns : goal.returns
returns c = searched_end (method_found c.args.table.now is_plain c.args.name.now (desc_in c.args.desc.now)) c.args.classes.now c.loop-class.class-index c.loop-class.invariant c.loop-class-test.false
