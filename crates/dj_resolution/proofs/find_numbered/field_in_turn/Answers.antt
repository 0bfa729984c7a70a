use Rattle.std.proofs.Common.{refl}
use Rattle.dj_declarations.specs.trusted.Files.{desc_in}
use Rattle.dj_class_table.specs.Tables.{field_there}
use Rattle.dj_resolution.specs.Numbers.{field_found}
use Rattle.dj_resolution.proofs.Finding.{searched_here, searched_more, searched_end, has_at}
use Rattle.dj_resolution.proofs.find_numbered.field_in_turn.Goals as goal

pub loop-class-init : goal.loop-class-init
loop-class-init c n d h = record { same = refl }

pub field_if-requires-clause-there : goal.field_if-requires-clause-there
field_if-requires-clause-there c = c.requires.below _ (has_at c.args.classes.now c.loop-class.class-index c.loop-class-test.true)

pub returns-in-Some : goal.returns-in-Some
returns-in-Some c n d h = searched_here (field_found c.args.directory.now.program n (desc_in d)) c.args.classes.now c.loop-class.class-index (field_there c.args.directory.now.program c.in-Some.place) (c.loop-class.invariant n d h) c.loop-class-test.true (c.in-Some.ensures n d h)

pub loop-class-preserved : goal.loop-class-preserved
loop-class-preserved c n d h = searched_more (field_found c.args.directory.now.program n (desc_in d)) c.args.classes.now c.loop-class.class-index (c.loop-class.invariant n d h) c.loop-class-test.true (c.in_default.ensures n d h)

pub returns : goal.returns
returns c n d h = searched_end (field_found c.args.directory.now.program n (desc_in d)) c.args.classes.now c.loop-class.class-index (c.loop-class.invariant n d h) c.loop-class-test.false
