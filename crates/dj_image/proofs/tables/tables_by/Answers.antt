use Rattle.dj_image.specs.Tables.{imaged_of}
use Rattle.dj_image.proofs.Wholes.{item_pool}
use Rattle.dj_image.proofs.Making.{tables_more, tables_all}
use Rattle.dj_image.proofs.tables.tables_by.Goals as goal

pub class_tables-requires-clause-valid : goal.class_tables-requires-clause-valid
class_tables-requires-clause-valid c = item_pool c.args.types.now.program c.args.parts.now c.loop-class.class-index c.class-item.result c.requires.fit c.loop-class-test.true c.class-item.is

pub loop-class-preserved : goal.loop-class-preserved
loop-class-preserved c =
    tables_more (imaged_of c.args.types.now c.args.parts.now c.args.texts.now) c.args.parts.now c.loop-class.class-index c.class-item.result c.loop-class.tables c.add_tables.new.tables c.in_ok-made.made
    c.loop-class-test.true c.class-item.is c.loop-class.invariant (c.in_ok-made.ensures c.args.parts.now c.requires.fit)
    c.in_ok-add_tables.ensures.operands c.in_ok-add_tables.ensures.named c.in_ok-add_tables.ensures.made c.in_ok-add_tables.ensures.constants

pub returns : goal.returns
returns c = tables_all (imaged_of c.args.types.now c.args.parts.now c.args.texts.now) c.args.parts.now c.loop-class.class-index c.loop-class.tables c.loop-class-test.false c.loop-class.invariant
