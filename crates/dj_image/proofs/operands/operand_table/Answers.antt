use Rattle.std.proofs.Common.{◌+◌, length, sym, subst, arith}
use Rattle.dj_image.specs.Homes.{operand_at}
use Rattle.dj_image.specs.Indexed.{Holds}
use Rattle.dj_image.proofs.Indexes.{none_held, one_more_held, all_held}
use Rattle.dj_image.proofs.operands.operand_table.Goals as goal

pub index_count-count-requires : goal.index_count-count-requires
index_count-count-requires c = c.requires.valid.count

pub loop-index-init : goal.loop-index-init
loop-index-init c = subst (Holds (operand_at c.args.types.now c.args.pool.now c.args.texts.now c.args.classes.now c.args.object) 0) (sym c.new-kept.ensures.items) (none_held (operand_at c.args.types.now c.args.pool.now c.args.texts.now c.args.classes.now c.args.object))

pub loop-index-preserved : goal.loop-index-preserved
loop-index-preserved c = one_more_held (operand_at c.args.types.now c.args.pool.now c.args.texts.now c.args.classes.now c.args.object) c.loop-index.index c.loop-index.kept.items c.push.new.self.items c.operand_at-operand.result c.loop-index.invariant c.operand_at-operand.ensures c.in_ok-push.ensures.items

pub returns : goal.returns
returns c =
    all_held (operand_at c.args.types.now c.args.pool.now c.args.texts.now c.args.classes.now c.args.object) (length c.args.pool.now + 1) c.loop-index.index c.loop-index.kept.items c.loop-index.invariant (omega (arith, c.loop-index.auto.index-end, c.loop-index-test.false, c.index_count-count.ensures))
