use Rattle.std.proofs.Common.{◌+◌, length, sym, subst, arith}
use Rattle.dj_image.specs.Indexed.{Holds, text_class}
use Rattle.dj_image.proofs.Indexes.{none_held, one_more_held, all_held}
use Rattle.dj_image.proofs.indexed.text_classes.Goals as goal

pub index_count-count-requires : goal.index_count-count-requires
index_count-count-requires c = c.requires.count

pub loop-index-init : goal.loop-index-init
loop-index-init c = subst (Holds (text_class c.args.types.now c.args.pool.now) 0) (sym c.new-kept.ensures.items) (none_held (text_class c.args.types.now c.args.pool.now))

pub loop-index-preserved : goal.loop-index-preserved
loop-index-preserved c = one_more_held (text_class c.args.types.now c.args.pool.now) c.loop-index.index c.loop-index.kept.items c.push.new.self.items c.text_class-number.result c.loop-index.invariant c.text_class-number.ensures c.in_ok-push.ensures.items

pub returns : goal.returns
returns c =
    all_held (text_class c.args.types.now c.args.pool.now) (length c.args.pool.now + 1) c.loop-index.index c.loop-index.kept.items c.loop-index.invariant (omega (arith, c.loop-index.auto.index-end, c.loop-index-test.false, c.index_count-count.ensures))
