use Rattle.std.proofs.Common.{◌+◌, length, sym, subst, arith}
use Rattle.dj_image.specs.Indexed.{Holds}
use Rattle.dj_image.specs.NameNumbers.{name_number}
use Rattle.dj_image.proofs.Indexes.{none_held, one_more_held, all_held}
use Rattle.dj_image.proofs.name_numbers.numbers_by.Goals as goal

pub index_count-count-requires : goal.index_count-count-requires
index_count-count-requires c = c.requires.count

pub loop-index-init : goal.loop-index-init
loop-index-init c = subst (Holds (name_number c.args.directory.now c.args.pool.now) 0) (sym c.new-kept.ensures.items) (none_held (name_number c.args.directory.now c.args.pool.now))

pub loop-index-preserved : goal.loop-index-preserved
loop-index-preserved c = one_more_held (name_number c.args.directory.now c.args.pool.now) c.loop-index.index c.loop-index.kept.items c.push.new.self.items c.name_number-number.result c.loop-index.invariant c.name_number-number.ensures c.in_ok-push.ensures.items

pub returns : goal.returns
returns c =
    all_held (name_number c.args.directory.now c.args.pool.now) (length c.args.pool.now + 1) c.loop-index.index c.loop-index.kept.items c.loop-index.invariant (omega (arith, c.loop-index.auto.index-end, c.loop-index-test.false, c.index_count-count.ensures))
