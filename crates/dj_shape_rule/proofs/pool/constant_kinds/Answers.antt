use Rattle.dj_pool.specs.Views.{constant_of}
use Rattle.dj_shape_rule.specs.Keeping.{kind_by}
use Rattle.dj_shape_rule.specs.declared.pool.ConstantKind.TheVariants as constants
use Rattle.dj_shape_rule.proofs.Keeping.{all_kept}
use Rattle.dj_shape_rule.proofs.pool.constant_kinds.Goals as goal

pub returns : goal.returns
returns c =
    all_kept constant_of (kind_by c.args.pool.now) constants.Other c.as_slice-entries.result.now c.args.pool.now c.loop-entry.entry-index c.loop-entry.kept.items
    c.as_slice-entries.ensures c.loop-entry-test.false c.loop-entry.invariant
