use Rattle.std.proofs.Common.{None}
use Rattle.dj_pool.specs.Views.{constant_of}
use Rattle.dj_shape_rule.specs.Keeping.{call_by}
use Rattle.dj_shape_rule.proofs.Keeping.{all_kept}
use Rattle.dj_shape_rule.proofs.pool.calls.Goals as goal

pub returns : goal.returns
returns c =
    all_kept constant_of call_by None c.as_slice-entries.result.now c.args.pool.now c.loop-entry.entry-index c.loop-entry.kept.items
    c.as_slice-entries.ensures c.loop-entry-test.false c.loop-entry.invariant
