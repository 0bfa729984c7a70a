use Rattle.dj_pool.specs.Views.{constant_of}
use Rattle.dj_report.proofs.Adding.{not_both}
use Rattle.dj_early_rules.specs.trusted.Members.{IsFloatConstant}
use Rattle.dj_early_rules.proofs.Anys.{none_more, none_at_all, from_seen_any}
use Rattle.dj_early_rules.proofs.classes.has_float_constant.Goals as goal

pub loop-entry-preserved : goal.loop-entry-preserved
loop-entry-preserved c =
    none_more (λ e. IsFloatConstant c.args.view.now.pool (constant_of e)) c.as_slice-entry-items.result.now c.loop-entry.entry-index _ c.loop-entry-test.true c.loop-entry.invariant
    (λ bad. not_both c.is_float_constant-float.result (c.is_float_constant-float.ensures.1 bad) c.if-float.false)

pub returns : goal.returns
returns c = (
  λ t. absurd cc,
  λ has. absurd (none_at_all (λ e. IsFloatConstant c.args.view.now.pool (constant_of e)) c.as_slice-entry-items.result.now c.loop-entry.entry-index c.loop-entry-test.false c.loop-entry.invariant
      (from_seen_any constant_of (IsFloatConstant c.args.view.now.pool) c.as_slice-entry-items.result.now c.args.view.now.pool c.as_slice-entry-items.ensures has)),
)
