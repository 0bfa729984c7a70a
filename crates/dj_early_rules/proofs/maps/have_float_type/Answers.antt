use Rattle.std.proofs.Common.{subst, sym}
use Rattle.dj_report.proofs.Adding.{not_both}
use Rattle.dj_early_rules.specs.trusted.Code.{HasFloatType}
use Rattle.dj_early_rules.proofs.Anys.{none_more, none_at_all}
use Rattle.dj_early_rules.proofs.maps.have_float_type.Goals as goal

pub loop-frame-preserved : goal.loop-frame-preserved
loop-frame-preserved c =
    none_more HasFloatType c.args.frames.now c.loop-frame.frame-index c.frame-item.result c.loop-frame-test.true c.loop-frame.invariant
    (λ bad. not_both c.has_float_type.result (c.has_float_type.ensures.1 (subst HasFloatType (sym c.frame-item.is) bad)) c.if-has_float_type.false)

pub returns : goal.returns
returns c = (
  λ t. absurd cc,
  λ has. absurd (none_at_all HasFloatType c.args.frames.now c.loop-frame.frame-index c.loop-frame-test.false c.loop-frame.invariant has),
)
