use Rattle.std.proofs.Common.{refl, subst, sym}
use Rattle.dj_class.specs.declared.class.MemberView.{MemberView}
use Rattle.dj_class.specs.Members.{member_of}
use Rattle.dj_report.proofs.Adding.{not_both}
use Rattle.dj_early_rules.specs.trusted.Malformed.{IsFaultyField}
use Rattle.dj_early_rules.proofs.Anys.{none_more, found_at, none_at_all, seen_any, from_seen_any}
use Rattle.dj_early_rules.proofs.fields.has_faulty_field.Goals as goal

pub returns-then-faulty : goal.returns-then-faulty
returns-then-faulty c = (
  λ t. seen_any member_of (IsFaultyField c.args.view.now.pool) c.as_slice-field-items.result.now c.args.view.now.fields c.as_slice-field-items.ensures
      (found_at (λ f. IsFaultyField c.args.view.now.pool (member_of f)) c.as_slice-field-items.result.now c.loop-field.field-index c.field-item.result c.loop-field-test.true
      (subst (λ (f : MemberView). IsFaultyField c.args.view.now.pool (member_of f)) c.field-item.is (c.in_ok-faulty.ensures.0 c.if-faulty.true))),
  λ has. refl,
)

pub loop-field-preserved : goal.loop-field-preserved
loop-field-preserved c =
    none_more (λ f. IsFaultyField c.args.view.now.pool (member_of f)) c.as_slice-field-items.result.now c.loop-field.field-index c.field-item.result c.loop-field-test.true c.loop-field.invariant
    (λ bad. not_both c.in_ok-faulty.faulty (c.in_ok-faulty.ensures.1 (subst (λ (f : MemberView). IsFaultyField c.args.view.now.pool (member_of f)) (sym c.field-item.is) bad)) c.if-faulty.false)

pub returns : goal.returns
returns c = (
  λ t. absurd cc,
  λ has. absurd (none_at_all (λ f. IsFaultyField c.args.view.now.pool (member_of f)) c.as_slice-field-items.result.now c.loop-field.field-index c.loop-field-test.false c.loop-field.invariant
      (from_seen_any member_of (IsFaultyField c.args.view.now.pool) c.as_slice-field-items.result.now c.args.view.now.fields c.as_slice-field-items.ensures has)),
)
