use Rattle.std.proofs.Common.{refl, subst, sym}
use Rattle.dj_class.specs.declared.class.MemberView.{MemberView}
use Rattle.dj_class.specs.Members.{member_of}
use Rattle.dj_report.proofs.Adding.{not_both}
use Rattle.dj_early_rules.specs.trusted.Malformed.{IsFaultyMethod}
use Rattle.dj_early_rules.proofs.Anys.{none_more, found_at, none_at_all, seen_any, from_seen_any}
use Rattle.dj_early_rules.proofs.MarkLaws.{method_valid}
use Rattle.dj_loader_tests.proofs.set.has_faulty_method.Goals as goal

pub is_faulty_method-requires : goal.is_faulty_method-requires
is_faulty_method-requires c =
    method_valid c.args.view.now.pool c.as_slice-method-items.result.now c.args.view.now.methods c.loop-method.method-index c.method-item.result c.as_slice-method-items.ensures
    c.loop-method-test.true c.method-item.is c.requires.methods

pub returns-then-faulty : goal.returns-then-faulty
returns-then-faulty c = (
  λ t. seen_any member_of (IsFaultyMethod c.args.view.now.pool) c.as_slice-method-items.result.now c.args.view.now.methods c.as_slice-method-items.ensures
      (found_at (λ m. IsFaultyMethod c.args.view.now.pool (member_of m)) c.as_slice-method-items.result.now c.loop-method.method-index c.method-item.result c.loop-method-test.true
      (subst (λ (m : MemberView). IsFaultyMethod c.args.view.now.pool (member_of m)) c.method-item.is (c.in_ok-faulty.ensures.0 c.if-faulty.true))),
  λ has. refl,
)

pub loop-method-preserved : goal.loop-method-preserved
loop-method-preserved c =
    none_more (λ m. IsFaultyMethod c.args.view.now.pool (member_of m)) c.as_slice-method-items.result.now c.loop-method.method-index c.method-item.result c.loop-method-test.true c.loop-method.invariant
    (λ bad. not_both c.in_ok-faulty.faulty (c.in_ok-faulty.ensures.1 (subst (λ (m : MemberView). IsFaultyMethod c.args.view.now.pool (member_of m)) (sym c.method-item.is) bad)) c.if-faulty.false)

pub returns : goal.returns
returns c = (
  λ t. absurd cc,
  λ has. absurd (none_at_all (λ m. IsFaultyMethod c.args.view.now.pool (member_of m)) c.as_slice-method-items.result.now c.loop-method.method-index c.loop-method-test.false c.loop-method.invariant
      (from_seen_any member_of (IsFaultyMethod c.args.view.now.pool) c.as_slice-method-items.result.now c.args.view.now.methods c.as_slice-method-items.ensures has)),
)
