use Rattle.std.proofs.Common.{subst}
use Rattle.dj_class.specs.Members.{member_of}
use Rattle.dj_class.specs.Views.{class_of}
use Rattle.dj_early_rules.proofs.MarkLaws.{method_valid}
use Rattle.dj_rules.specs.Late.{HasKnown}
use Rattle.dj_rules.specs.Reported.{IsJudgedMethod}
use Rattle.dj_rules.proofs.ClassLaws.{none_reported, one_more_reported, one_faulty, all_reported}
use Rattle.dj_rules.proofs.methods.judge_methods.Goals as goal

pub loop-method-init : goal.loop-method-init
loop-method-init c = record {
  reported = none_reported (class_of c.args.view.now) (HasKnown c.args.known) c.args.texts.now c.as_slice-method-items.result.now (record { early = c.new.result; late = c.new-2.result }) c.new.ensures.items c.new-2.ensures.items;
  kinds = tt;
}

pub judge_method-requires-clause-kinds : goal.judge_method-requires-clause-kinds
judge_method-requires-clause-kinds c = c.loop-method.invariant.kinds

pub judge_method-requires-clause-method : goal.judge_method-requires-clause-method
judge_method-requires-clause-method c =
    method_valid c.args.view.now.pool c.as_slice-method-items.result.now c.args.view.now.methods c.loop-method.method-index c.method-item.result c.as_slice-method-items.ensures
    c.loop-method-test.true c.method-item.is c.requires.valid.methods

pub returns-then-not-sound : goal.returns-then-not-sound
returns-then-not-sound c =
    one_faulty (class_of c.args.view.now) c.as_slice-method-items.result.now c.loop-method.method-index c.method-item.result c.as_slice-method-items.ensures c.loop-method-test.true c.method-item.is
    (subst (IsJudgedMethod (class_of c.args.view.now) (HasKnown c.args.known) c.args.texts.now (member_of c.method-item.result) c.loop-method.marks c.judge_method.new.marks) c.if-not-sound.true c.in_ok-sound.ensures.marks)

pub loop-method-preserved : goal.loop-method-preserved
loop-method-preserved c =
    let class = class_of c.args.view.now in
    record {
      reported = one_more_reported class (HasKnown c.args.known) c.args.texts.now c.as_slice-method-items.result.now c.loop-method.method-index c.method-item.result c.loop-method.marks c.judge_method.new.marks
          c.loop-method-test.true c.method-item.is c.loop-method.invariant.reported
          (subst (IsJudgedMethod class (HasKnown c.args.known) c.args.texts.now (member_of c.method-item.result) c.loop-method.marks c.judge_method.new.marks) c.if-not-sound.false c.in_ok-sound.ensures.marks);
      kinds = c.in_ok-sound.ensures.kinds;
    }

pub returns : goal.returns
returns c =
    all_reported (class_of c.args.view.now) (HasKnown c.args.known) c.args.texts.now c.as_slice-method-items.result.now c.loop-method.method-index c.loop-method.marks c.as_slice-method-items.ensures c.loop-method-test.false c.loop-method.invariant.reported
