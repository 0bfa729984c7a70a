use Rattle.std.proofs.Common.{IfSome}
use Rattle.dj_class.specs.Views.{class_of}
use Rattle.dj_shape_rule.specs.Pools.{ArePoolKinds}
use Rattle.dj_rules.specs.Late.{HasKnown}
use Rattle.dj_rules.proofs.ClassLaws.{AreFirstReported}
use Rattle.dj_rules.proofs.methods.judge_methods.Given as goal

-- the methods so far
abbrev pub invariant-loop-method : goal.invariant-loop-method
invariant-loop-method l = record {
  reported : AreFirstReported (class_of l.view) (HasKnown l.known) l.texts l.method-items l.method-index l.marks;
  kinds : IfSome l.kinds (ArePoolKinds l.view.pool);
}
