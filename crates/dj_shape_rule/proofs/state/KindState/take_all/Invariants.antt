use Rattle.std.proofs.Common.{◌≡◌, drop}
use Rattle.dj_model.specs.trusted.Shape.{taken}
use Rattle.dj_shape_rule.specs.Standing.{SameLocals}
use Rattle.dj_shape_rule.proofs.state.KindState.take_all.Given as goal

abbrev pub invariant-loop-kind : goal.invariant-loop-kind
invariant-loop-kind l = record {
  locals : SameLocals l.initial.self l.self;
  taken : taken l.wanted l.initial.self.kinds.stack ≡ taken (drop l.kind-index l.wanted) l.self.kinds.stack;
}
