use Rattle.std.proofs.Common.{◌≡◌, length, reverse}
use Rattle.dj_model.specs.trusted.Shape.{taken}
use Rattle.dj_shape_rule.specs.Standing.{SameLocals}
use Rattle.dj_shape_rule.proofs.state.KindState.take_back.Given as goal

abbrev pub invariant-loop-last : goal.invariant-loop-last
invariant-loop-last l = record {
  locals : SameLocals l.initial.self l.self;
  taken : taken (reverse l.wanted) l.initial.self.kinds.stack ≡ taken (reverse l.rest) l.self.kinds.stack;
}

abbrev pub decreases-loop-last : goal.decreases-loop-last
decreases-loop-last l = length l.rest
