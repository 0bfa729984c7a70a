use Rattle.std.proofs.Common.{◌≡◌, All, take}
use Rattle.dj_shape_rule.specs.Forms.{FlowsAt}
use Rattle.dj_shape_rule.proofs.instrs.pairs_flow.Given as goal

abbrev pub invariant-loop-pair : goal.invariant-loop-pair
invariant-loop-pair l = record { same : l.state ≡ l.initial.state; flow : All (λ pair. FlowsAt l.initial.state.kinds l.frames pair.1) (take l.pair-index l.pairs) }
