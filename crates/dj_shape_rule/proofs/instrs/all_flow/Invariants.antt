use Rattle.std.proofs.Common.{◌≡◌, All, take}
use Rattle.dj_shape_rule.specs.Forms.{FlowsAt}
use Rattle.dj_shape_rule.proofs.instrs.all_flow.Given as goal

abbrev pub invariant-loop-target : goal.invariant-loop-target
invariant-loop-target l = record { same : l.state ≡ l.initial.state; flow : All (FlowsAt l.initial.state.kinds l.frames) (take l.target-index l.targets) }
