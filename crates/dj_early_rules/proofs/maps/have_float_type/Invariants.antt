use Rattle.std.proofs.Common.{take}
use Rattle.dj_early_rules.specs.trusted.Code.{HaveFloatType}
use Rattle.dj_early_rules.proofs.maps.have_float_type.Given as goal

-- none so far
abbrev pub invariant-loop-frame : goal.invariant-loop-frame
invariant-loop-frame l = HaveFloatType (take l.frame-index l.frames) → ⊥
