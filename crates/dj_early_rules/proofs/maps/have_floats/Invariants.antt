use Rattle.std.proofs.Common.{take}
use Rattle.dj_early_rules.specs.trusted.Code.{HaveFloats}
use Rattle.dj_early_rules.proofs.maps.have_floats.Given as goal

-- none so far
abbrev pub invariant-loop-item : goal.invariant-loop-item
invariant-loop-item l = HaveFloats (take l.item-index l.types) → ⊥
