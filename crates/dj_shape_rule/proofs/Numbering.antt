-- Frames by the numbers of their instructions.
use Rattle.std.proofs.Common.{◌≡◌, ℕ, zero, suc, ◌-◌, ◌<◌, List, slice_get, ap, arith}
use Rattle.dj_shape_rule.specs.declared.frames.KeptFrame.{KeptFrame}
use Rattle.dj_shape_rule.specs.Numbered.{frame_at}

pub frame_below : (kept : List KeptFrame) (place : ℕ) → 0 < place → frame_at kept place ≡ slice_get kept (place - 1)
frame_below kept zero some = absurd (omega (arith, some))
frame_below kept (suc k) some = ap (λ (n : ℕ). slice_get kept n) (omega arith)
