use Rattle.std.proofs.Common.{refl, arith}
use Rattle.dj_frames.proofs.Tested.{stepwise_rises}
use Rattle.dj_frames.proofs.conditions.are_frames_rising.Goals as goal

pub returns : goal.returns
returns c =
    (λ t. stepwise_rises c.args.frames.now (λ k d lt. c.loop-index.invariant k d (omega (arith, lt, c.loop-index-test.false))), λ h. refl)
