use Rattle.std.proofs.Common.{arith}
use Rattle.dj_resolution.proofs.Bits.{bits_among}
use Rattle.dj_resolution.proofs.words.has_bits.Goals as goal

pub returns : goal.returns
returns c _ = bits_among c.args.words.now c.args.others.now (λ k lt. c.loop-at.invariant k (omega (arith, lt, c.loop-at-test.false)))
