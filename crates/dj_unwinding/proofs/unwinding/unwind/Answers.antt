use Rattle.std.proofs.Common.{arith}
use Rattle.dj_numbering.specs.Typed.{type_at}
use Rattle.dj_image.specs.Imaged.{typed_of}
use Rattle.dj_unwinding.specs.declared.unwinding.Unwound.TheVariants as unwinds
use Rattle.dj_unwinding.proofs.Frames.{unwound_then, left_last}
use Rattle.dj_unwinding.proofs.unwinding.unwind.Goals as goal

pub returns-clause-reported : goal.returns-clause-reported
returns-clause-reported c =
    let image = c.args.image.now in
    let class = type_at (typed_of image) c.args.class in
    unwound_then image class c.args.exception c.args.frames.now c.loop-frames.frames c.loop-frames.frames unwinds.Threw c.loop-frames.invariant.same
    (left_last image class c.args.exception c.loop-frames.frames (omega (arith, c.depth.ensures, c.loop-frames-test.false)))
