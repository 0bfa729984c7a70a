use Rattle.std.proofs.Common.{length}
use Rattle.dj_numbering.specs.Typed.{type_at}
use Rattle.dj_image.specs.Imaged.{typed_of}
use Rattle.dj_current_method.specs.Activations.{AreActivations}
use Rattle.dj_unwinding.specs.Unwinding.{GoesOn}
use Rattle.dj_unwinding.proofs.unwinding.unwind.Given as goal

abbrev pub invariant-loop-frames : goal.invariant-loop-frames
invariant-loop-frames l = record {
  stand : AreActivations l.image l.frames;
  same : GoesOn l.image (type_at (typed_of l.image) l.class) l.exception l.initial.frames l.frames;
}

abbrev pub decreases-loop-frames : goal.decreases-loop-frames
decreases-loop-frames l = length l.frames
