use Rattle.std.proofs.Common.{subst}
use Rattle.dj_numbering.specs.Typed.{type_at}
use Rattle.dj_image.specs.Imaged.{typed_of}
use Rattle.dj_unwinding.specs.Unwinding.{IsUnwound}
use Rattle.dj_settling.proofs.ThrowLaws.{plain_class, threw_last, threw_out}
use Rattle.dj_settling.proofs.FrugalLaws.{never_out, never_threw}
use Rattle.dj_settling.proofs.throwing.throw.Goals as goal

pub returns-in-Init-clause-settles : goal.returns-in-Init-clause-settles
returns-in-Init-clause-settles c =
    let image = c.args.image.now in
    let class = c.class_of-class.result in
    threw_out image c.args.heap.now c.args.exceeded class c.args.exception c.in-Init.left c.args.frames.now c.unwind.new.frames c.end.result
    (plain_class image c.args.heap.now c.args.exception class c.are_settled.ensures c.requires.thrown c.class_of-class.ensures) c.requires.known c.class_of-class.ensures
    (subst (IsUnwound image (type_at (typed_of image) class) c.args.exception c.args.frames.now c.unwind.new.frames) c.in-Init.is c.in_ok-unwind.ensures.reported)
    c.in_ok-unwind.ensures.stand c.end.ensures

pub returns-in-Threw-clause-settles : goal.returns-in-Threw-clause-settles
returns-in-Threw-clause-settles c =
    let image = c.args.image.now in
    let class = c.class_of-class.result in
    threw_last image c.args.heap.now c.args.exceeded class c.args.exception c.args.frames.now c.unwind.new.frames c.end-in-Threw.result
    (plain_class image c.args.heap.now c.args.exception class c.are_settled.ensures c.requires.thrown c.class_of-class.ensures) c.requires.known c.class_of-class.ensures
    (subst (IsUnwound image (type_at (typed_of image) class) c.args.exception c.args.frames.now c.unwind.new.frames) c.in-Threw.is c.in_ok-unwind.ensures.reported)
    c.in_ok-unwind.ensures.stand c.end-in-Threw.ensures

pub returns-in-Init-clause-frugal : goal.returns-in-Init-clause-frugal
returns-in-Init-clause-frugal c = λ frugal.
    let image = c.args.image.now in
    let class = c.class_of-class.result in
    absurd (never_out image c.args.heap.now class c.args.exception c.args.frames.now c.unwind.new.frames c.class_of-class.ensures frugal c.in-Init.left
    (subst (IsUnwound image (type_at (typed_of image) class) c.args.exception c.args.frames.now c.unwind.new.frames) c.in-Init.is c.in_ok-unwind.ensures.reported))

pub returns-in-Threw-clause-frugal : goal.returns-in-Threw-clause-frugal
returns-in-Threw-clause-frugal c = λ frugal.
    let image = c.args.image.now in
    let class = c.class_of-class.result in
    absurd (never_threw image c.args.heap.now class c.args.exception c.args.frames.now c.unwind.new.frames c.class_of-class.ensures frugal
    (subst (IsUnwound image (type_at (typed_of image) class) c.args.exception c.args.frames.now c.unwind.new.frames) c.in-Threw.is c.in_ok-unwind.ensures.reported))
