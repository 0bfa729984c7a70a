use Rattle.dj_image.specs.Imaged.{program_of}
use Rattle.dj_invocation.specs.Receivers.{typed_heap}
use Rattle.dj_invocation.proofs.Instances.{object_of, argument_some, argument_none, argument_other}
use Rattle.dj_invocation.proofs.arguments.is_argument.Goals as goal

pub is_object-requires : goal.is_object-requires
is_object-requires c = record {
  numbered = c.requires.numbered;
  object = object_of c.args.heap.now.heap c.args.value c.in-Ref.r c.requires.object c.in-Ref.is;
}

pub returns-in-Some : goal.returns-in-Some
returns-in-Some c = λ ty reported.
    argument_some c.args.image.now (typed_heap c.args.image.now c.args.heap.now.heap) ty c.args.value c.args.class c.in-Ref.r c.in-Some.class c.is_object.result c.in-Ref.is c.in-Some.is reported
    c.is_object.ensures

pub returns-in-None : goal.returns-in-None
returns-in-None c = λ ty reported.
    argument_none c.args.image.now (typed_heap c.args.image.now c.args.heap.now.heap) ty c.args.value c.args.class c.in-Ref.r c.in-Ref.is c.in-None.is reported

pub returns-in_default : goal.returns-in_default
returns-in_default c = λ ty reported.
    argument_other (program_of c.args.image.now) c.args.image.now.prefix (typed_heap c.args.image.now c.args.heap.now.heap) ty c.args.value c.in_default.not-Ref
