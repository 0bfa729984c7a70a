use Rattle.std.proofs.Common.{sym, ◌∙◌, arith}
use Rattle.dj_invocation.proofs.Choices.{class_numbered, object_there, instance_typed}
use Rattle.dj_invocation.proofs.Instances.{argument_reported, past_types}
use Rattle.dj_invocation.proofs.arguments.is_object.Goals as goal

pub returns-then-r-eq0 : goal.returns-then-r-eq0
returns-then-r-eq0 c = λ ty named. argument_reported c.args.image.now c.args.heap.now.heap ty c.args.r c.if-r-eq0.true

pub returns-then-class_count-class : goal.returns-then-class_count-class
returns-then-class_count-class c = λ ty named. absurd (past_types c.args.image.now c.args.class ty (omega (arith, c.class_count.ensures)) named)

pub class_of-requires : goal.class_of-requires
class_of-requires c = object_there c.args.heap.now c.args.r c.requires.object c.if-r-eq0.false

pub sub_type-requires : goal.sub_type-requires
sub_type-requires c = record {
  first = class_numbered c.args.image.now c.args.heap.now c.args.r c.class_of.result c.requires.numbered c.class_of.ensures;
  second = omega (arith, c.class_count.ensures);
}

pub returns : goal.returns
returns c = λ ty named.
    c.sub_type.ensures ∙ sym (instance_typed c.args.image.now c.args.heap.now.heap c.args.r c.class_of.result c.args.class ty c.if-r-eq0.false c.class_of.ensures named)
