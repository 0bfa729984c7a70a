use Rattle.std.proofs.Common.{◌≡◌, ◌&&◌, ◌+◌, ◌-◌, Bool, drop, take, reverse, refl, ap, sym, subst, ◌∙◌, arith}
use Rattle.dj_names.specs.declared.descriptor.Kind.TheVariants as kinds
use Rattle.dj_names.specs.trusted.Values.{value_kind}
use Rattle.dj_model.specs.trusted.Members.{are_instances}
use Rattle.dj_stack.specs.Frames.{top_operands}
use Rattle.dj_image.specs.Imaged.{program_of, typed_of}
use Rattle.dj_invocation.specs.Natives.{IsClassOf}
use Rattle.dj_invocation.specs.Receivers.{typed_heap}
use Rattle.dj_invocation.proofs.References.{object_among}
use Rattle.dj_invocation.proofs.Instances.{next_argument, all_arguments}
use Rattle.dj_invocation.proofs.arguments.are_instances.Goals as goal

pub loop-at-init : goal.loop-at-init
loop-at-init c = λ types typed. refl

pub is_argument-requires : goal.is_argument-requires
is_argument-requires c = record {
  numbered = c.requires.numbered;
  object = object_among c.args.heap.now.heap (top_operands c.args.frames.now) c.args.count (c.args.count - 1 - c.loop-at.at) c.operand.result c.requires.objects (omega arith) c.operand.ensures;
}

pub returns-then-not-is_argument : goal.returns-then-not-is_argument
returns-then-not-is_argument c = λ types typed.
    let n = next_argument c.args.image.now (program_of c.args.image.now) c.args.image.now.prefix (typed_heap c.args.image.now c.args.heap.now.heap) (top_operands c.args.frames.now) c.args.count c.loop-at.at
    c.operand.result c.args.classes.now types typed c.requires.within c.loop-at-test.true c.operand.ensures in
    let rest : Bool = are_instances (program_of c.args.image.now) c.args.image.now.prefix (typed_heap c.args.image.now c.args.heap.now.heap) (drop (c.loop-at.at + 1) types)
    (drop (c.loop-at.at + 1) (reverse (take c.args.count (top_operands c.args.frames.now)))) in
    let reported = c.is_argument.ensures n.type (λ (reference : value_kind c.operand.result ≡ kinds.Ref). subst (IsClassOf (typed_of c.args.image.now) n.type) (sym c.class_at.ensures) (n.reported reference)) in
    ap (λ (b : Bool). b && rest) (sym c.if-not-is_argument.true ∙ reported) ∙ (sym n.is ∙ c.loop-at.invariant types typed)

pub loop-at-preserved : goal.loop-at-preserved
loop-at-preserved c = λ types typed.
    let n = next_argument c.args.image.now (program_of c.args.image.now) c.args.image.now.prefix (typed_heap c.args.image.now c.args.heap.now.heap) (top_operands c.args.frames.now) c.args.count c.loop-at.at
    c.operand.result c.args.classes.now types typed c.requires.within c.loop-at-test.true c.operand.ensures in
    let rest : Bool = are_instances (program_of c.args.image.now) c.args.image.now.prefix (typed_heap c.args.image.now c.args.heap.now.heap) (drop (c.loop-at.at + 1) types)
    (drop (c.loop-at.at + 1) (reverse (take c.args.count (top_operands c.args.frames.now)))) in
    let reported = c.is_argument.ensures n.type (λ (reference : value_kind c.operand.result ≡ kinds.Ref). subst (IsClassOf (typed_of c.args.image.now) n.type) (sym c.class_at.ensures) (n.reported reference)) in
    ap (λ (b : Bool). b && rest) (sym c.if-not-is_argument.false ∙ reported) ∙ (sym n.is ∙ c.loop-at.invariant types typed)

pub returns : goal.returns
returns c = λ types typed.
    sym (all_arguments c.args.image.now (program_of c.args.image.now) c.args.image.now.prefix (typed_heap c.args.image.now c.args.heap.now.heap) (top_operands c.args.frames.now) c.args.count c.loop-at.at
    c.args.classes.now types typed (omega arith))
    ∙ c.loop-at.invariant types typed
