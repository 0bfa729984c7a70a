use Rattle.std.proofs.Common.{◌≡◌, Some, true, false, ap, sym, ◌∙◌}
use Rattle.std.proofs.lemmas.Option.{same_Some}
use Rattle.dj_model.specs.trusted.Linking.{FoundMethod}
use Rattle.dj_image.specs.Imaged.{program_of, typed_of}
use Rattle.dj_invocation.specs.Receivers.{typed_heap}
use Rattle.dj_invocation.proofs.Choices.{class_numbered, class_known, null_refused, object_there, received_if}
use Rattle.dj_invocation.proofs.choosing.refuse.Goals as goal

pub class_of-requires : goal.class_of-requires
class_of-requires c = object_there c.args.heap.now c.args.r c.requires.object c.if-r-eq0.false

pub returns-then-r-eq0-clause-refused : goal.returns-then-r-eq0-clause-refused
returns-then-r-eq0-clause-refused c = λ found there.
    null_refused (program_of c.args.image.now) c.args.image.now.prefix (typed_heap c.args.image.now c.args.heap.now.heap) c.args.r found.class c.if-r-eq0.true

pub sub_type-requires : goal.sub_type-requires
sub_type-requires c = record {
  first = class_numbered c.args.image.now c.args.heap.now c.args.r c.class_of.result c.requires.numbered c.class_of.ensures;
  second = class_known (typed_of c.args.image.now) c.method.result.class c.method.ensures.found.class c.method.ensures.class;
}

pub returns-then-sub_type-clause-refused : goal.returns-then-sub_type-clause-refused
returns-then-sub_type-clause-refused c = λ found there.
    let same : c.method.ensures.found ≡ found = same_Some c.method.ensures.found found (sym c.method.ensures.there ∙ there) in
    received_if c.args.image.now c.args.heap.now.heap c.args.r c.class_of.result c.method.result.class found.class true c.if-r-eq0.false c.class_of.ensures
    (c.method.ensures.class ∙ ap (λ (f : FoundMethod). Some f.class) same) (sym c.if-sub_type.true ∙ c.sub_type.ensures)

pub returns-else-sub_type-clause-refused : goal.returns-else-sub_type-clause-refused
returns-else-sub_type-clause-refused c = λ found there.
    let same : c.method.ensures.found ≡ found = same_Some c.method.ensures.found found (sym c.method.ensures.there ∙ there) in
    received_if c.args.image.now c.args.heap.now.heap c.args.r c.class_of.result c.method.result.class found.class false c.if-r-eq0.false c.class_of.ensures
    (c.method.ensures.class ∙ ap (λ (f : FoundMethod). Some f.class) same) (sym c.if-sub_type.false ∙ c.sub_type.ensures)
