use Rattle.dj_model.specs.trusted.Linking.{special_method}
use Rattle.dj_resolution.specs.Linked.{class_name}
use Rattle.dj_image.specs.Imaged.{program_of}
use Rattle.dj_invocation.specs.Receivers.{typed_heap}
use Rattle.dj_invocation.proofs.Choices.{asked_within, chosen_within, special_refused, special_fit}
use Rattle.dj_invocation.proofs.choosing.choose_special.Goals as goal
use Rattle.std.proofs.Common.{subst, sym}
use Rattle.dj_invocation.specs.declared.choosing.Chosen.{Chosen}
use Rattle.dj_invocation.specs.Choosing.{IsThere, IsChosen, special_choice}

pub refuse-requires-clause-there : goal.refuse-requires-clause-there
refuse-requires-clause-there c =
    asked_within (program_of c.args.image.now) c.args.method c.unwrap_or.result c.special-found.result c.unwrap_or.ensures c.special-found.ensures.there c.requires.there

pub returns-in-Some-clause-chosen : goal.returns-in-Some-clause-chosen
returns-in-Some-clause-chosen c = λ m resolved e there.
    special_refused (program_of c.args.image.now) c.args.image.now.prefix (typed_heap c.args.image.now c.args.heap.now.heap) c.args.r c.args.method c.unwrap_or.result c.special-found.result resolved
    (special_method (program_of c.args.image.now) (class_name (program_of c.args.image.now) c.args.own) resolved) c.in-Some.refused c.unwrap_or.ensures (c.special-found.ensures.taken m resolved e there) there
    c.in-Some.ensures.refused

pub returns-in-None-clause-there : goal.returns-in-None-clause-there
returns-in-None-clause-there c =
    subst (IsThere (program_of c.args.image.now)) (sym c.method_or_link.ensures) (chosen_within (program_of c.args.image.now) c.special-found.result c.special-found.ensures.there)

pub returns-in-None-clause-chosen : goal.returns-in-None-clause-chosen
returns-in-None-clause-chosen c = λ m resolved e there.
    subst (λ (x : Chosen). IsChosen (program_of c.args.image.now) x (special_choice (program_of c.args.image.now) c.args.image.now.prefix (typed_heap c.args.image.now c.args.heap.now.heap) resolved c.args.r
    (special_method (program_of c.args.image.now) (class_name (program_of c.args.image.now) c.args.own) resolved))) (sym c.method_or_link.ensures)
    (special_fit (program_of c.args.image.now) c.args.image.now.prefix (typed_heap c.args.image.now c.args.heap.now.heap) c.args.r c.args.method c.unwrap_or.result c.special-found.result resolved
    (special_method (program_of c.args.image.now) (class_name (program_of c.args.image.now) c.args.own) resolved) c.unwrap_or.ensures (c.special-found.ensures.taken m resolved e there) there
    c.in-None.ensures.refused)
