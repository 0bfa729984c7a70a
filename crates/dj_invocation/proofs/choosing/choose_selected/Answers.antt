use Rattle.std.proofs.Common.{refl, subst, sym}
use Rattle.dj_model.specs.trusted.Performing.{class_at_number}
use Rattle.dj_model.specs.trusted.Linking.{select}
use Rattle.dj_image.specs.Imaged.{program_of, typed_of}
use Rattle.dj_numbering.specs.Members.{selected}
use Rattle.dj_invocation.specs.declared.choosing.Chosen.{Chosen}
use Rattle.dj_invocation.specs.Choosing.{IsThere, IsChosen, taken_method, virtual_choice}
use Rattle.dj_invocation.specs.Receivers.{typed_heap}
use Rattle.dj_invocation.proofs.Choices.{chosen_within, class_numbered, object_there, refused_chosen, fit_chosen, selected_reported}
use Rattle.dj_invocation.proofs.Found.{number_there}
use Rattle.dj_invocation.proofs.choosing.choose_selected.Goals as goal

pub returns-in-Some-clause-chosen : goal.returns-in-Some-clause-chosen
returns-in-Some-clause-chosen c = λ m resolved e there.
    refused_chosen (program_of c.args.image.now) c.args.image.now.prefix (typed_heap c.args.image.now c.args.heap.now.heap) c.args.r resolved.class c.in-Some.refused
    (c.in-Some.ensures.refused resolved there)
    (taken_method (select (program_of c.args.image.now) c.args.image.now.prefix resolved (class_at_number (typed_heap c.args.image.now c.args.heap.now.heap) c.args.r)))

pub class_of-requires : goal.class_of-requires
class_of-requires c = object_there c.args.heap.now c.args.r c.requires.object (c.in-None.ensures.some refl)

pub select-requires : goal.select-requires
select-requires c = record {
  there = c.requires.there;
  class = class_numbered c.args.image.now c.args.heap.now c.args.r c.class_of.result c.requires.numbered c.class_of.ensures;
}

pub returns-in-None-clause-there : goal.returns-in-None-clause-there
returns-in-None-clause-there c =
    subst (IsThere (program_of c.args.image.now)) (sym c.method_or_link.ensures)
    (chosen_within (program_of c.args.image.now) c.select.result
    (number_there (program_of c.args.image.now) c.select.result (selected (typed_of c.args.image.now) c.args.method.number c.class_of.result) c.select.ensures))

pub returns-in-None-clause-chosen : goal.returns-in-None-clause-chosen
returns-in-None-clause-chosen c = λ m resolved e there.
    subst (λ (x : Chosen). IsChosen (program_of c.args.image.now) x (virtual_choice (program_of c.args.image.now) c.args.image.now.prefix (typed_heap c.args.image.now c.args.heap.now.heap) resolved c.args.r))
    (sym c.method_or_link.ensures)
    (fit_chosen (program_of c.args.image.now) c.args.image.now.prefix (typed_heap c.args.image.now c.args.heap.now.heap) c.args.r resolved.class c.select.result
    (select (program_of c.args.image.now) c.args.image.now.prefix resolved (class_at_number (typed_heap c.args.image.now c.args.heap.now.heap) c.args.r))
    (c.in-None.ensures.refused resolved there)
    (selected_reported c.args.image.now c.args.heap.now.heap c.args.method m resolved c.args.r c.class_of.result c.select.result e there c.class_of.ensures c.select.ensures))
