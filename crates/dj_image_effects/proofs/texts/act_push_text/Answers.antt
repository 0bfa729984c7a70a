use Rattle.std.proofs.Common.{Some}
use Rattle.dj_numbering.specs.Typed.{types_of}
use Rattle.dj_image.specs.Imaged.{typed_of}
use Rattle.dj_image_effects.proofs.KnownHeaps.{text_known}
use Rattle.dj_image_effects.proofs.Pushing.{string_within, text_on_literals}
use Rattle.dj_image_effects.proofs.texts.act_push_text.Goals as goal

pub returns-clause-done : goal.returns-clause-done
returns-clause-done c = λ units spells.
    text_on_literals c.args.image.now c.args.frames.now c.push_text.new.frames c.args.heap.now c.push_text.new.heap c.args.literals.now c.push_text.new.literals c.string-string.result c.args.text
    units c.text.result.now c.in_ok-flow.flow c.flow_acted.result c.flow_acted.ensures c.requires.texts c.requires.within c.string-string.ensures c.text.ensures spells c.in_ok-flow.ensures

pub returns-clause-known : goal.returns-clause-known
returns-clause-known c =
    text_known (types_of (typed_of c.args.image.now)) (Some c.args.heap.now.limit) c.string-string.result c.args.text c.text.result.now c.args.frames.now c.push_text.new.frames c.args.heap.now c.push_text.new.heap
    c.args.literals.now c.push_text.new.literals c.in_ok-flow.flow c.requires.known (string_within c.args.image.now c.string-string.result c.string-string.ensures) c.in_ok-flow.ensures
