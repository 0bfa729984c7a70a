use Rattle.dj_natives.specs.Calls.{seen_of}
use Rattle.dj_natives.proofs.Groups.{none_is_answered}
use Rattle.dj_natives.proofs.Reported.{last_reported}
use Rattle.dj_natives.proofs.call.answer_of.Goals as goal

pub returns : goal.returns
returns g c =
    let program = g.C.Classes.program c.args.classes.now in
    let prefix = g.C.Classes.prefix c.args.classes.now in
    let types = g.C.Classes.types c.args.classes.now in
    let heap = seen_of program prefix types c.args.heap.now in
    last_reported c.args.id heap c.args.args.now c.on_objects.result
    (none_is_answered c.args.id (c.in_default.ensures heap) (c.in_default-on_numbers.ensures heap) (c.in_default-on_texts.ensures program prefix types)
    (c.in_default-making_text.ensures program prefix types) (c.in_default-on_builders.ensures program prefix types) (c.in_default-on_throwables.ensures program prefix types))
    c.on_objects.ensures
