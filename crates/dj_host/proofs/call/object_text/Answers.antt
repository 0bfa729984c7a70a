use Rattle.std.proofs.Common.{ap, ◌∙◌, FitsSigned, of_z, rules, w32}
use Rattle.std.proofs.lemmas.Int.{to_z-of_z}
use Rattle.dj_host.proofs.Taking.{text_called}
use Rattle.dj_host.proofs.call.object_text.Goals as goal

pub returns-in-Ok : goal.returns-in-Ok
returns-in-Ok g c =
    let fits : FitsSigned w32 c.in-Ok.word = search rules in
    text_called (g.C.Classes.program c.args.classes.now) (g.C.Classes.prefix c.args.classes.now) (g.C.Classes.types c.args.classes.now)
    c.args.heap.now c.make_object_text.new.heap (g.H.Host.given c.args.host.now) (g.H.Host.given c.hash_word.new.self) c.args.args.now c.make_object_text.result
    c.in-Ok.word c.reference.result c.cast_unsigned.result c.in-Ok.ensures c.reference.ensures
    (c.cast_unsigned.ensures ∙ ap (of_z w32) (to_z-of_z w32 c.in-Ok.word fits)) c.make_object_text.ensures
