use Rattle.std.proofs.Common.{sym, subst}
use Rattle.dj_names.specs.declared.run.Raised.TheVariants as raises
use Rattle.dj_model.specs.trusted.Natives as model
use Rattle.dj_natives.specs.declared.answer.NativeAnswer.TheVariants as reported
use Rattle.dj_natives.specs.Calls.{Done}
use Rattle.dj_natives.specs.Copies.{copy_answer}
use Rattle.dj_natives.proofs.Performed.{raises_done}
use Rattle.dj_natives.proofs.arrays.copy_places.Goals as goal

pub returns-in-Some : goal.returns-in-Some
returns-in-Some g c =
    c.copy_elements.ensures
    (copy_answer (g.C.Classes.program c.args.classes.now) (g.C.Classes.prefix c.args.classes.now) (g.C.Classes.types c.args.classes.now) c.args.heap.now c.args.args.now)
    (c.in-Some.ensures.1 (g.C.Classes.program c.args.classes.now) (g.C.Classes.prefix c.args.classes.now) (g.C.Classes.types c.args.classes.now))

pub returns-in-None : goal.returns-in-None
returns-in-None g c =
    subst (λ (a : model.Answer). Done (g.C.Classes.prefix c.args.classes.now) (g.C.Classes.types c.args.classes.now) c.args.heap.now c.args.heap.now a (reported.Raise raises.ArrayIndexOutOfBounds))
    (sym (c.in-None.ensures (g.C.Classes.program c.args.classes.now) (g.C.Classes.prefix c.args.classes.now) (g.C.Classes.types c.args.classes.now)))
    (raises_done (g.C.Classes.prefix c.args.classes.now) (g.C.Classes.types c.args.classes.now) c.args.heap.now raises.ArrayIndexOutOfBounds c.requires.known)
