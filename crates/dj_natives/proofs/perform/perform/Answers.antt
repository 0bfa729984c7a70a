use Rattle.std.proofs.Common.{subst, sym}
use Rattle.dj_model.specs.trusted.Natives as model
use Rattle.dj_natives.specs.Calls.{Done}
use Rattle.dj_natives.proofs.Performed.{returns_done, raises_done, adds_done}
use Rattle.dj_natives.proofs.perform.perform.Goals as goal

pub returns-in-Returns : goal.returns-in-Returns
returns-in-Returns g c = rw c.in-Returns.is
    (subst (Done (g.C.Classes.prefix c.args.classes.now) (g.C.Classes.types c.args.classes.now) c.args.heap.now c.args.heap.now (model.Returns c.in-Returns.value)) (sym c.returns.ensures)
    (returns_done (g.C.Classes.prefix c.args.classes.now) (g.C.Classes.types c.args.classes.now) c.args.heap.now c.in-Returns.value c.requires))

pub returns-in-Raises : goal.returns-in-Raises
returns-in-Raises g c = rw c.in-Raises.is (raises_done (g.C.Classes.prefix c.args.classes.now) (g.C.Classes.types c.args.classes.now) c.args.heap.now c.in-Raises.raised c.requires)

pub returns-in-Adds : goal.returns-in-Adds
returns-in-Adds g c = rw c.in-Adds.is (adds_done (g.C.Classes.prefix c.args.classes.now) (g.C.Classes.types c.args.classes.now) c.args.heap.now c.in-Adds.field-0.charge c.in-Adds.field-0.amount c.requires)
