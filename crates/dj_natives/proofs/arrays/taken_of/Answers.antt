use Rattle.dj_natives.proofs.Copied.{moves_references, moves_others}
use Rattle.dj_natives.proofs.arrays.taken_of.Goals as goal

pub returns-in-Ref-clause-moved : goal.returns-in-Ref-clause-moved
returns-in-Ref-clause-moved g c = rw c.in-Ref.is
    (moves_references (g.C.Classes.program c.args.classes.now) (g.C.Classes.prefix c.args.classes.now) (g.C.Classes.types c.args.classes.now) c.args.heap.now c.args.copy c.taken_before.result c.taken_before.ensures.takes)

pub returns-in_default-clause-moved : goal.returns-in_default-clause-moved
returns-in_default-clause-moved g c =
    moves_others (g.C.Classes.program c.args.classes.now) (g.C.Classes.prefix c.args.classes.now) (g.C.Classes.types c.args.classes.now) c.args.heap.now c.args.element c.args.copy c.in_default.not-Ref
