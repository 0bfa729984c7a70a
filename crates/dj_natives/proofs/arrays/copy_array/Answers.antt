use Rattle.std.proofs.Common.{refl}
use Rattle.dj_names.specs.declared.native.NativeId.TheVariants as natives
use Rattle.dj_model.specs.trusted.Natives.{answer, reference, number}
use Rattle.dj_natives.specs.Calls.{seen_of}
use Rattle.dj_natives.specs.Copies.{copy_answer}
use Rattle.dj_natives.proofs.Counted.{acts_done}
use Rattle.dj_natives.proofs.CopyAnswers.{copy_owes}
use Rattle.dj_natives.proofs.arrays.copy_array.Goals as goal

pub returns : goal.returns
unfolding answer
returns g c =
    acts_done (g.C.Classes.program c.args.classes.now) (g.C.Classes.prefix c.args.classes.now) (g.C.Classes.types c.args.classes.now) c.args.heap.now c.copy_reported.new.heap
    natives.ArrayCopy c.args.args.now
    (copy_answer (g.C.Classes.program c.args.classes.now) (g.C.Classes.prefix c.args.classes.now) (g.C.Classes.types c.args.classes.now) c.args.heap.now c.args.args.now)
    c.copy_reported.result refl refl
    (copy_owes (seen_of (g.C.Classes.program c.args.classes.now) (g.C.Classes.prefix c.args.classes.now) (g.C.Classes.types c.args.classes.now) c.args.heap.now)
    (reference 0 c.args.args.now) (number 1 c.args.args.now) (reference 2 c.args.args.now) (number 3 c.args.args.now) (number 4 c.args.args.now))
    c.copy_reported.ensures
