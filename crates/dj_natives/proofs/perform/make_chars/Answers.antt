use Rattle.std.proofs.Common.{subst}
use Rattle.dj_model.specs.trusted.Natives as model
use Rattle.dj_natives.specs.Calls.{Done}
use Rattle.dj_natives.proofs.perform.make_chars.Goals as goal

pub returns : goal.returns
returns g c = subst (λ us. Done (g.C.Classes.prefix c.args.classes.now) (g.C.Classes.types c.args.classes.now) c.args.heap.now c.make_array.new.heap (model.MakesChars us) c.make_array.result) c.as_slice.ensures c.make_array.ensures
