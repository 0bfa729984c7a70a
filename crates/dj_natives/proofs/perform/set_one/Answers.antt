use Rattle.std.proofs.Common.{[], ◌∷◌, ap, ◌∙◌}
use Rattle.dj_names.specs.declared.run.Value.TheVariants as values
use Rattle.dj_heap.specs.Heaps.{object_in}
use Rattle.dj_natives.specs.Calls.{set_in}
use Rattle.dj_natives.proofs.Performed.{one_value, sets_done}
use Rattle.dj_natives.proofs.perform.set_one.Goals as goal

pub returns : goal.returns
returns g c =
    sets_done (g.C.Classes.prefix c.args.classes.now) (g.C.Classes.types c.args.classes.now) c.args.heap.now c.set_field.new.heap c.args.object (values.Ref c.args.first ∷ [])
    (c.set_field.ensures ∙ ap (set_in c.args.heap.now c.args.object) (one_value (object_in c.args.heap.now c.args.object) c.args.first)) c.requires
