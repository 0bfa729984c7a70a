use Rattle.std.proofs.Common.{[], ◌∷◌}
use Rattle.dj_names.specs.declared.run.Value.TheVariants as values
use Rattle.dj_natives.proofs.Performed.{two_values, sets_done}
use Rattle.dj_natives.proofs.perform.set_two.Goals as goal

pub returns : goal.returns
returns g c =
    sets_done (g.C.Classes.prefix c.args.classes.now) (g.C.Classes.types c.args.classes.now) c.args.heap.now c.set_field-2.new.heap c.args.object (values.Ref c.args.first ∷ values.Ref c.args.second ∷ [])
    (two_values c.args.heap.now c.set_field.new.heap c.set_field-2.new.heap c.args.object c.args.first c.args.second c.set_field.ensures c.set_field-2.ensures) c.requires
