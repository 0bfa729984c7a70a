use Rattle.dj_natives.proofs.Performed.{few_units, filled, chars_refused}
use Rattle.dj_natives.proofs.perform.make_array.Goals as goal

pub returns-in-Ok-array : goal.returns-in-Ok-array
returns-in-Ok-array g c =
    filled (g.C.Classes.prefix c.args.classes.now) (g.C.Classes.types c.args.classes.now) c.chars.result c.args.units.now c.chars.ensures (few_units c.args.units.now c.type_inv.units) c.args.heap.now c.array.new.self c.fill.new.heap
    c.in-Ok-array.array c.in-Ok.length c.in-Ok.ensures.1 c.in-Ok-array.ensures.made c.fill.ensures c.requires

pub returns-in-Err : goal.returns-in-Err
returns-in-Err g c =
    chars_refused (g.C.Classes.prefix c.args.classes.now) (g.C.Classes.types c.args.classes.now) c.chars.result c.args.units.now c.chars.ensures (few_units c.args.units.now c.type_inv.units) c.args.heap.now c.array.new.self c.in-Ok.length c.in-Err.error
    c.refused.result c.in-Ok.ensures.1 c.refused.ensures c.in-Err.ensures.kept c.in-Err.ensures.refused c.requires
