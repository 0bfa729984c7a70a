use Rattle.dj_natives.proofs.HeapLaws.{set_there, set_lacking}
use Rattle.dj_natives.proofs.perform.set_field.Goals as goal

pub returns-in-Some : goal.returns-in-Some
returns-in-Some c =
    set_there c.args.heap.now c.set_field.new.self c.in-Some.n c.args.object c.args.at c.args.r c.from.result
    c.in-Some.ensures.0 c.in-Some.ensures.1 c.from.ensures c.set_field.ensures

pub returns-in-None : goal.returns-in-None
returns-in-None c = set_lacking c.args.heap.now c.args.object c.args.at c.args.r c.in-None.ensures
