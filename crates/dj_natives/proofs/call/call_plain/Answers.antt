use Rattle.std.proofs.Common.{None}
use Rattle.dj_natives.proofs.Counted.{fine_calls, plain_due, is_plain, counts_none}
use Rattle.dj_natives.proofs.call.call_plain.Goals as goal

pub returns : goal.returns
returns g c =
    fine_calls (g.C.Classes.program c.args.classes.now) (g.C.Classes.prefix c.args.classes.now) (g.C.Classes.types c.args.classes.now) c.args.heap.now c.finish.new.heap (plain_due c.answer_of-answer.result) None None
    c.args.id c.args.args.now c.finish.result c.requires.arguments.asks c.requires.known c.answer_of-answer.result c.answer_of-answer.ensures (is_plain c.answer_of-answer.result)
    (counts_none (plain_due c.answer_of-answer.result)) c.finish.ensures
