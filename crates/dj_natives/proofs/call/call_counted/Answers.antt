use Rattle.std.proofs.Common.{Some, subst}
use Rattle.dj_natives.specs.Counting.{Counts, due_view}
use Rattle.dj_natives.specs.declared.answer.NativeAnswer.TheVariants as reported
use Rattle.dj_natives.proofs.Counted.{fine_calls, stop_calls_all}
use Rattle.dj_natives.proofs.call.call_counted.Goals as goal

pub returns-in-Fine : goal.returns-in-Fine
returns-in-Fine g c =
    fine_calls (g.C.Classes.program c.args.classes.now) (g.C.Classes.prefix c.args.classes.now) (g.C.Classes.types c.args.classes.now) c.args.heap.now c.finish.new.heap (due_view c.due.result) (Some c.args.accounter.now) (Some c.add_due.new.accounter)
    c.args.id c.args.args.now c.finish.result c.requires.arguments.asks c.requires.known c.answer_of-answer.result c.answer_of-answer.ensures c.due.ensures
    (subst (Counts (due_view c.due.result) (Some c.args.accounter.now) (Some c.add_due.new.accounter)) c.in-Fine.is c.add_due.ensures) c.finish.ensures

pub returns-in-Stop : goal.returns-in-Stop
returns-in-Stop g c =
    stop_calls_all (g.C.Classes.program c.args.classes.now) (g.C.Classes.prefix c.args.classes.now) (g.C.Classes.types c.args.classes.now) c.args.heap.now c.args.heap.now (due_view c.due.result) (Some c.args.accounter.now) (Some c.add_due.new.accounter)
    c.args.id c.args.args.now reported.Stop c.requires.arguments.asks c.requires.known c.answer_of-answer.result c.answer_of-answer.ensures c.due.ensures
    (subst (Counts (due_view c.due.result) (Some c.args.accounter.now) (Some c.add_due.new.accounter)) c.in-Stop.is c.add_due.ensures)
