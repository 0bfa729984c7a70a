use Rattle.std.proofs.Common.{subst}
use Rattle.dj_names.specs.declared.run.Value.TheVariants as values
use Rattle.dj_model.specs.trusted.Natives as model
use Rattle.dj_natives.specs.declared.answer.NativeAnswer.TheVariants as reported
use Rattle.dj_natives.specs.Calls.{Done}
use Rattle.dj_natives.proofs.Performed.{text_made, text_refused}
use Rattle.dj_natives.proofs.perform.make_text.Goals as goal

pub returns-in-Ok : goal.returns-in-Ok
returns-in-Ok g c =
    subst (λ us. Done (g.C.Classes.prefix c.args.classes.now) (g.C.Classes.types c.args.classes.now) c.args.heap.now c.text.new.self (model.MakesText us) (reported.Gives (values.Ref c.in-Ok.r))) c.as_slice.ensures
    (text_made (g.C.Classes.prefix c.args.classes.now) (g.C.Classes.types c.args.classes.now) c.string.result c.as_slice.result.now c.string.ensures c.args.heap.now c.text.new.self c.in-Ok.r c.in-Ok.ensures.made c.requires)

pub returns-in-Err : goal.returns-in-Err
returns-in-Err g c =
    subst (λ us. Done (g.C.Classes.prefix c.args.classes.now) (g.C.Classes.types c.args.classes.now) c.args.heap.now c.text.new.self (model.MakesText us) c.refused.result) c.as_slice.ensures
    (text_refused (g.C.Classes.prefix c.args.classes.now) (g.C.Classes.types c.args.classes.now) c.string.result c.as_slice.result.now c.string.ensures c.args.heap.now c.text.new.self c.in-Err.error c.refused.result
    c.refused.ensures c.in-Err.ensures.kept c.in-Err.ensures.refused c.requires)
