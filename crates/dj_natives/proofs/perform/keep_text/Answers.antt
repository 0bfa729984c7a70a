use Rattle.std.proofs.Common.{subst}
use Rattle.dj_names.specs.declared.run.Value.TheVariants as values
use Rattle.dj_model.specs.trusted.Natives as model
use Rattle.dj_natives.specs.declared.answer.NativeAnswer.TheVariants as reported
use Rattle.dj_natives.specs.Calls.{Done}
use Rattle.dj_natives.proofs.Performed.{kept_made, kept_refused}
use Rattle.dj_natives.proofs.perform.keep_text.Goals as goal

pub returns-in-Ok : goal.returns-in-Ok
returns-in-Ok g c =
    subst (λ us. Done (g.C.Classes.prefix c.args.classes.now) (g.C.Classes.types c.args.classes.now) c.args.heap.now c.set_field.new.heap (model.KeepsText c.args.object us) (reported.Gives (values.Ref c.args.object))) c.as_slice.ensures
    (kept_made (g.C.Classes.prefix c.args.classes.now) (g.C.Classes.types c.args.classes.now) c.string.result c.as_slice.result.now c.string.ensures c.args.heap.now c.text.new.self c.set_field.new.heap c.args.object c.in-Ok.text
    c.in-Ok.ensures.made c.set_field.ensures c.requires)

pub returns-in-Err : goal.returns-in-Err
returns-in-Err g c =
    subst (λ us. Done (g.C.Classes.prefix c.args.classes.now) (g.C.Classes.types c.args.classes.now) c.args.heap.now c.text.new.self (model.KeepsText c.args.object us) c.refused.result) c.as_slice.ensures
    (kept_refused (g.C.Classes.prefix c.args.classes.now) (g.C.Classes.types c.args.classes.now) c.string.result c.as_slice.result.now c.string.ensures c.args.heap.now c.text.new.self c.args.object c.in-Err.error c.refused.result
    c.refused.ensures c.in-Err.ensures.kept c.in-Err.ensures.refused c.requires)
