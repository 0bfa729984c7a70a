use Rattle.std.proofs.Common.{◌≡◌, ℕ, ◌≤◌, Some, None, sym, subst, ◌∙◌, arith}
use Rattle.dj_names.specs.declared.run.Raised.TheVariants as raises
use Rattle.dj_model.specs.trusted.Natives as model
use Rattle.dj_natives.specs.declared.answer.NativeAnswer.TheVariants as reported
use Rattle.dj_natives.specs.Calls.{Done}
use Rattle.dj_natives.specs.Seen.{elements_at, element_of}
use Rattle.dj_natives.proofs.CopyPlaces.{not_null, no_target}
use Rattle.dj_natives.proofs.Performed.{raises_done}
use Rattle.dj_natives.proofs.arrays.copy_between.Goals as goal

pub returns-in-None : goal.returns-in-None
returns-in-None g c =
    subst (λ (a : model.Answer). Done (g.C.Classes.prefix c.args.classes.now) (g.C.Classes.types c.args.classes.now) c.args.heap.now c.args.heap.now a (reported.Raise raises.ArrayStore))
    (sym (no_target (g.C.Classes.program c.args.classes.now) (g.C.Classes.prefix c.args.classes.now) (g.C.Classes.types c.args.classes.now) c.args.heap.now c.args.args.now (not_null c.args.heap.now (model.reference 0 c.args.args.now) c.args.a c.requires.source) (λ z. omega (arith, c.requires.target, z)) c.args.a c.requires.source (subst (λ (r : ℕ). element_of (elements_at c.args.heap.now r) ≡ None) c.reference.ensures (sym c.in-None.ensures)))) (raises_done (g.C.Classes.prefix c.args.classes.now) (g.C.Classes.types c.args.classes.now) c.args.heap.now raises.ArrayStore c.requires.known)
