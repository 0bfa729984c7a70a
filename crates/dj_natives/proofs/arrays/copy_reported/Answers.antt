use Rattle.std.proofs.Common.{◌≡◌, ℕ, ◌≤◌, Some, None, sym, subst, ◌∙◌, arith}
use Rattle.dj_names.specs.declared.run.Raised.TheVariants as raises
use Rattle.dj_model.specs.trusted.Natives as model
use Rattle.dj_natives.specs.declared.answer.NativeAnswer.TheVariants as reported
use Rattle.dj_natives.specs.Calls.{Done}
use Rattle.dj_natives.specs.Seen.{elements_at, element_of}
use Rattle.dj_natives.proofs.CopyPlaces.{null_source, null_target, no_source}
use Rattle.dj_natives.proofs.Performed.{raises_done}
use Rattle.dj_natives.proofs.arrays.copy_reported.Goals as goal

pub returns-then-source-eq0 : goal.returns-then-source-eq0
returns-then-source-eq0 g c =
    subst (λ (a : model.Answer). Done (g.C.Classes.prefix c.args.classes.now) (g.C.Classes.types c.args.classes.now) c.args.heap.now c.args.heap.now a (reported.Raise raises.NullPointer))
    (sym (null_source (g.C.Classes.program c.args.classes.now) (g.C.Classes.prefix c.args.classes.now) (g.C.Classes.types c.args.classes.now) c.args.heap.now c.args.args.now (sym c.reference-source.ensures ∙ c.if-source-eq0.true))) (raises_done (g.C.Classes.prefix c.args.classes.now) (g.C.Classes.types c.args.classes.now) c.args.heap.now raises.NullPointer c.requires.known)

pub returns-then-target-eq0 : goal.returns-then-target-eq0
returns-then-target-eq0 g c =
    subst (λ (a : model.Answer). Done (g.C.Classes.prefix c.args.classes.now) (g.C.Classes.types c.args.classes.now) c.args.heap.now c.args.heap.now a (reported.Raise raises.NullPointer))
    (sym (null_target (g.C.Classes.program c.args.classes.now) (g.C.Classes.prefix c.args.classes.now) (g.C.Classes.types c.args.classes.now) c.args.heap.now c.args.args.now (sym c.reference-target.ensures ∙ c.if-target-eq0.true))) (raises_done (g.C.Classes.prefix c.args.classes.now) (g.C.Classes.types c.args.classes.now) c.args.heap.now raises.NullPointer c.requires.known)

pub returns-in-None : goal.returns-in-None
returns-in-None g c =
    subst (λ (a : model.Answer). Done (g.C.Classes.prefix c.args.classes.now) (g.C.Classes.types c.args.classes.now) c.args.heap.now c.args.heap.now a (reported.Raise raises.ArrayStore))
    (sym (no_source (g.C.Classes.program c.args.classes.now) (g.C.Classes.prefix c.args.classes.now) (g.C.Classes.types c.args.classes.now) c.args.heap.now c.args.args.now (λ z. c.if-source-eq0.false (c.reference-source.ensures ∙ z)) (λ z. c.if-target-eq0.false (c.reference-target.ensures ∙ z)) (subst (λ (r : ℕ). element_of (elements_at c.args.heap.now r) ≡ None) c.reference-source.ensures (sym c.in-None.ensures)))) (raises_done (g.C.Classes.prefix c.args.classes.now) (g.C.Classes.types c.args.classes.now) c.args.heap.now raises.ArrayStore c.requires.known)
