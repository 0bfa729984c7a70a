use Rattle.std.proofs.Common.{◌≡◌, ℕ, ◌≤◌, Some, None, sym, subst, ◌∙◌, arith, rules}
use Rattle.dj_names.specs.declared.run.Raised.TheVariants as raises
use Rattle.dj_model.specs.trusted.Natives as model
use Rattle.dj_natives.specs.declared.answer.NativeAnswer.TheVariants as reported
use Rattle.dj_natives.specs.Calls.{Done}
use Rattle.dj_natives.specs.Seen.{elements_at, element_of}
use Rattle.dj_natives.proofs.CopyPlaces.{not_null, other_elements}
use Rattle.dj_natives.proofs.Performed.{raises_done}
use Rattle.dj_natives.proofs.arrays.copy_like.Goals as goal

pub returns-else-eq : goal.returns-else-eq
returns-else-eq g c =
    let apart : c.args.a ≡ c.args.b → ⊥ = search rules in
    subst (λ (a : model.Answer). Done (g.C.Classes.prefix c.args.classes.now) (g.C.Classes.types c.args.classes.now) c.args.heap.now c.args.heap.now a (reported.Raise raises.ArrayStore))
    (sym (other_elements (g.C.Classes.program c.args.classes.now) (g.C.Classes.prefix c.args.classes.now) (g.C.Classes.types c.args.classes.now) c.args.heap.now c.args.args.now (not_null c.args.heap.now (model.reference 0 c.args.args.now) c.args.a c.requires.source) (not_null c.args.heap.now (model.reference 2 c.args.args.now) c.args.b c.requires.target) c.args.a c.args.b c.requires.source c.requires.target apart)) (raises_done (g.C.Classes.prefix c.args.classes.now) (g.C.Classes.types c.args.classes.now) c.args.heap.now raises.ArrayStore c.requires.known)
