use Rattle.std.proofs.Common.{◌≡◌, ◌<◌, None, length, sym, ◌∙◌, ap, subst}
use Rattle.dj_numbering.specs.Typed.{Typed, types_of, component_at}
use Rattle.dj_numbering.specs.Kept.{types_kept}
use Rattle.dj_numbering.proofs.Reported.{component_of_array, component_of_class}
use Rattle.dj_numbering.proofs.types.Types.component.Goals as goal

pub returns-in_err-array : goal.returns-in_err-array
returns-in_err-array c =
    c.from_residual.ensures ∙ subst (λ (typed : Typed). None ≡ component_at typed c.args.class) c.self.view_is
    (component_of_class (record { program = c.self.inside.linker.program; prefix = c.self.inside.linker.prefix; arrays = types_kept c.self.inside.linker.program c.self.inside.kept }) c.args.class c.class_count.result (c.class_count.ensures.count ∙ ap length c.classes.ensures) c.in_err-array.ensures)

pub returns : goal.returns
returns c =
    let kept = c.self.invariant.arrays_are in
    let lt = subst (λ (typed : Typed). c.args.class < length (types_of typed)) (sym c.self.view_is) c.requires in
    subst (λ (typed : Typed). c.index.result.now ≡ component_at typed c.args.class) c.self.view_is
    (component_of_array (record { program = c.self.inside.linker.program; prefix = c.self.inside.linker.prefix; arrays = types_kept c.self.inside.linker.program c.self.inside.kept }) c.self.inside.kept.components.items kept.components c.args.class c.class_count.result c.in_ok-array.array
    (c.class_count.ensures.count ∙ ap length c.classes.ensures) lt c.in_ok-array.ensures.0 c.in_ok-array.ensures.1 c.index.result.now c.index.ensures)
