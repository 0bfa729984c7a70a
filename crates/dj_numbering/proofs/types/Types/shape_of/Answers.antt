use Rattle.std.proofs.Common.{◌<◌, length, sym, ◌∙◌, ap, subst}
use Rattle.dj_numbering.specs.declared.shapes.ElementType.TheVariants as elements
use Rattle.dj_numbering.specs.Typed.{Typed, types_of}
use Rattle.dj_numbering.specs.Kept.{types_kept}
use Rattle.dj_numbering.proofs.Reported.{IsShapeAt, shape_of_array, shape_of_class}
use Rattle.dj_numbering.proofs.types.Types.shape_of.Goals as goal

array : (c : goal.After-result-1) → IsShapeAt c.args.self.now c.args.class c.index.result.now
array c =
    let kept = c.self.invariant.arrays_are in
    let lt = subst (λ (typed : Typed). c.args.class < length (types_of typed)) (sym c.self.view_is) c.requires in
    subst (λ (typed : Typed). IsShapeAt typed c.args.class c.index.result.now) c.self.view_is
    (shape_of_array (record { program = c.self.inside.linker.program; prefix = c.self.inside.linker.prefix; arrays = types_kept c.self.inside.linker.program c.self.inside.kept }) c.self.inside.kept.shapes.items kept.shapes kept.elements c.args.class c.class_count.result c.in-Some.array
    (c.class_count.ensures.count ∙ ap length c.classes.ensures) lt c.in-Some.ensures.0 c.in-Some.ensures.1 c.index.result.now c.index.ensures)

pub returns-in-Some-clause-is : goal.returns-in-Some-clause-is
returns-in-Some-clause-is c = (array c).is

pub returns-in-Some-clause-element : goal.returns-in-Some-clause-element
returns-in-Some-clause-element c = (array c).element

pub returns-in-None-clause-is : goal.returns-in-None-clause-is
returns-in-None-clause-is c =
    let shape = subst (λ (typed : Typed). IsShapeAt typed c.args.class (record { dims = 0; of = elements.Class c.args.class })) c.self.view_is
    (shape_of_class (record { program = c.self.inside.linker.program; prefix = c.self.inside.linker.prefix; arrays = types_kept c.self.inside.linker.program c.self.inside.kept }) c.args.class c.class_count.result (c.class_count.ensures.count ∙ ap length c.classes.ensures) c.in-None.ensures) in
    shape.is
