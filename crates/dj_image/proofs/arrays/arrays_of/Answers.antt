use Rattle.std.proofs.Common.{map, sym, ap, subst, ◌∙◌}
use Rattle.std.specs.Map.{values_of}
use Rattle.dj_model.specs.trusted.Program.{Program}
use Rattle.dj_numbering.specs.Shapes.{shape_in}
use Rattle.dj_image.proofs.ArrayFacts.{tops_known, are_arrays, are_elements, numbered_rows, ok_gives}
use Rattle.dj_image.specs.ArrayRows.{AreAllKnown, first_wholes}
use Rattle.dj_image.proofs.Wholes.{class_step, classes_done, item_pool}
use Rattle.dj_image.proofs.arrays.arrays_of.Goals as goal

pub add_class-requires-clause-fit : goal.add_class-requires-clause-fit
add_class-requires-clause-fit c = item_pool c.args.linker.now.program c.args.parts.now c.loop-class.class-index c.class-item.result c.requires c.loop-class-test.true c.class-item.is

pub loop-class-preserved : goal.loop-class-preserved
loop-class-preserved c =
    class_step c.args.linker.now.program c.args.parts.now c.loop-class.class-index c.class-item.result c.class-item.result first_wholes c.add_class.new.rows c.loop-class-test.true c.class-item.is (c.in_ok-add_class.ensures.rows _ c.loop-class.invariant)

pub tops_in-requires : goal.tops_in-requires
tops_in-requires c =
    let are = classes_done c.args.linker.now.program c.args.parts.now c.loop-class.class-index first_wholes c.loop-class.rows c.loop-class-test.false c.loop-class.invariant in
    subst (λ (program : Program). AreAllKnown program (values_of c.loop-class.rows.entries)) (sym c.classes.ensures) (tops_known c.args.linker.now.program c.args.parts.now c.loop-class.rows are c.len-few.ensures.ordered)

pub returns-clause-arrays : goal.returns-clause-arrays
returns-clause-arrays c =
    let are = classes_done c.args.linker.now.program c.args.parts.now c.loop-class.class-index first_wholes c.loop-class.rows c.loop-class-test.false c.loop-class.invariant in
    ok_gives c.levels_of.result _ _ c.levels_of.ensures (λ arrays is. are_arrays c.args.linker.now.program c.args.parts.now c.loop-class.rows are c.len-few.ensures.ordered arrays.items c.deref.result.now is (c.deref.ensures.value ∙ c.in_ok-tops.ensures ∙ ap (λ (program : Program). map (shape_in program) (values_of c.loop-class.rows.entries)) c.classes.ensures))

pub returns-clause-elements : goal.returns-clause-elements
returns-clause-elements c =
    let are = classes_done c.args.linker.now.program c.args.parts.now c.loop-class.class-index first_wholes c.loop-class.rows c.loop-class-test.false c.loop-class.invariant in
    ok_gives c.levels_of.result _ _ c.levels_of.ensures (λ arrays is. are_elements c.args.linker.now.program c.args.parts.now c.loop-class.rows are c.len-few.ensures.ordered arrays.items c.deref.result.now is (c.deref.ensures.value ∙ c.in_ok-tops.ensures ∙ ap (λ (program : Program). map (shape_in program) (values_of c.loop-class.rows.entries)) c.classes.ensures))

pub returns-clause-numbered : goal.returns-clause-numbered
returns-clause-numbered c =
    let are = classes_done c.args.linker.now.program c.args.parts.now c.loop-class.class-index first_wholes c.loop-class.rows c.loop-class-test.false c.loop-class.invariant in
    λ ty. ok_gives c.levels_of.result _ _ c.levels_of.ensures (λ arrays is. numbered_rows c.args.linker.now.program c.args.parts.now c.loop-class.rows are c.len-few.ensures.ordered arrays.items c.deref.result.now is (c.deref.ensures.value ∙ c.in_ok-tops.ensures ∙ ap (λ (program : Program). map (shape_in program) (values_of c.loop-class.rows.entries)) c.classes.ensures) ty)
