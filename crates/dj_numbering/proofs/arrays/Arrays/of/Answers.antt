use Rattle.std.proofs.Common.{List, map, ap, ◌∙◌}
use Rattle.dj_names.specs.trusted.Types.{Name}
use Rattle.dj_numbering.specs.declared.shapes.Shape.{Shape}
use Rattle.dj_numbering.specs.Shapes.{shape_type}
use Rattle.dj_numbering.specs.Kept.{component_in, text_in}
use Rattle.dj_numbering.proofs.Wholes.{kept_all}
use Rattle.dj_numbering.proofs.arrays.Arrays.of.Goals as goal

pub returns-clause-kept : goal.returns-clause-kept
returns-clause-kept c =
    kept_all c.args.table.now (record { wholes = c.in_ok-wholes.wholes; shapes = c.args.shapes; components = c.in_ok-components.components })
    c.in_ok-wholes.ensures c.requires.arrays c.requires.elements c.requires.few
    (c.in_ok-components.ensures
    ∙ ap (λ (wholes : List Name). map (component_in c.args.table.now (map (text_in wholes) c.deref-2.result.now)) (map (shape_type c.args.table.now) c.deref-2.result.now)) c.deref.ensures.value
    ∙ ap (λ (shapes : List Shape). map (component_in c.args.table.now (map (text_in c.in_ok-wholes.wholes.items) shapes)) (map (shape_type c.args.table.now) shapes)) c.deref-2.ensures.value)
