use Rattle.std.proofs.Common.{ap, ◌∙◌, Some}
use Rattle.dj_numbering.proofs.Wholes.{component_deep}
use Rattle.dj_numbering.proofs.arrays.component_text.Goals as goal

pub returns-then-dims-gt1 : goal.returns-then-dims-gt1
returns-then-dims-gt1 c =
    ap Some c.text_in.ensures ∙ component_deep c.args.table.now c.args.wholes.now c.args.shape.dims c.args.shape.of c.requires.spelled c.if-dims-gt1.true c.requires.few c.requires.element
