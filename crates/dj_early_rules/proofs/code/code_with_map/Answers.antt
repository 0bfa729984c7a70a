use Rattle.std.proofs.Common.{List, Option, None, subst}
use Rattle.dj_ops.specs.declared.rows.CatchRow.{CatchRow}
use Rattle.dj_labels.specs.declared.labelled.Labelling.{Labelling}
use Rattle.dj_early_rules.specs.Passes.{IsLabelling}
use Rattle.dj_early_rules.proofs.code.code_with_map.Goals as goal

pub returns-in-None : goal.returns-in-None
returns-in-None c =
    subst (λ (rows : List CatchRow). IsLabelling c.args.view.now.code.now rows None) c.as_slice.ensures
    (subst (λ (found : Option Labelling). IsLabelling c.args.view.now.code.now c.as_slice.result.now found) c.in-None.is c.in_ok-labelling.ensures)
