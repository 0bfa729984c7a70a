use Rattle.std.proofs.Common.{List, take, sym, subst}
use Rattle.std.proofs.lemmas.List.{take_more}
use Rattle.dj_labels.specs.declared.labelled.Protected.{Protected}
use Rattle.dj_shape_rule.specs.Passing.{IsFirstUnhandled}
use Rattle.dj_shape_rule.proofs.pass.first_unhandled.Goals as goal

pub loop-row-preserved : goal.loop-row-preserved
loop-row-preserved c =
    let none : Protected = record { start = 0; end = 0; handler = 0; catch_type = 0 } in
    subst (λ (rows : List Protected). IsFirstUnhandled c.args.frames.now rows c.with_row-least.result) (sym (take_more c.args.rows.now c.loop-row.row-index none c.loop-row-test.true))
    (c.with_row-least.ensures (take c.loop-row.row-index c.args.rows.now) c.loop-row.invariant)
