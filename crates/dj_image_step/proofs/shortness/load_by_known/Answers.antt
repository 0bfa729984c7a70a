use Rattle.std.proofs.Common.{◌≡◌, List, Some, sym, ap, subst, ◌∙◌, arith}
use Rattle.std.specs.Prelude.{slice_get}
use Rattle.std.proofs.lemmas.Option.{slice_get-get_or, slice_get_within}
use Rattle.dj_ops.specs.declared.instruction.Instr.{Instr}
use Rattle.dj_image_step.specs.Short.{LoadByKnown}
use Rattle.dj_image_step.proofs.ShortTables.{one_load}
use Rattle.dj_image_step.proofs.shortness.load_by_known.Goals as goal

pub loop-instr-init : goal.loop-instr-init
loop-instr-init c = λ number op index less at. absurd (omega (arith, less))

pub loop-instr-preserved : goal.loop-instr-preserved
loop-instr-preserved c =
    let items = c.as_slice-instr-items.result.now in
    one_load items c.loop-instr.instr-index c.instr-item.result (slice_get-get_or items c.loop-instr.instr-index c.instr-item.result c.loop-instr-test.true ∙ ap Some (sym c.instr-item.is))
    (sym c.is_known_load.ensures ∙ c.if-not-is_known_load.false) c.loop-instr.invariant

pub returns : goal.returns
returns c = λ all. subst LoadByKnown c.as_slice-instr-items.ensures (λ number op index at.
    let within = slice_get_within c.as_slice-instr-items.result.now number _ at in
    c.loop-instr.invariant number op index (omega (arith, within, c.loop-instr-test.false)) at)
