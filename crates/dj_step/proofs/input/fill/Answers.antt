use Rattle.std.proofs.Common.{◌≡◌, ◌<◌, ◌∙◌, Some, length, get_or, arith, rules, w8, w64, FitsSigned}
use Rattle.std.proofs.lemmas.Int.{to_z-of_z}
use Rattle.std.specs.Prelude.{slice_get}
use Rattle.std.proofs.lemmas.Option.{slice_get-get_or}
use Rattle.dj_step.proofs.InputLaws.{byte_within, filled_all, filled_more}
use Rattle.dj_step.proofs.input.fill.Goals as goal

pub set_element-requires : goal.set_element-requires
set_element-requires c =
    let input = c.args.input.now in
    let at = c.loop-at.at in
    let lt : at < length input = omega (arith, c.loop-at-test.true, c.requires.count) in
    let got : slice_get input at ≡ Some (get_or input at 0) = slice_get-get_or input at 0 lt in
    byte_within input at (get_or input at 0) c.args.heap.now c.loop-at.heap c.requires.zeros got c.loop-at.invariant

pub loop-at-preserved : goal.loop-at-preserved
loop-at-preserved c =
    let input = c.args.input.now in
    let at = c.loop-at.at in
    let lt : at < length input = omega (arith, c.loop-at-test.true, c.requires.count) in
    let got : slice_get input at ≡ Some (get_or input at 0) = slice_get-get_or input at 0 lt in
    let wide : FitsSigned w64 c.from.result = search rules in
    let narrow : FitsSigned w8 c.cast_signed.result = search rules in
    filled_more input at (get_or input at 0) _ c.args.heap.now c.loop-at.heap c.set_element.new.self
    (to_z-of_z w64 c.from.result wide ∙ (c.from.ensures ∙ (to_z-of_z w8 c.cast_signed.result narrow ∙ c.cast_signed.ensures))) got (c.type_inv.input at) c.loop-at.invariant c.set_element.ensures

pub returns : goal.returns
returns c = filled_all c.args.input.now c.loop-at.at c.args.heap.now c.loop-at.heap (omega (arith, c.loop-at-test.false, c.requires.count)) c.loop-at.invariant
