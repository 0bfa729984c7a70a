use Rattle.std.proofs.Common.{◌≡◌, ◌∙◌, ◌∷◌, [], ℕ, List, Some, None, map, replicate, ap, sym, subst}
use Rattle.dj_ops.specs.declared.instruction.Instr.{Instr}
use Rattle.dj_ops.specs.declared.frames.Frame.{Frame}
use Rattle.dj_program.specs.trusted.Naming.{instruction_in}
use Rattle.dj_program.specs.trusted.Codes.{code_in}
use Rattle.dj_model.specs.trusted.Instructions.{makes_uninitialised}
use Rattle.dj_program.specs.Views.{parts_of}
use Rattle.dj_model.specs.trusted.Kinds.{entry_slots}
use Rattle.dj_shape_rule.specs.Listed.{AreFew}
use Rattle.dj_shape_rule.specs.Reading.{signature_with}
use Rattle.dj_shape_rule.proofs.Works.{ok_more}
use Rattle.dj_shape_rule.proofs.Judging.{unfit, unfit_fault, fit_and_first, slots_same, in_code, err_fault, ok_fault, few_read}
use Rattle.dj_shape_rule.proofs.judge.fault_with_frames.Goals as goal

pub returns-in_default : goal.returns-in_default
returns-in_default c = λ pool are has.
    let signature = signature_with c.args.is_static c.args.call.now in
    let code = code_in pool (parts_of c.args.code.now) in
    let parts = in_code pool c.args.code.now in
    let slots = c.deref.ensures.value ∙ c.in_ok-copy_locals.ensures ∙ ap entry_slots (c.in_ok-reader.ensures.entries ∙ c.in_ok-entries.ensures) ∙ slots_same signature.parameters in
    let long = rw c.in_default.is at c.in_ok-state.ensures in
    unfit_fault signature code c.args.frames.now (parts.4 ∙ has) (unfit signature code c.args.code.now.max_locals c.deref.result.now slots (sym parts.1) long)

pub judge-requires-clause-one : goal.judge-requires-clause-one
judge-requires-clause-one c =
    let begun = rw c.in-Some.is at c.in_ok-state.ensures in
    subst (λ (n : ℕ). c.in-Some.state.frames ≡ replicate n None ∷ []) (sym begun.locals_room) begun.frames

pub judge-requires-clause-none : goal.judge-requires-clause-none
judge-requires-clause-none c = let begun = rw c.in-Some.is at c.in_ok-state.ensures in begun.states

pub judge-requires-clause-few : goal.judge-requires-clause-few
judge-requires-clause-few c =
    let begun = rw c.in-Some.is at c.in_ok-state.ensures in
    let read = rw c.in-Ok.is at c.in_ok-at.ensures in
    subst (AreFew c.in-Ok.reported) (sym begun.locals_room) (few_read c.args.code.now.max_stack c.args.code.now.max_locals read.0 c.in-Ok.reported read.2)

pub returns-in-Err : goal.returns-in-Err
returns-in-Err c = λ pool are has.
    let signature = signature_with c.args.is_static c.args.call.now in
    let code = code_in pool (parts_of c.args.code.now) in
    let parts = in_code pool c.args.code.now in
    let slots = c.deref.ensures.value ∙ c.in_ok-copy_locals.ensures ∙ ap entry_slots (c.in_ok-reader.ensures.entries ∙ c.in_ok-entries.ensures) ∙ slots_same signature.parameters in
    let begun = rw c.in-Some.is at c.in_ok-state.ensures in
    let fit = fit_and_first signature code c.args.code.now.max_locals c.deref.result.now slots (sym parts.1) begun.few in
    let made = c.objects_made-made.ensures pool are ∙ ap (λ (l : List Instr). map (λ i. makes_uninitialised (instruction_in pool i)) l) c.as_slice-instrs.ensures in
    let list = has ∙ ap (λ (l : List Frame). Some l) (sym c.as_slice.ensures) in
    err_fault pool c.args.code.now signature c.objects_made-made.result c.in_ok-reader.reader.entries.items c.as_slice.result.now list made (c.in_ok-reader.ensures.entries ∙ c.in_ok-entries.ensures) fit.0 c.in-Err.at
    (rw c.in-Err.is at c.in_ok-at.ensures)

pub returns : goal.returns
returns c = ok_more c.judge.result _ _ (λ fault judged pool are has.
    let signature = signature_with c.args.is_static c.args.call.now in
    let code = code_in pool (parts_of c.args.code.now) in
    let parts = in_code pool c.args.code.now in
    let slots = c.deref.ensures.value ∙ c.in_ok-copy_locals.ensures ∙ ap entry_slots (c.in_ok-reader.ensures.entries ∙ c.in_ok-entries.ensures) ∙ slots_same signature.parameters in
    let begun = rw c.in-Some.is at c.in_ok-state.ensures in
    let fit = fit_and_first signature code c.args.code.now.max_locals c.deref.result.now slots (sym parts.1) begun.few in
    let made = c.objects_made-made.ensures pool are ∙ ap (λ (l : List Instr). map (λ i. makes_uninitialised (instruction_in pool i)) l) c.as_slice-instrs.ensures in
    let list = has ∙ ap (λ (l : List Frame). Some l) (sym c.as_slice.ensures) in
    ok_fault pool c.args.code.now signature c.objects_made-made.result c.in_ok-reader.reader.entries.items c.as_slice.result.now list made (c.in_ok-reader.ensures.entries ∙ c.in_ok-entries.ensures) fit.0
    c.args.kinds.now c.result.result c.in-Ok.reported c.in-Some.state fault are c.result.ensures
    (begun.stack_room ∙ sym parts.0, begun.locals_room ∙ sym parts.1) (begun.kinds ∙ fit.1) (rw c.in-Ok.is at c.in_ok-at.ensures) judged)
    c.judge.ensures
