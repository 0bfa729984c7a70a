use Rattle.std.proofs.Common.{◌≡◌, sym, ap, subst, ◌∙◌}
use Rattle.std.proofs.lemmas.Option.{same_Some}
use Rattle.dj_model.specs.trusted.Instructions.{Instruction}
use Rattle.dj_model.specs.trusted.Opcodes.{instruction_of}
use Rattle.dj_initialisation.specs.Store.{store}
use Rattle.dj_image_effects.specs.Acting.{machine}
use Rattle.dj_image_effects.specs.Frugal.{IsFrugal, makes}
use Rattle.dj_image_effects.proofs.OperandFacts.{all_done, beside, heap_is, if_ok_so, operand_used}
use Rattle.dj_image_effects.proofs.Resolved.{resolved}
use Rattle.dj_image_effects.proofs.by_number.act_settled.Goals as goal

pub act_with-requires-clause-beside : goal.act_with-requires-clause-beside
act_with-requires-clause-beside c =
    beside c.args.image.now c.args.places.now c.args.throwable c.args.method.number c.args.number (machine c.args.frames.now (store c.args.heap.now c.args.statics.now c.args.literals.now))
    c.requires.settled c.are_plain.ensures c.requires.ready

pub act_with-requires-clause-known : goal.act_with-requires-clause-known
act_with-requires-clause-known c = heap_is c.args.image.now c.args.heap.now c.requires.ready.known

pub act_with-requires-clause-used : goal.act_with-requires-clause-used
act_with-requires-clause-used c = (
  c.instr_of-instr.ensures.0,
  operand_used c.args.image.now c.args.places.now c.args.throwable c.args.method.number c.args.number (machine c.args.frames.now (store c.args.heap.now c.args.statics.now c.args.literals.now))
      c.requires.ready c.instr_of-instr.result.now c.instr_of-instr.ensures.0 c.instr_of-instr.ensures.1 c.operand-operand.result c.operand-operand.ensures,
)

pub returns-clause-done : goal.returns-clause-done
returns-clause-done c =
    if_ok_so c.act_with.result _ _
    (λ acted done. all_done c.args.image.now c.args.places.now c.args.throwable c.args.method.number c.args.number
    (machine c.args.frames.now (store c.args.heap.now c.args.statics.now c.args.literals.now)) c.requires.ready c.instr_of-instr.result.now c.instr_of-instr.ensures.0 c.instr_of-instr.ensures.1
    (machine c.act_with.new.frames (store c.act_with.new.heap c.act_with.new.statics c.act_with.new.literals)) acted done)
    (c.act_with.ensures.done c.instr_of-instr.ensures.0
    (operand_used c.args.image.now c.args.places.now c.args.throwable c.args.method.number c.args.number (machine c.args.frames.now (store c.args.heap.now c.args.statics.now c.args.literals.now))
    c.requires.ready c.instr_of-instr.result.now c.instr_of-instr.ensures.0 c.instr_of-instr.ensures.1 c.operand-operand.result c.operand-operand.ensures))

pub returns-clause-frugal : goal.returns-clause-frugal
returns-clause-frugal c = λ i reported known frugal.
    let at = c.instr_of-instr.ensures.1 in
    let same : instruction_of c.instr_of-instr.result.now c.instr_of-instr.ensures.0 ≡ i = same_Some (instruction_of c.instr_of-instr.result.now c.instr_of-instr.ensures.0) i (sym at.is ∙ reported) in
    let used =
    operand_used c.args.image.now c.args.places.now c.args.throwable c.args.method.number c.args.number (machine c.args.frames.now (store c.args.heap.now c.args.statics.now c.args.literals.now))
    c.requires.ready c.instr_of-instr.result.now c.instr_of-instr.ensures.0 at c.operand-operand.result c.operand-operand.ensures in
    c.act_with.ensures.frugal c.instr_of-instr.ensures.0 used
    (resolved c.args.image.now c.is_numbered.ensures c.args.method.number c.args.number c.instr_of-instr.result.now c.instr_of-instr.ensures.0 at known c.operand-operand.result used
    (ap makes same ∙ frugal.makes))
    (subst (λ (i : Instruction). IsFrugal c.args.image.now i (machine c.args.frames.now (store c.args.heap.now c.args.statics.now c.args.literals.now))) (sym same) frugal)
