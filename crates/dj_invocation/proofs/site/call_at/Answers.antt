use Rattle.std.proofs.Common.{refl, sym}
use Rattle.dj_image.specs.declared.operand.Operand.TheVariants as operands
use Rattle.dj_current_method.proofs.InstructionFacts.{has_instr}
use Rattle.dj_invocation.proofs.CallSites.{call_there}
use Rattle.dj_invocation.proofs.site.call_at.Goals as goal

pub operand-requires : goal.operand-requires
operand-requires c = has_instr c.args.image.now c.args.caller.number c.args.number c.instr_of.result.now c.instr_of.ensures.0 c.instr_of.ensures.1.stands

pub returns : goal.returns
returns c = record {
  calls = call_there c.args.image.now c.requires.sound.formed c.args.caller.number c.args.number c.instr_of.result.now c.instr_of.ensures.0 c.instr_of.ensures.1
      (operands.Method c.in-Method.method) c.in-Method.ensures c.in_ok-parts.parts c.in_ok-parts.ensures
      (record { mode = c.in_ok-mode.mode; method = c.in-Method.method; kinds = c.in_ok-kinds.kinds }) (sym c.in_ok-mode.ensures) refl c.in_ok-kinds.ensures;
}
