use Rattle.std.proofs.Common.{sym}
use Rattle.dj_current_method.proofs.InstructionFacts.{instr_reported, no_instr}
use Rattle.dj_current_method.proofs.instructions.instr_of.Goals as goal

pub unreachable-requires-in-None : goal.unreachable-requires-in-None
unreachable-requires-in-None c = no_instr c.args.image.now c.args.method.number c.args.number c.in-Some.code.now c.in-Some.ensures c.requires.stands c.in-None.ensures

pub returns : goal.returns
returns c =
    instr_reported c.args.image.now c.args.method.number c.args.number c.in-Some.code.now c.in-Some.ensures c.in-Some-instr_in.instr.now (sym c.in-Some-instr_in.ensures)
