use Rattle.std.proofs.Common.{sym}
use Rattle.dj_invocation.proofs.CallSites.{parameters_reported}
use Rattle.dj_invocation.proofs.site.parameters_at.Goals as goal

pub returns : goal.returns
returns c =
    parameters_reported c.args.code.now c.args.kinds.now c.args.number c.in_ok-instr.instr.now c.in_ok-index.index c.parameters_named.result (sym c.in_ok-instr.ensures) (sym c.in_ok-index.ensures)
    c.parameters_named.ensures
