use Rattle.std.proofs.Common.{sym}
use Rattle.dj_resolution.proofs.Chained.{next_within}
use Rattle.dj_resolution.proofs.Listed.{nothing_above}
use Rattle.dj_resolution.proofs.special.is_superclass.Goals as goal

pub returns-in_default : goal.returns-in_default
returns-in_default c = nothing_above c.args.table.now c.args.class c.args.other (sym c.in_default.ensures)

pub is_up-requires-clause-there : goal.is_up-requires-clause-there
is_up-requires-clause-there c = next_within c.args.table.now c.args.class c.in-Some.next (sym c.in-Some.ensures)
