use Rattle.dj_ops.proofs.Decided.{no_instruction_where_refused}
use Rattle.dj_ops.proofs.laws.no_instruction_where_refused.Goals as goal

pub returns : goal.returns
returns c = no_instruction_where_refused
