use Rattle.dj_ops.proofs.Decided.{instruction_or_refusal}
use Rattle.dj_ops.proofs.laws.instruction_or_refusal.Goals as goal

pub returns : goal.returns
returns c = instruction_or_refusal
