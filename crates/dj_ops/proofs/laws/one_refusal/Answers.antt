use Rattle.dj_ops.proofs.Decided.{one_refusal}
use Rattle.dj_ops.proofs.laws.one_refusal.Goals as goal

pub returns : goal.returns
returns c = one_refusal
