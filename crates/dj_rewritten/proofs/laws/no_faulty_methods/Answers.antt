use Rattle.std.proofs.Common.{inl}
use Rattle.dj_rewritten.proofs.ReadBack.{linked}
use Rattle.dj_rewritten.proofs.Sound.{file_good}
use Rattle.dj_rewritten.proofs.laws.no_faulty_methods.Goals as goal

pub returns : goal.returns
returns c = λ program x y good r h. file_good program x y (linked x.pool good.valid.pool) (λ fault. good.whole (inl fault)) r h
