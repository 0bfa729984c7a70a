use Rattle.std.proofs.Common.{refl}
use Rattle.dj_library.proofs.library.rows.Goals as goal

pub returns-clause-deterministic : goal.returns-clause-deterministic
returns-clause-deterministic c = refl

pub returns-clause-raw : goal.returns-clause-raw
returns-clause-raw c = refl

pub returns-clause-heads : goal.returns-clause-heads
returns-clause-heads c = refl

pub returns-clause-raw_heads : goal.returns-clause-raw_heads
returns-clause-raw_heads c = refl

pub returns-clause-sandboxed : goal.returns-clause-sandboxed
returns-clause-sandboxed c = refl
