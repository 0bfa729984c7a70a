use Rattle.std.proofs.Common.{refl}
use Rattle.dj_library.proofs.library.sandbox_rows.Goals as goal

pub returns : goal.returns
returns c = refl
