use Rattle.std.proofs.Common.{◌≡◌, IfOk, subst}
use Rattle.dj_names.specs.trusted.Library.{raw_library}
use Rattle.dj_library_types.specs.Views.{library_view}
use Rattle.dj_loader_tests.proofs.Libraries.{raw_small}
use Rattle.dj_loader_tests.proofs.set.raw_library.Goals as goal

pub returns-in-Ok : goal.returns-in-Ok
returns-in-Ok c = raw_small c.in-Ok.library (subst (λ read. IfOk read (λ library. library_view library ≡ raw_library)) c.in-Ok.is c.raw.ensures)
