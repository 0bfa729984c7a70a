use Rattle.std.proofs.Common.{◌≡◌, IfOk, subst}
use Rattle.dj_names.specs.trusted.Library.{deterministic_library}
use Rattle.dj_library_types.specs.Views.{library_view}
use Rattle.dj_loader_tests.proofs.Libraries.{deterministic_small}
use Rattle.dj_loader_tests.proofs.set.deterministic_library.Goals as goal

pub returns-in-Ok : goal.returns-in-Ok
returns-in-Ok c = deterministic_small c.in-Ok.library (subst (λ read. IfOk read (λ library. library_view library ≡ deterministic_library)) c.in-Ok.is c.deterministic.ensures)
