use Rattle.std.proofs.Common.{◌≡◌, ◌++◌, map, take}
use Rattle.dj_library_types.specs.Views.{library_view}
use Rattle.dj_model.specs.trusted.Libraries.{library_class}
use Rattle.dj_loader.proofs.declaring.add_rows.Given as goal

abbrev pub invariant-loop-row : goal.invariant-loop-row
invariant-loop-row l = l.classes.items ≡ l.initial.classes.items ++ map library_class (library_view (take l.row-index l.rows))
