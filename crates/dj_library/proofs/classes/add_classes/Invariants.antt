use Rattle.std.proofs.Common.{◌≡◌, ◌++◌, map, take}
use Rattle.dj_library_types.specs.Views.{library_view}
use Rattle.dj_library.specs.TableRows.{class_in}
use Rattle.dj_library.proofs.classes.add_classes.Given as goal

abbrev pub invariant-loop-row : goal.invariant-loop-row
invariant-loop-row l = library_view l.library ≡ library_view l.fn.library ++ map (class_in l.which) (take l.row-index l.rows)
