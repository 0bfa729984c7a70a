use Rattle.std.proofs.Common.{◌≡◌, ◌++◌, map, take}
use Rattle.dj_library_types.specs.Views.{library_method_view}
use Rattle.dj_library.specs.TableRows.{method_in}
use Rattle.dj_library.proofs.methods.add_methods.Given as goal

abbrev pub invariant-loop-row : goal.invariant-loop-row
invariant-loop-row l =
    map library_method_view l.methods ≡ map library_method_view l.fn.methods ++ map (method_in l.which) (take l.row-index l.rows)
