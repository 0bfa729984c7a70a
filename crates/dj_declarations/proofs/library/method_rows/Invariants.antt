use Rattle.std.proofs.Common.{map, take}
use Rattle.dj_library_types.specs.Views.{library_method_view}
use Rattle.dj_model.specs.trusted.Libraries.{library_method}
use Rattle.dj_declarations.specs.MemberRows.{AreRowsOf}
use Rattle.dj_declarations.proofs.library.method_rows.Given as goal

-- the rows so far
abbrev pub invariant-loop-method : goal.invariant-loop-method
invariant-loop-method l = AreRowsOf l.texts l.rows.items (map library_method (map library_method_view (take l.method-index l.methods)))
