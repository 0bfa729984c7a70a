use Rattle.std.proofs.Common.{◌≡◌, ℕ, ◌<◌, false, Some}
use Rattle.dj_names.specs.trusted.Types.{Name}
use Rattle.dj_class_table.specs.Tables.{name_at}
use Rattle.dj_numbering.specs.Typed.{begins_array}
use Rattle.dj_numbering.proofs.arrays.check_names.Given as goal

-- of the classes so far
abbrev pub invariant-loop-class : goal.invariant-loop-class
invariant-loop-class l = (k : ℕ) → k < l.class → (name : Name) → name_at l.table k ≡ Some name → begins_array name ≡ false
