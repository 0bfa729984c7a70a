-- What a frame holds, as the definitions see it.
use Rattle.std.specs.Prelude.{ℕ, List, Option}
use Rattle.dj_names.specs.declared.run.Value.{Value}
use Rattle.dj_stack.specs.declared.stacked.Stacked.{Stacked}
use Rattle.dj_stack.specs.declared.variables.Locals.{Locals}
use Rattle.dj_stack.specs.declared.variables.Locals.TheVariants as locals
use Rattle.dj_stack.specs.declared.operands.Operands.{Operands}
use Rattle.dj_stack.specs.declared.operands.Operands.TheVariants as operands
use Rattle.dj_stack.specs.Cells.{parts_of, variables_in}
use Rattle.dj_stack.specs.Stacks.{values_in}

abbrev pub locals_of : Locals → List (Option Value)
locals_of (locals.Wide wide) = wide.items.items
locals_of (locals.Sparse sparse) = variables_in sparse.value.places.items (parts_of sparse.value.cells)

abbrev pub stacked_values : Stacked → List Value
stacked_values stacked = values_in stacked.kinds.items stacked.lows.items stacked.highs.items

-- the top last
abbrev pub values_of : Operands → List Value
values_of (operands.Wide wide) = wide.items.items
values_of (operands.Stacked stacked) = stacked_values stacked.value

abbrev pub room_of : Operands → ℕ
room_of (operands.Wide wide) = wide.room
room_of (operands.Stacked stacked) = stacked.value.room
