-- Used by the code alone: by how many operands an action grows them at most.
use Rattle.std.specs.Prelude.{ℕ}
use Rattle.dj_effects.specs.declared.actions.Slots.{Slots}
use Rattle.dj_effects.specs.declared.actions.Slots.TheVariants as slots
use Rattle.dj_effects.specs.declared.actions.Movement.{Movement}
use Rattle.dj_effects.specs.declared.actions.Movement.TheVariants as moves
use Rattle.dj_effects.specs.declared.actions.PlainAction.{PlainAction}
use Rattle.dj_effects.specs.declared.actions.PlainAction.TheVariants as actions

abbrev pub slot_count : Slots → ℕ
slot_count slots.One = 1
slot_count slots.Two = 2

-- by how many operands a movement grows them: those that it copies
abbrev pub move_growth : Movement → ℕ
move_growth (moves.Double upper) = slot_count upper
move_growth (moves.Under upper lower) = slot_count upper
move_growth movement = 0

abbrev pub growth : PlainAction → ℕ
growth (actions.Push v) = 1
growth (actions.Load kind slot) = 1
growth (actions.Move movement) = move_growth movement
growth action = 0
