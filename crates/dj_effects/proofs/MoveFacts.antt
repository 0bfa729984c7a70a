-- Operands that are moved, as the model has it.
use Rattle.std.proofs.Common.{◌≡◌, ◌≤◌, ◌+◌, ℕ, List, ◌++◌, length, Option, Some, None, refl, arith, length-append}
use Rattle.dj_names.specs.declared.run.Value.{Value}
use Rattle.dj_model.specs.trusted.Instructions.{Swap}
use Rattle.dj_model.specs.trusted.Numbers.{is_long}
use Rattle.dj_model.specs.trusted.Values.{Cut, doubled, dropped, moved, one_slot, swapped, two_slots, under_one, under_two}
use Rattle.dj_effects.specs.declared.actions.Slots.{Slots}
use Rattle.dj_effects.specs.declared.actions.Slots.TheVariants as slots
use Rattle.dj_effects.specs.declared.actions.Movement.TheVariants as moves
use Rattle.dj_effects.specs.Actions.{move_view}
use Rattle.dj_effects.specs.Moves.{cut_of, put_under}

pub moved_drop : (slots : Slots) (stack : List Value) → moved is_long (move_view (moves.Drop slots)) stack ≡ dropped (cut_of slots stack)
unfolding moved
moved_drop slots.One stack = refl
moved_drop slots.Two stack = refl

pub moved_double : (slots : Slots) (stack : List Value) → moved is_long (move_view (moves.Double slots)) stack ≡ doubled (cut_of slots stack)
unfolding moved
moved_double slots.One stack = refl
moved_double slots.Two stack = refl

one_under : (cut : Option (Cut Value)) → under_one is_long cut ≡ put_under slots.One cut
one_under None = refl
one_under (Some cut) = refl

two_under : (cut : Option (Cut Value)) → under_two is_long cut ≡ put_under slots.Two cut
two_under None = refl
two_under (Some cut) = refl

-- the four forms that put operands under others are one
pub moved_under : (top below : Slots) (stack : List Value) → moved is_long (move_view (moves.Under top below)) stack ≡ put_under below (cut_of top stack)
unfolding moved
moved_under slots.One slots.One stack = one_under (one_slot is_long stack)
moved_under slots.One slots.Two stack = two_under (one_slot is_long stack)
moved_under slots.Two slots.One stack = one_under (two_slots is_long stack)
moved_under slots.Two slots.Two stack = two_under (two_slots is_long stack)

pub moved_swap : (stack : List Value) → moved is_long Swap stack ≡ swapped is_long (one_slot is_long stack)
unfolding moved
moved_swap stack = refl

-- ---- room

pub first_fits : (top rest : List Value) (room : ℕ) → length (top ++ top ++ rest) ≤ room → length top + length rest ≤ room
first_fits top rest room e = omega (arith, e, length-append {A = Value})
