-- Used by the code alone: upper operands that are moved.
use Rattle.std.specs.Prelude.{◌≤◌, ⊤, ℕ, Bool, List, [], ◌∷◌, length, Option, Some, None, if◌then◌else◌}
use Rattle.dj_names.specs.declared.run.Value.{Value}
use Rattle.dj_model.specs.trusted.Numbers.{is_long}
use Rattle.dj_model.specs.trusted.Values.{Cut, one_slot, two_slots, under}
use Rattle.dj_effects.specs.declared.actions.Slots.{Slots}
use Rattle.dj_effects.specs.declared.actions.Slots.TheVariants as slots
use Rattle.dj_effects.specs.declared.moves.Piece.{Piece}
use Rattle.dj_effects.specs.declared.moves.Piece.TheVariants as pieces

-- the top first
abbrev pub piece_values : Piece → List Value
piece_values (pieces.One v) = v ∷ []
piece_values (pieces.Two top v) = top ∷ v ∷ []

-- what was cut, and what is left
abbrev pub cut_view : Option Piece → List Value → Option (Cut Value)
cut_view None rest = None
cut_view (Some piece) rest = Some (record { top = piece_values piece; rest = rest })

abbrev pub cut_of : Slots → List Value → Option (Cut Value)
cut_of slots.One stack = one_slot is_long stack
cut_of slots.Two stack = two_slots is_long stack

-- copies of the upper operands are put below the operands under them
abbrev pub put_under : Slots → Option (Cut Value) → Option (List Value)
put_under below None = None
put_under below (Some cut) = under cut.top (cut_of below cut.rest)

-- the operands that are left, if they could be moved
abbrev pub moved_to : Bool → List Value → Option (List Value)
moved_to moved operands = if moved then Some operands else None

abbrev pub HasRoom : ℕ → Option (List Value) → Type 0
HasRoom room None = ⊤
HasRoom room (Some operands) = length operands ≤ room
