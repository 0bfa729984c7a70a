-- Used by the code alone: slots of local variables, each above those before it.
use Rattle.std.specs.Prelude.{◌≡◌, ℕ, zero, suc, ◌<◌, ◌≤◌, List, [], ◌∷◌, ◌++◌, length, Option, Some, None, slice_get}
use Rattle.dj_names.specs.declared.descriptor.Kind.{Kind}
use Rattle.dj_shape_rule.specs.declared.arena.Slot.{Slot}
use Rattle.dj_shape_rule.specs.declared.arena.LocalsPlace.{LocalsPlace}

-- the slot at which local variables end
abbrev pub slot_at : List Slot → ℕ → Option Slot
slot_at slots zero = None
slot_at slots (suc k) = slice_get slots k

-- a local variable above those before it
abbrev pub with_slot : Option Slot → (ℕ → List (Option Kind)) → List (Option Kind)
with_slot None below = []
with_slot (Some slot) below = below slot.before ++ slot.kind ∷ []

-- the local variables that end here, at most this many
unfoldable pub slots_within : ℕ → List Slot → ℕ → List (Option Kind)
slots_within zero slots end = []
slots_within (suc most) slots end = with_slot (slot_at slots end) (λ before. slots_within most slots before)

-- the local variables that end here: there can't be more than the slots up to here
unfoldable pub slots_at : List Slot → ℕ → List (Option Kind)
slots_at slots end = slots_within end slots end

-- each slot is above one that was there before it
abbrev pub AreLinked : List Slot → Type 0
AreLinked slots = (end : ℕ) (slot : Slot) → slot_at slots end ≡ Some slot → slot.before < end

-- the place is one of these slots
abbrev pub IsIn : List Slot → LocalsPlace → Type 0
IsIn slots place = (place.end ≤ length slots) × (place.count ≡ length (slots_at slots place.end))

-- the local variables of the place are these
pub record IsAt (slots : List Slot) (place : LocalsPlace) (locals : List (Option Kind)) : Type 0 where
  pub within : place.end ≤ length slots
  pub are : slots_at slots place.end ≡ locals
  pub count : place.count ≡ length locals

-- the same slots, and others after them
abbrev pub Extends : List Slot → List Slot → Type 0
Extends old new = (more : List Slot) × (new ≡ old ++ more)

-- two lists begin alike up to this count, and the second goes on with these kinds
pub record IsShared (old new : List (Option Kind)) (from : ℕ) (kinds : List (Option Kind)) : Type 0 where
  pub shared : List (Option Kind)
  pub gone : List (Option Kind)
  pub before : old ≡ shared ++ gone
  pub after : new ≡ shared ++ kinds
  pub count : from ≡ length shared
