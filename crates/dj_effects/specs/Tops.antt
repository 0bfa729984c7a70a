-- Used by the code alone: what is taken from the top.
use Rattle.std.specs.Prelude.{◌≡◌, ℕ, Bool, true, false, ℤ, List, [], ◌∷◌, Option, Some, None}
use Rattle.dj_names.specs.declared.run.Value.{Value}
use Rattle.dj_names.specs.declared.run.Value.TheVariants as values

-- the top, where there is one, and the rest
abbrev pub IsTop : Option Value → List Value → List Value → Type 0
IsTop None old new = (old ≡ []) × (new ≡ [])
IsTop (Some v) old new = old ≡ v ∷ new

-- an index stands on top, and a reference under it
abbrev pub has_place : List Value → Bool
has_place (values.Int index ∷ (values.Ref r ∷ rest)) = true
has_place operands = false

-- they, where they stand on top, and the rest
abbrev pub IsPlaceTop : Option (ℤ × ℕ) → List Value → List Value → Type 0
IsPlaceTop None old new = has_place old ≡ false
IsPlaceTop (Some place) old new = old ≡ values.Int place.0 ∷ (values.Ref place.1 ∷ new)
