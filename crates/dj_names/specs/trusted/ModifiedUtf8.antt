-- Modified UTF-8 (JVMS 4.4.7): UTF-16 units as bytes, each unit with one spelling.
use Rattle.std.specs.Prelude.{◌≡◌, ℕ, ◌+◌, ◌/◌, ◌%◌, ◌^◌, ◌<◌, ◌&&◌, List, [], ◌∷◌, nat_le, if◌then◌else◌}
use Rattle.std.specs.List.{flat_map, AllByRecursion}

-- a unit from 1 to 007F takes one byte, 0 and those from 0080 to 07FF two, the others three
abbrev pub unit_text : ℕ → List ℕ
unit_text u =
    if nat_le 1 u && nat_le u 127 then u ∷ []
    else (if nat_le u 2047 then (192 + u / 64) ∷ (128 + u % 64) ∷ []
    else (224 + u / 4096) ∷ (128 + u / 64 % 64) ∷ (128 + u % 64) ∷ [])

abbrev pub units_text : List ℕ → List ℕ
units_text units = flat_map unit_text units

-- the text spells these units
pub record SpellsUnits (text units : List ℕ) : Type 0 where
  pub text_is : text ≡ units_text units
  pub units_fit : AllByRecursion (λ u. u < 2 ^ 16) units

abbrev pub IsModifiedUtf8 : List ℕ → Type 0
IsModifiedUtf8 text = (units : List ℕ) × SpellsUnits text units
