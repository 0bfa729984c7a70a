-- Beside trusted/ModifiedUtf8.antt: what no clause of the call `djvm` reaches.
use Rattle.std.specs.Prelude.{◌≡◌, ◌≢◌, ℕ, ◌^◌, ◌<◌, List, [], ◌++◌, length}
use Rattle.dj_names.specs.trusted.ModifiedUtf8.{unit_text, SpellsUnits}

-- these bytes don't begin with the spelling of a unit
abbrev pub BeginsNoUnit : List ℕ → Type 0
BeginsNoUnit bytes = (u : ℕ) (more : List ℕ) → u < 2 ^ 16 → bytes ≢ unit_text u ++ more

-- the text spells units up to this place, and from there on it doesn't begin with the spelling of one
pub record BreaksAt (text : List ℕ) (place : ℕ) : Type 0 where
  pub prefix : List ℕ
  pub units : List ℕ
  pub rest : List ℕ
  pub parts : text ≡ prefix ++ rest
  pub prefix_is : SpellsUnits prefix units
  pub place_is : length prefix ≡ place
  pub left : rest ≢ []
  pub broken : BeginsNoUnit rest
