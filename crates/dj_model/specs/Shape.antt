-- Beside trusted/Shape.antt: what no clause of the call `djvm` reaches.
use Rattle.std.specs.Prelude.{ℕ, ◌<◌, length}
use Rattle.dj_model.specs.trusted.Program.{Code}
use Rattle.dj_model.specs.trusted.Kinds.{Signature, Map, Read, Faulty, NoMap, map_of}
use Rattle.dj_model.specs.trusted.Shape.{ParametersFit, HoldsAt}

-- ---- shape

abbrev pub AllHold : Signature → Code → Map → Type 0
AllHold signature code (Read placed) = (number : ℕ) → number < length code.instructions → HoldsAt signature code placed number
AllHold signature code (Faulty at) = ⊥
AllHold signature code NoMap = ⊥

-- the parameters fit, every frame has kinds, and every instruction holds
pub record HasShape (signature : Signature) (code : Code) : Type 0 where
  pub parameters : ParametersFit signature code
  pub each : AllHold signature code (map_of signature code)
