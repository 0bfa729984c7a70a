-- Beside trusted/Lookups.antt: what no clause of the call `djvm` reaches.
use Rattle.std.specs.Prelude.{ℤ, ◌&&◌, Bool, List, [], ◌∷◌, Option, Some, None, int_le, if◌then◌else◌}

abbrev pub is_match : ℤ → ℤ → Bool
is_match a b = int_le a b && int_le b a

-- the first pair with the match decides
abbrev pub first_target : List (ℤ × ℤ) → ℤ → Option ℤ
first_target [] wanted = None
first_target (pair ∷ pairs) wanted = if is_match pair.0 wanted then Some pair.1 else first_target pairs wanted

-- the target of the pair, if its match is this number
abbrev pub target_if : ℤ × ℤ → ℤ → Option ℤ
target_if pair wanted = if is_match pair.0 wanted then Some pair.1 else None
