-- Beside trusted/Program.antt: what no clause of the call `djvm` reaches.
use Rattle.std.specs.Prelude.{◌≡◌, []}
use Rattle.std.specs.List.{AllByRecursion}
use Rattle.dj_straight.specs.trusted.Program.{Program}

-- no class of the program has fields
abbrev pub HasNoFields : Program → Type 0
HasNoFields program = AllByRecursion (λ c. c.fields ≡ []) program
