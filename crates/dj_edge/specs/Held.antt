-- Beside trusted/Held.antt: what no clause of the call `djvm` reaches.
use Rattle.std.specs.Prelude.{List}
use Rattle.std.specs.FinMap.{from_entries}
use Rattle.dj_edge.specs.trusted.Held.{Held, File}

-- the contents of a store with these files, whose paths differ
abbrev pub held_of : List File → Held
held_of files = from_entries files
