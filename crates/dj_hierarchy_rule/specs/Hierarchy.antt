-- Beside trusted/Hierarchy.antt: what no clause of the call `djvm` reaches.
use Rattle.std.specs.Prelude.{◌⊎◌, List, Contains}
use Rattle.dj_library.specs.trusted.Heads.{Head, library_heads}

-- ---- classes by their names

-- the classes of the set and those of the library
abbrev pub Stands : List Head → Head → Type 0
Stands heads head = Contains heads head ⊎ Contains library_heads head
