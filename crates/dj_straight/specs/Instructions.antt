-- Beside trusted/Instructions.antt: what no clause of the call `djvm` reaches.
use Rattle.std.specs.Prelude.{ℕ, ◌&&◌, Bool, true, false, not, List, [], ◌∷◌}
use Rattle.dj_straight.specs.trusted.Instructions.{Instruction, targets}

-- ---- where the run goes on

-- it throws an object; none of the supported instructions does
abbrev pub throws : Instruction → Bool
throws i = false

-- it neither jumps nor throws an object
abbrev pub is_straight : Instruction → Bool
is_straight i = is_empty (targets i) && not (throws i) where
  is_empty : List ℕ → Bool
  is_empty [] = true
  is_empty (n ∷ rest) = false

-- it depends on a class or a member of the program; none of the supported instructions does
abbrev pub asks_program : Instruction → Bool
asks_program i = false
