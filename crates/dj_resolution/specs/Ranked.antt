-- Classes by ranks, each above that of its superclass, and the superclasses of a class as bits at their ranks.
use Rattle.std.specs.Prelude.{◌≡◌, ℕ, ◌+◌, ◌<◌, ◌^◌, List, [], map, length, Some, get_or}
use Rattle.dj_model.specs.trusted.Program.{Program}
use Rattle.dj_model.specs.trusted.Linking.{most_classes}
use Rattle.dj_class_table.specs.Tables.{super_number}
use Rattle.dj_resolution.specs.declared.ranked.Ranks.{Ranks}
use Rattle.dj_resolution.specs.Bits.{AreBits, words_for}
use Rattle.dj_resolution.specs.Chained.{IsShort}
use Rattle.dj_resolution.specs.Numbers.{lists_of, most_above, numbers_up}

abbrev pub rank_in : List ℕ → ℕ → ℕ
rank_in ranks class = get_or ranks class 0

-- there are bits for the class
abbrev pub HasRow : List (List ℕ) → ℕ → Type 0
HasRow rows class = 0 < length (get_or rows class [])

-- the bits are those of the class and its superclasses, of which there are no more with more levels
pub record IsRow (program : Program) (ranks : List ℕ) (rows : List (List ℕ)) (levels class : ℕ) : Type 0 where
  pub bits : AreBits (map (rank_in ranks) (numbers_up most_classes program (Some class))) (get_or rows class [])
  pub words : length (get_or rows class []) ≡ words_for (length program)
  pub short : IsShort program levels class

-- the class stands in the order at its rank, which is above that of its superclass
pub record IsRanked (program : Program) (order ranks : List ℕ) (rows : List (List ℕ)) (levels class : ℕ) : Type 0 where
  pub row : IsRow program ranks rows levels class
  pub placed : get_or order (rank_in ranks class) 0 ≡ class
  pub bound : rank_in ranks class < length program
  pub next : (other : ℕ) → super_number program class ≡ Some other → HasRow rows other × (rank_in ranks other < rank_in ranks class)

-- each class for which there are bits has a rank
pub record AreRanked (program : Program) (order ranks : List ℕ) (rows : List (List ℕ)) (levels : ℕ) : Type 0 where
  pub rows_count : length rows ≡ length program
  pub ranks_count : length ranks ≡ length program
  pub each : (class : ℕ) → HasRow rows class → IsRanked program order ranks rows levels class

-- the bits are those of the superclasses of a class that is to have this rank
pub record IsRowAbove (program : Program) (ranks : List ℕ) (rows : List (List ℕ)) (class rank : ℕ) (row : List ℕ) : Type 0 where
  pub bits : AreBits (map (rank_in ranks) (numbers_up most_above program (super_number program class))) row
  pub words : length row ≡ words_for (length program)
  pub short : IsShort program (rank + 1) class
  pub next : (other : ℕ) → super_number program class ≡ Some other → HasRow rows other × (rank_in ranks other < rank)

-- the same, with some bound of the levels
pub record AreRanks (program : Program) (order ranks : List ℕ) (rows : List (List ℕ)) : Type 0 where
  pub levels : ℕ
  pub few : levels < 2 ^ 32
  pub ranked : AreRanked program order ranks rows levels

-- the same as the code holds it
abbrev pub AreRanksOf : Program → Ranks → Type 0
AreRanksOf program ranks = AreRanks program ranks.classes.items ranks.ranks.items (lists_of ranks.rows.items)
