-- Code that is laid out.
use Rattle.std.specs.Prelude.{◌≡◌, ℕ, ◌≤◌, List, [], ◌∷◌, ◌++◌, map, zip, length}
use Rattle.std.specs.List.{flat_map}
use Rattle.dj_ops.specs.declared.instruction.Instr.{Instr}
use Rattle.dj_ops.specs.trusted.Instructions.{written}
use Rattle.dj_labels.specs.declared.labelled.Labelled.{Labelled}
use Rattle.dj_labels.specs.trusted.Labels.{IsLabelled, addressed, row_of}
use Rattle.dj_layout.specs.declared.laid.Laid.{Laid}
use Rattle.dj_layout.specs.trusted.Places.{starts_from}

-- instructions with their addresses
abbrev pub placed : List ℕ → List Instr → List (ℕ × Instr)
placed starts instrs = zip starts (addressed starts instrs)

abbrev pub placed_bytes : ℕ × Instr → List ℕ
placed_bytes p = written p.0 p.1

-- the most bytes that the code of a method may have (JVMS 4.7.3, code_length)
abbrev pub most_bytes : ℕ
most_bytes = 65535

-- the instructions follow one another, with zeros as padding, and the labelled code is that of the bytes and the table
pub record IsLaidOut (labelled : Labelled) (laid : Laid) : Type 0 where
  pub starts : laid.starts ≡ starts_from 0 labelled.code
  pub code : laid.code ≡ flat_map placed_bytes (placed laid.starts labelled.code)
  pub short : length laid.code ≤ most_bytes
  pub table : laid.table ≡ map (row_of (laid.starts ++ length laid.code ∷ [])) labelled.ranges
  pub labels : IsLabelled laid.code laid.table labelled
