-- The straight instructions.
use Rattle.std.specs.Prelude.{◌≡◌, ℕ, ◌&&◌, ◌⊎◌, Bool, true, false, List, [], ◌∷◌, nat_le, IsTrue}
use Rattle.std.specs.List.{list_any}
use Rattle.dj_ops.specs.declared.instruction.Instr.{Instr}
use Rattle.dj_ops.specs.declared.instruction.Instr.TheVariants as instrs
use Rattle.dj_ops.specs.trusted.Instructions.{Stands}

-- the straight opcodes, each row from a first to a last
abbrev pub straight_ranges : List (ℕ × ℕ)
straight_ranges =
    (0, 8) ∷ (16, 17) ∷ (21, 21) ∷ (25, 29) ∷ (42, 45) ∷ (51, 51) ∷ (54, 54) ∷ (58, 62) ∷ (75, 78) ∷ (84, 84)
    ∷ (87, 87) ∷ (89, 89) ∷ (96, 96) ∷ (100, 100) ∷ (104, 104) ∷ (126, 126) ∷ (128, 128) ∷ (130, 130) ∷ (176, 176) ∷ (190, 190) ∷ []

unfoldable pub is_straight_op : ℕ → Bool
is_straight_op op = list_any (λ range. nat_le range.0 op && nat_le op range.1) straight_ranges

-- the byte with which the instruction begins
abbrev pub first_byte : Instr → ℕ
first_byte (instrs.Simple op) = op
first_byte (instrs.Push op value) = op
first_byte (instrs.Literal op index) = op
first_byte (instrs.Local op slot false) = op
first_byte (instrs.Local op slot true) = 196
first_byte (instrs.Inc slot by false) = 132
first_byte (instrs.Inc slot by true) = 196
first_byte (instrs.Branch op target) = op
first_byte (instrs.Table low default targets) = 170
first_byte (instrs.Lookup default pairs) = 171
first_byte (instrs.Member op index) = op
first_byte (instrs.Interface index count) = 185
first_byte (instrs.Dynamic index) = 186
first_byte (instrs.Class op index) = op
first_byte (instrs.Array base) = 188
first_byte (instrs.Multi index dims) = 197

-- a straight opcode, or newarray of bytes
abbrev pub IsStraight : Instr → Type 0
IsStraight instr = IsTrue (is_straight_op (first_byte instr)) ⊎ (instr ≡ instrs.Array 8)

pub record IsStraightAt (code : List ℕ) (at : ℕ) (instr : Instr) (next : ℕ) : Type 0 where
  pub stands : Stands code at instr next
  pub straight : IsStraight instr
