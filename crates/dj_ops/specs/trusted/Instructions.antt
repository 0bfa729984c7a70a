-- Instructions and the bytes that spell them (JVMS chapter 6).
use Rattle.std.specs.Prelude.{◌≡◌, ℕ, ◌+◌, ◌-◌, ◌^◌, ◌<◌, ◌≤◌, ◌%◌, ◌⊎◌, Bool, true, false, ℤ, pos, ◌+ℤ◌, ◌-ℤ◌, ◌<ℤ◌, FitsSigned, List, [], ◌∷◌, ◌++◌, length, replicate, slice_range, AllPairs}
use Rattle.std.specs.List.{flat_map, AllByRecursion}
use Rattle.std.specs.Int.{w8, w16, w32}
use Rattle.dj_cursor.specs.trusted.Spelling.{u2, s1, s2, s4}
use Rattle.dj_ops.specs.declared.instruction.Instr.{Instr}
use Rattle.dj_ops.specs.declared.instruction.Instr.TheVariants as instrs
use Rattle.dj_ops.specs.trusted.Forms.{OperandForm, Bare, SignedByte, SignedShort, ShortLiteral, LongLiteral, Slot, ShortOffset, LongOffset, MemberIndex, ClassIndex, form_of}

-- ---- operands, by the form of the opcode

-- a signed number
abbrev pub signed_bytes : OperandForm → ℤ → List ℕ
signed_bytes SignedByte z = s1 z
signed_bytes SignedShort z = s2 z
signed_bytes ShortOffset z = s2 z
signed_bytes LongOffset z = s4 z
signed_bytes _ z = []

-- a number that this form can push
abbrev pub IsPushed : OperandForm → ℤ → Type 0
IsPushed SignedByte z = FitsSigned w8 z
IsPushed SignedShort z = FitsSigned w16 z
IsPushed _ z = ⊥

-- the distance to a target, which fits this form
abbrev pub IsOffset : OperandForm → ℤ → Type 0
IsOffset ShortOffset z = FitsSigned w16 z
IsOffset LongOffset z = FitsSigned w32 z
IsOffset _ z = ⊥

-- the index of a constant
abbrev pub literal_bytes : OperandForm → ℕ → List ℕ
literal_bytes ShortLiteral index = index ∷ []
literal_bytes LongLiteral index = u2 index
literal_bytes _ index = []

abbrev pub IsLiteral : OperandForm → ℕ → Type 0
IsLiteral ShortLiteral index = index < 2 ^ 8
IsLiteral LongLiteral index = index < 2 ^ 16
IsLiteral _ index = ⊥

-- JVMS table 6.5.newarray-A
abbrev pub IsArrayType : ℕ → Type 0
IsArrayType base = (4 ≤ base) × (base ≤ 11)

-- ---- which instructions are proper: the opcode is of its family, and its operands are allowed there; targets are checked below

abbrev pub IsLocal : ℕ → Bool → Type 0
IsLocal slot false = slot < 2 ^ 8
IsLocal slot true = slot < 2 ^ 16

abbrev pub IsIncrement : ℤ → Bool → Type 0
IsIncrement by false = FitsSigned w8 by
IsIncrement by true = FitsSigned w16 by

-- a table's lowest number: this and the numbers after it, one for each target, fit 32 bits
pub record IsTable (low : ℤ) (targets : List ℤ) : Type 0 where
  pub some : 0 < length targets
  pub low_fits : FitsSigned w32 low
  pub high_fits : FitsSigned w32 (low +ℤ pos (length targets) -ℤ pos 1)

-- the numbers that are matched rise
pub record IsLookup (pairs : List (ℤ × ℤ)) : Type 0 where
  pub count : length pairs < 2 ^ 31
  pub matches : AllByRecursion (λ pair. FitsSigned w32 pair.0) pairs
  pub rising : AllPairs (λ a b. a.0 <ℤ b.0) pairs

abbrev pub IsProper : Instr → Type 0
IsProper (instrs.Simple op) = form_of op ≡ Bare
IsProper (instrs.Push op value) = IsPushed (form_of op) value
IsProper (instrs.Literal op index) = IsLiteral (form_of op) index
IsProper (instrs.Local op slot wide) = (form_of op ≡ Slot) × IsLocal slot wide
IsProper (instrs.Inc slot by wide) = IsLocal slot wide × IsIncrement by wide
IsProper (instrs.Branch op target) = (form_of op ≡ ShortOffset) ⊎ (form_of op ≡ LongOffset)
IsProper (instrs.Table low default targets) = IsTable low targets
IsProper (instrs.Lookup default pairs) = IsLookup pairs
IsProper (instrs.Member op index) = (form_of op ≡ MemberIndex) × (index < 2 ^ 16)
IsProper (instrs.Interface index count) = (index < 2 ^ 16) × (0 < count) × (count < 2 ^ 8)
IsProper (instrs.Dynamic index) = index < 2 ^ 16
IsProper (instrs.Class op index) = (form_of op ≡ ClassIndex) × (index < 2 ^ 16)
IsProper (instrs.Array base) = IsArrayType base
IsProper (instrs.Multi index dims) = (index < 2 ^ 16) × (0 < dims) × (dims < 2 ^ 8)

-- ---- the bytes of an instruction at an address

-- JVMS 6.5, tableswitch: 0 to 3 bytes, of any values, after which an address is a multiple of 4
pub record IsPadding (at : ℕ) (padding : List ℕ) : Type 0 where
  pub few : length padding < 4
  pub aligned : (at + 1 + length padding) % 4 ≡ 0

-- the padding of an instruction; only switches have some
abbrev pub IsPaddingOf : ℕ → Instr → List ℕ → Type 0
IsPaddingOf at (instrs.Table low default targets) padding = IsPadding at padding
IsPaddingOf at (instrs.Lookup default pairs) padding = IsPadding at padding
IsPaddingOf at instr padding = padding ≡ []

-- the distance to a target, counted from the opcode
abbrev pub offset : ℕ → ℤ → ℤ
offset at target = target -ℤ pos at

-- a distance that fits four bytes
abbrev pub IsFar : ℕ → ℤ → Type 0
IsFar at target = FitsSigned w32 (offset at target)

-- the distances to the targets fit their fields
abbrev pub AreOffsets : ℕ → Instr → Type 0
AreOffsets at (instrs.Branch op target) = IsOffset (form_of op) (offset at target)
AreOffsets at (instrs.Table low default targets) = IsFar at default × AllByRecursion (IsFar at) targets
AreOffsets at (instrs.Lookup default pairs) = IsFar at default × AllByRecursion (λ pair. IsFar at pair.1) pairs
AreOffsets at instr = Unit {0}

-- the greatest number of a table
abbrev pub high_of : ℤ → List ℤ → ℤ
high_of low targets = low +ℤ pos (length targets) -ℤ pos 1

abbrev pub target_bytes : ℕ → ℤ → List ℕ
target_bytes at target = s4 (offset at target)

abbrev pub pair_bytes : ℕ → ℤ × ℤ → List ℕ
pair_bytes at pair = s4 pair.0 ++ s4 (offset at pair.1)

-- the bytes of the instruction at an address, with this padding
abbrev pub bytes_with : List ℕ → ℕ → Instr → List ℕ
bytes_with padding at (instrs.Simple op) = op ∷ []
bytes_with padding at (instrs.Push op value) = op ∷ signed_bytes (form_of op) value
bytes_with padding at (instrs.Literal op index) = op ∷ literal_bytes (form_of op) index
bytes_with padding at (instrs.Local op slot false) = op ∷ slot ∷ []
bytes_with padding at (instrs.Local op slot true) = 196 ∷ op ∷ u2 slot
bytes_with padding at (instrs.Inc slot by false) = 132 ∷ slot ∷ s1 by
bytes_with padding at (instrs.Inc slot by true) = 196 ∷ 132 ∷ u2 slot ++ s2 by
bytes_with padding at (instrs.Branch op target) = op ∷ signed_bytes (form_of op) (offset at target)
bytes_with padding at (instrs.Table low default targets) =
    170 ∷ padding ++ target_bytes at default ++ s4 low ++ s4 (high_of low targets) ++ flat_map (target_bytes at) targets
bytes_with padding at (instrs.Lookup default pairs) =
    171 ∷ padding ++ target_bytes at default ++ s4 (pos (length pairs)) ++ flat_map (pair_bytes at) pairs
bytes_with padding at (instrs.Member op index) = op ∷ u2 index
bytes_with padding at (instrs.Interface index count) = 185 ∷ u2 index ++ count ∷ 0 ∷ []
bytes_with padding at (instrs.Dynamic index) = 186 ∷ u2 index ++ 0 ∷ 0 ∷ []
bytes_with padding at (instrs.Class op index) = op ∷ u2 index
bytes_with padding at (instrs.Array base) = 188 ∷ base ∷ []
bytes_with padding at (instrs.Multi index dims) = 197 ∷ u2 index ++ dims ∷ []

-- the bytes spell this instruction at this address
pub record SpellsInstruction (at : ℕ) (instr : Instr) (bytes : List ℕ) : Type 0 where
  pub padding : List ℕ
  pub padded : IsPaddingOf at instr padding
  pub offsets : AreOffsets at instr
  pub are : bytes ≡ bytes_with padding at instr

-- this instruction is in the code at this address, and ends before next
pub record Stands (code : List ℕ) (at : ℕ) (instr : Instr) (next : ℕ) : Type 0 where
  pub later : at < next
  pub within : next ≤ length code
  pub spelled : SpellsInstruction at instr (slice_range code at next)
  pub proper : IsProper instr

-- ---- the bytes that djvm writes: the padding is zeros

abbrev pub padding_count : ℕ → ℕ
padding_count at = 3 - at % 4

abbrev pub zeros : ℕ → Instr → List ℕ
zeros at (instrs.Table low default targets) = replicate (padding_count at) 0
zeros at (instrs.Lookup default pairs) = replicate (padding_count at) 0
zeros at instr = []

abbrev pub written : ℕ → Instr → List ℕ
written at instr = bytes_with (zeros at instr) at instr

-- how many bytes an instruction has at an address
abbrev pub length_at : ℕ → Instr → ℕ
length_at at instr = length (written at instr)
