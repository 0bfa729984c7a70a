-- Bytes at which no instruction stands, and why.
use Rattle.std.specs.Prelude.{◌≡◌, ◌≢◌, ℕ, ◌+◌, ◌*◌, ◌<◌, ◌≤◌, ◌⊎◌, ℤ, pos, ◌-ℤ◌, ◌<ℤ◌, ◌≤ℤ◌, unsigned_abs, FitsSigned, List, [], ◌∷◌, ◌++◌, length, drop, slice_index, AllPairs, IsSomeAnd, Result, IsErrOf}
use Rattle.std.specs.List.{flat_map, AllByRecursion}
use Rattle.std.specs.Int.{w32}
use Rattle.dj_cursor.specs.trusted.Spelling.{s4}
use Rattle.dj_ops.specs.declared.instruction.Instr.{Instr}
use Rattle.dj_ops.specs.declared.read.OpError.{OpError}
use Rattle.dj_ops.specs.declared.read.OpError.TheVariants as errors
use Rattle.dj_ops.specs.trusted.Forms.{OperandForm, Slot, SlotAndByte, InterfaceIndex, DynamicIndex, ArrayType, MultiIndex, TableSwitch, LookupSwitch, WidePrefix, form_of}
use Rattle.dj_ops.specs.Forms.{operand_count}
use Rattle.dj_ops.specs.trusted.Instructions.{IsArrayType, IsFar, pair_bytes, padding_count}

-- ---- the fields of switches, after the padding

-- tableswitch: default, low and high, and what follows them
pub record HasBounds (fields : List ℕ) (low high : ℤ) (offsets : List ℕ) : Type 0 where
  pub default : ℤ
  pub default_fits : FitsSigned w32 default
  pub low_fits : FitsSigned w32 low
  pub high_fits : FitsSigned w32 high
  pub are : fields ≡ s4 default ++ (s4 low ++ (s4 high ++ offsets))

-- lookupswitch: default and npairs, and what follows them
pub record HasCount (fields : List ℕ) (count : ℤ) (pairs : List ℕ) : Type 0 where
  pub default : ℤ
  pub default_fits : FitsSigned w32 default
  pub count_fits : FitsSigned w32 count
  pub are : fields ≡ s4 default ++ (s4 count ++ pairs)

-- ---- Cut: some of the instruction's bytes are not there

-- how many operands are wanted after wide and an opcode of this form
abbrev pub wide_count : OperandForm → ℕ
wide_count Slot = 2
wide_count SlotAndByte = 4
wide_count _ = 0

-- as many offsets as there are numbers from low to high
pub record LacksOffsets (fields : List ℕ) : Type 0 where
  pub low : ℤ
  pub high : ℤ
  pub offsets : List ℕ
  pub bounds : HasBounds fields low high offsets
  pub rising : low ≤ℤ high
  pub short : length offsets < (unsigned_abs (high -ℤ low) + 1) * 4

-- as many pairs as npairs
pub record LacksPairs (fields : List ℕ) : Type 0 where
  pub count : ℕ
  pub pairs : List ℕ
  pub counted : HasCount fields (pos count) pairs
  pub short : length pairs < count * 8

-- by the form of the opcode at the address, and what follows it
abbrev pub Lacks : ℕ → OperandForm → List ℕ → Type 0
Lacks at WidePrefix [] = Unit {0}
Lacks at WidePrefix (op ∷ operands) = length operands < wide_count (form_of op)
Lacks at TableSwitch operands =
    (length operands < padding_count at + 12) ⊎ LacksOffsets (drop (padding_count at) operands)
Lacks at LookupSwitch operands =
    (length operands < padding_count at + 8) ⊎ LacksPairs (drop (padding_count at) operands)
Lacks at form operands = IsSomeAnd (operand_count form) (λ count. length operands < count)

-- ---- BadOperand: bytes are there that the instruction may not have

-- high is below low
pub record HasFallingBounds (fields : List ℕ) : Type 0 where
  pub low : ℤ
  pub high : ℤ
  pub offsets : List ℕ
  pub bounds : HasBounds fields low high offsets
  pub falling : high <ℤ low

-- npairs is negative
pub record HasNegativeCount (fields : List ℕ) : Type 0 where
  pub count : ℤ
  pub pairs : List ℕ
  pub counted : HasCount fields count pairs
  pub negative : count <ℤ pos 0

-- the matches don't rise
pub record HasUnsortedPairs (at : ℕ) (fields : List ℕ) : Type 0 where
  pub pairs : List (ℤ × ℤ)
  pub more : List ℕ
  pub counted : HasCount fields (pos (length pairs)) (flat_map (pair_bytes at) pairs ++ more)
  pub fit : AllByRecursion (λ pair. FitsSigned w32 pair.0 × IsFar at pair.1) pairs
  pub unsorted : AllPairs (λ a b. a.0 <ℤ b.0) pairs → ⊥

-- wide comes before these alone
abbrev pub HasWideForm : OperandForm → Type 0
HasWideForm form = (form ≡ Slot) ⊎ (form ≡ SlotAndByte)

abbrev pub IsBad : ℕ → OperandForm → List ℕ → Type 0
-- the count is 0, or the fourth byte isn't
IsBad at InterfaceIndex operands = (4 ≤ length operands) × ((slice_index operands 2 ≡ 0) ⊎ (slice_index operands 3 ≢ 0))
-- the third or the fourth byte isn't 0
IsBad at DynamicIndex operands = (4 ≤ length operands) × ((slice_index operands 2 ≢ 0) ⊎ (slice_index operands 3 ≢ 0))
IsBad at ArrayType operands = (1 ≤ length operands) × (IsArrayType (slice_index operands 0) → ⊥)
-- no dimensions
IsBad at MultiIndex operands = (3 ≤ length operands) × (slice_index operands 2 ≡ 0)
IsBad at TableSwitch operands = HasFallingBounds (drop (padding_count at) operands)
IsBad at LookupSwitch operands =
    HasNegativeCount (drop (padding_count at) operands) ⊎ HasUnsortedPairs at (drop (padding_count at) operands)
IsBad at WidePrefix operands = (1 ≤ length operands) × (HasWideForm (form_of (slice_index operands 0)) → ⊥)
IsBad at form operands = ⊥

-- ---- the cause of a refusal

abbrev pub Refuses : List ℕ → ℕ → OpError → Type 0
Refuses code at (errors.Reserved op) = (slice_index code at ≡ op) × (203 ≤ op)
Refuses code at errors.Cut = Lacks at (form_of (slice_index code at)) (drop (at + 1) code)
Refuses code at errors.BadOperand = IsBad at (form_of (slice_index code at)) (drop (at + 1) code)
Refuses code at errors.Memory = ⊥

-- want of memory has no cause in the code
abbrev pub IsRefused : List ℕ → ℕ → OpError → Type 0
IsRefused code at errors.Memory = Unit {0}
IsRefused code at e = Refuses code at e

-- this is the answer, unless memory ran out
abbrev pub Yields : Result (Instr × ℕ) OpError → Result (Instr × ℕ) OpError → Type 0
Yields result answer = (result ≡ answer) ⊎ IsErrOf result errors.Memory
