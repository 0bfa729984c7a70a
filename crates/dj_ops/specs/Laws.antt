-- What holds of instructions and their bytes, whoever reads or writes them.
use Rattle.std.specs.Prelude.{◌≡◌, ℕ, ◌+◌, ◌<◌, ◌⊎◌, List, ◌++◌, length, slice_index}
use Rattle.dj_ops.specs.declared.instruction.Instr.{Instr}
use Rattle.dj_ops.specs.declared.read.OpError.{OpError}
use Rattle.dj_ops.specs.trusted.Instructions.{IsProper, AreOffsets, SpellsInstruction, Stands, written, length_at}
use Rattle.dj_ops.specs.Refusals.{Refuses}

-- an address has one instruction at most, and one address after it
abbrev pub OneInstruction : Type 0
OneInstruction = (code : List ℕ) (at m n : ℕ) (a b : Instr) → Stands code at a m → Stands code at b n → (a ≡ b) × (m ≡ n)

-- what is written spells the instruction
abbrev pub WrittenSpells : Type 0
WrittenSpells = (at : ℕ) (instr : Instr) → AreOffsets at instr → SpellsInstruction at instr (written at instr)

-- between whatever bytes it is written, it is read there
abbrev pub WrittenStands : Type 0
WrittenStands = (before after : List ℕ) (instr : Instr) → IsProper instr → AreOffsets (length before) instr
    → Stands (before ++ (written (length before) instr ++ after)) (length before) instr (length before + length_at (length before) instr)

-- however it is padded, it has as many bytes
abbrev pub SpelledLength : Type 0
SpelledLength = (at : ℕ) (instr : Instr) (bytes : List ℕ) → SpellsInstruction at instr bytes → length bytes ≡ length_at at instr

-- where an instruction stands, the next address is as far as that
abbrev pub NextAddress : Type 0
NextAddress = (code : List ℕ) (at next : ℕ) (instr : Instr) → Stands code at instr next → next ≡ at + length_at at instr

-- an address of bytes has one refusal at most
abbrev pub OneRefusal : Type 0
OneRefusal = (code : List ℕ) (at : ℕ) (a b : OpError) → ((i : ℕ) → slice_index code i < 256) → at < length code → Refuses code at a → Refuses code at b → a ≡ b

-- where there is a refusal there is no instruction
abbrev pub NoInstructionWhereRefused : Type 0
NoInstructionWhereRefused = (code : List ℕ) (at next : ℕ) (instr : Instr) (e : OpError) → ((i : ℕ) → slice_index code i < 256) → Stands code at instr next → Refuses code at e → ⊥

pub record HasInstruction (code : List ℕ) (at : ℕ) : Type 0 where
  pub instr : Instr
  pub next : ℕ
  pub stands : Stands code at instr next

pub record HasRefusal (code : List ℕ) (at : ℕ) : Type 0 where
  pub error : OpError
  pub cause : Refuses code at error

-- an address of bytes has an instruction or a refusal
abbrev pub InstructionOrRefusal : Type 0
InstructionOrRefusal = (code : List ℕ) (at : ℕ) → ((i : ℕ) → slice_index code i < 256) → at < length code → HasInstruction code at ⊎ HasRefusal code at
