-- The body of a method's Code attribute, and what the code's lists of instructions, ranges and frames are; used by the code alone.
use Rattle.std.specs.Prelude.{◌≡◌, ⊤, ℕ, ℤ, List, [], ◌∷◌, ◌++◌}
use Rattle.std.specs.List.{flat_map, AllByRecursion}
use Rattle.dj_ops.specs.declared.instruction.Instr.{Instr}
use Rattle.dj_ops.specs.declared.frames.Frame as frames
use Rattle.dj_ops.specs.trusted.Instructions.{IsProper}
use Rattle.dj_labels.specs.declared.labelled.Labelled.{Labelled}
use Rattle.dj_layout.specs.declared.laid.Laid.{Laid}
use Rattle.dj_layout.specs.trusted.Layouts.{IsLaidOut}
use Rattle.dj_class.specs.trusted.Code.{CodeInfo, code_info_bytes}
use Rattle.dj_asm_source.specs.trusted.Lines.{Operation, Plain, Push, Local, Increment, Load, LoadLong, Dynamic, ClassOf, Array, Multi, Line, Framed, Does}
use Rattle.dj_asm_source.specs.trusted.Sources.{Source, IsSizedSource}
use Rattle.dj_asm_source.specs.trusted.Labels.{AreMethodLines, IsMislabelled}
use Rattle.dj_asm_pool.specs.trusted.Entries.{Entry}
use Rattle.dj_asm_pool.specs.trusted.Needs.{entries_of}
use Rattle.dj_asm.specs.trusted.Codes.{Places, form_of, IsInstrOf, AreInstrsOf, ranges_in, IsCodeOf}
use Rattle.dj_asm.specs.trusted.Files.{places_of}
use Rattle.dj_asm.specs.trusted.Large.{IsTooLarge}
use Rattle.dj_asm_pool.specs.trusted.Room.{NoLine}

-- ---- instructions

-- an instruction that names neither labels nor entries
abbrev pub IsAlone : Operation → Type 0
IsAlone (Plain op) = ⊤
IsAlone (Push op n) = ⊤
IsAlone (Local wide op slot) = ⊤
IsAlone (Increment wide slot by) = ⊤
IsAlone (Array base) = ⊤
IsAlone operation = ⊥

-- an instruction that names one entry, except fields and methods
abbrev pub IsOfPool : Operation → Type 0
IsOfPool (Load op literal) = ⊤
IsOfPool (LoadLong n) = ⊤
IsOfPool (Dynamic n name desc) = ⊤
IsOfPool (ClassOf op class) = ⊤
IsOfPool (Multi desc dims) = ⊤
IsOfPool operation = ⊥

-- whatever instruction the operation is, it is proper
abbrev pub IsProperIn : Places → Operation → Type 0
IsProperIn places operation = (instr : Instr) → IsInstrOf places operation instr → IsProper instr

abbrev pub AreProperIn : Places → List Operation → Type 0
AreProperIn places operations = AllByRecursion (IsProperIn places) operations

-- the instructions of a body, and those with one more line
abbrev pub HasOneMore : Places → Line → List Instr → List Instr → Type 0
HasOneMore places line before now = (body : List Line) → AreInstrsOf places body before → AreInstrsOf places (body ++ line ∷ []) now

-- ---- frames

-- the frame of a line, after this many instructions
abbrev pub framed : Places → ℕ → Line → List frames.Frame
framed places number (Framed frame) = record { at = number; form = form_of places frame } ∷ []
framed places number line = []

-- ---- the attribute

-- the lines of a method, in a source that means a file and has this pool
pub record CanBeCode (kept : List Entry) (lines : List Line) : Type 0 where
  pub source : Source
  pub before : ℕ
  pub in_method : AreMethodLines source before lines
  pub allowed : IsSizedSource source
  pub labelled : NoLine (IsMislabelled source)
  pub fits : NoLine (IsTooLarge source)
  pub kept_is : kept ≡ entries_of source

-- the bytes are those of the lines' Code
pub record IsCodeBody (index : Entry → ℕ) (stack locals : ℤ) (lines : List Line) (bytes : List ℕ) : Type 0 where
  pub code : CodeInfo
  pub is_code : IsCodeOf (places_of index lines) stack locals lines code
  pub spelled : bytes ≡ code_info_bytes code

-- code that is laid out, of these lines
pub record IsLaidFor (places : Places) (lines : List Line) (laid : Laid) : Type 0 where
  pub labelled : Labelled
  pub instructions : AreInstrsOf places lines labelled.code
  pub ranges : labelled.ranges ≡ flat_map (ranges_in places) lines
  pub laid_out : IsLaidOut labelled laid
