-- Lines of which an instruction, an entry, a jump, the code or a count doesn't fit a class file.
use Rattle.std.specs.Prelude.{◌≡◌, ℕ, ◌+◌, ◌<◌, ◌≤◌, ◌⊎◌, Bool, true, false, List, ◌∷◌, ◌++◌, length, take, Some, slice_get}
use Rattle.std.specs.List.{count_by}
use Rattle.dj_ops.specs.declared.instruction.Instr.{Instr}
use Rattle.dj_ops.specs.trusted.Instructions.{IsProper}
use Rattle.dj_layout.specs.trusted.Places.{starts_from, end_from}
use Rattle.dj_layout.specs.trusted.Layouts.{placed, most_bytes}
use Rattle.dj_layout.specs.trusted.Faults.{Reaches}
use Rattle.dj_asm_source.specs.trusted.Lines.{Frame, Full, Operation, Catch, Line, Implements, Field, Abstract, Method, Beside, Framed, Does, End}
use Rattle.dj_asm_source.specs.trusted.Sources.{Source, lines_of}
use Rattle.dj_asm_source.specs.trusted.Labels.{instruction_count, AreMethodLines}
use Rattle.dj_asm_pool.specs.trusted.Needs.{index_in}
use Rattle.dj_asm_pool.specs.trusted.Room.{IsPastPool}
use Rattle.dj_asm.specs.trusted.Codes.{IsInstrOf, AreInstrsOf}
use Rattle.dj_asm.specs.trusted.Files.{places_of}

-- ---- instructions and code

-- a line of a method, with the lines of the body before it; place is its place among the lines of the source
pub record IsMethodLine (s : Source) (place : ℕ) (body : List Line) (prefix : List Line) (line : Line) : Type 0 where
  pub before : ℕ
  pub in_method : AreMethodLines s before body
  pub rest : List Line
  pub parts : body ≡ prefix ++ line ∷ rest
  pub place_is : place ≡ before + length prefix

-- the instruction isn't proper: a table without targets or with numbers of more than 32 bits, matches that don't rise, too many slots for a count,
-- no dimensions, or an index of more than one byte where there is one byte for it
pub record IsImproper (s : Source) (place : ℕ) : Type 0 where
  pub body : List Line
  pub prefix : List Line
  pub operation : Operation
  pub at : IsMethodLine s place body prefix (Does operation)
  pub instr : Instr
  pub is_instr : IsInstrOf (places_of (index_in s) body) operation instr
  pub improper : IsProper instr → ⊥

-- a jump whose offset doesn't fit
pub record IsFarJump (s : Source) (place : ℕ) : Type 0 where
  pub body : List Line
  pub prefix : List Line
  pub operation : Operation
  pub at : IsMethodLine s place body prefix (Does operation)
  pub instrs : List Instr
  pub are_instrs : AreInstrsOf (places_of (index_in s) body) body instrs
  pub jump : ℕ × Instr
  pub number : slice_get (placed (starts_from 0 instrs) instrs) (instruction_count prefix) ≡ Some jump
  pub far : Reaches jump → ⊥

-- the `.end` of code with too many bytes
pub record IsEndOfLongCode (s : Source) (place : ℕ) : Type 0 where
  pub body : List Line
  pub prefix : List Line
  pub at : IsMethodLine s place body prefix End
  pub instrs : List Instr
  pub are_instrs : AreInstrsOf (places_of (index_in s) body) body instrs
  pub long : most_bytes < end_from 0 instrs

-- ---- counts

-- the most lines that a count of two bytes can count
abbrev pub most_lines : ℕ
most_lines = 65535

abbrev pub is_interface : Line → Bool
is_interface (Implements name) = true
is_interface line = false

abbrev pub is_field : Line → Bool
is_field (Field flags name desc value) = true
is_field line = false

abbrev pub is_method : Line → Bool
is_method (Abstract flags name desc) = true
is_method (Method flags name desc) = true
is_method line = false

abbrev pub is_catch : Line → Bool
is_catch (Beside (Catch class from to handler)) = true
is_catch line = false

-- such a line, after at least as many of them as a count can count
pub record IsOneTooMany (is_such : Line → Bool) (count : ℕ) (line : Line) : Type 0 where
  pub such : is_such line ≡ true
  pub many : most_lines ≤ count

-- how many such lines come before this place
abbrev pub count_before : (Line → Bool) → Source → ℕ → ℕ
count_before is_such s place = count_by is_such (take place (lines_of s))

-- one interface, field or method too many for the class
pub record IsPastTable (s : Source) (place : ℕ) : Type 0 where
  pub line : Line
  pub at : slice_get (lines_of s) place ≡ Some line
  pub too_many : IsOneTooMany is_interface (count_before is_interface s place) line
      ⊎ (IsOneTooMany is_field (count_before is_field s place) line ⊎ IsOneTooMany is_method (count_before is_method s place) line)

-- one `.catch` too many for its method
pub record IsPastCatches (s : Source) (place : ℕ) : Type 0 where
  pub body : List Line
  pub prefix : List Line
  pub line : Line
  pub at : IsMethodLine s place body prefix line
  pub too_many : IsOneTooMany is_catch (count_by is_catch prefix) line

-- JVMS 4.7.4: a list of types has a count of two bytes
abbrev pub HasTooMany : {A : Type 0} → List A → Type 0
HasTooMany types = most_lines < length types

abbrev pub HasLongLists : Frame → Type 0
HasLongLists (Full locals stack) = HasTooMany locals ⊎ HasTooMany stack
HasLongLists frame = ⊥

-- a full frame with too many types
pub record IsLongFrame (s : Source) (place : ℕ) : Type 0 where
  pub frame : Frame
  pub at : slice_get (lines_of s) place ≡ Some (Framed frame)
  pub long : HasLongLists frame

-- ---- one of these

abbrev pub IsTooLarge : Source → ℕ → Type 0
IsTooLarge s place =
    IsPastPool s place ⊎ (IsImproper s place ⊎ (IsFarJump s place ⊎ (IsEndOfLongCode s place
    ⊎ (IsPastTable s place ⊎ (IsPastCatches s place ⊎ IsLongFrame s place)))))
