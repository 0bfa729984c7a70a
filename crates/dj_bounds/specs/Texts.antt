-- The texts of which a run keeps literals.
use Rattle.std.specs.Prelude.{◌≡◌, ℕ, ◌+◌, ◌≤◌, ⊤, List, [], ◌∷◌, Some, Contains}
use Rattle.dj_names.specs.trusted.Heaps.{text_size}
use Rattle.dj_names.specs.trusted.Types.{Name}
use Rattle.dj_model.specs.trusted.Types.{Declared}
use Rattle.dj_model.specs.trusted.Instructions.{PushText}
use Rattle.dj_model.specs.trusted.Program.{Program, Code, Field, Text, class_at, fields_of, code_of}
use Rattle.dj_model.specs.trusted.Runs.{Ran, Going, Finished, NoStep}
use Rattle.dj_bounds.specs.Bytes.{literal_bytes}

-- each text that code pushes, or with which a field begins, is one of these
pub record AreTextsOf (program : Program) (texts : List (List ℕ)) : Type 0 where
  pub pushed : (m : Declared) (code : Code) (units : List ℕ) → code_of program m ≡ Some code → Contains code.instructions (PushText units) → Contains texts units
  pub begun : (class : Name) (field : Field) (units : List ℕ) → Contains (fields_of (class_at program class)) field → field.constant ≡ Some (Text units) → Contains texts units

-- the bytes of their objects
abbrev pub text_bytes : List (List ℕ) → ℕ
text_bytes [] = 0
text_bytes (units ∷ texts) = text_size units + text_bytes texts

-- the literals of the state take at most so many bytes
abbrev pub AreLiteralsWithin : ℕ → Ran → Type 0
AreLiteralsWithin bytes (Going s) = literal_bytes s.literals ≤ bytes
AreLiteralsWithin bytes (Finished outcome s n) = literal_bytes s.literals ≤ bytes
AreLiteralsWithin bytes NoStep = ⊤
