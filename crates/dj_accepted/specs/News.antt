-- Instructions that make objects, and the classes of a program.
use Rattle.std.specs.Prelude.{◌≡◌, ⊤, IsTrue, is_some}
use Rattle.dj_names.specs.trusted.Types.{Name, class_type}
use Rattle.dj_model.specs.trusted.Instructions.{Instruction, New}
use Rattle.dj_model.specs.trusted.Program.{Program}
use Rattle.dj_class_table.specs.Tables.{class_number}

-- where the instruction is `new`, its class is one of the program's
abbrev pub MakesKnown : Program → Instruction → Type 0
MakesKnown program (New class) = (name : Name) × (class ≡ class_type name) × IsTrue (is_some (class_number program name))
MakesKnown program i = ⊤
