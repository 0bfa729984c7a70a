-- Used by the code alone: marks of the rules 17 and 18, before lines are made of them.
use Rattle.std.specs.Prelude.{◌≡◌, ℕ, List, Option, Some, slice_get, Contains}
use Rattle.dj_ops.specs.declared.instruction.Instr.{Instr}
use Rattle.dj_pool.specs.trusted.Pool.{Constant}
use Rattle.dj_class.specs.trusted.ClassFile.{MemberInfo, ClassFile}
use Rattle.dj_labels.specs.declared.labelled.Protected.{Protected}
use Rattle.dj_early_rules.specs.declared.marks.Mark.{Mark}
use Rattle.dj_early_rules.specs.Marks.{MarksOf}
use Rattle.dj_early_rules.specs.trusted.Methods.{MethodViolates}
use Rattle.dj_link_rules.specs.trusted.Lines.{IsUnreported}
use Rattle.dj_link_rules.specs.declared.known.Known.{Known}
use Rattle.dj_link_rules.specs.Known.{KnownRange}

-- no instruction of the code violates one of the rules 9 to 15
abbrev pub AreUnreported : List Constant → List Instr → Type 0
AreUnreported pool code = (number : ℕ) (instr : Instr) → slice_get code number ≡ Some instr → IsUnreported pool instr

-- the method violates none of the rules 9 to 16
abbrev pub IsUnreportedMethod : ClassFile → MemberInfo → Type 0
IsUnreportedMethod c m = (number : Option ℕ) (rule : ℕ) → MethodViolates c m number rule → ⊥

-- marks of the handlers of a method with these names
abbrev pub AreRangeMarks : ℕ × ℕ → Known → List Constant → List Protected → Mark → Type 0
AreRangeMarks names known pool ranges mark = (range : Protected) × Contains ranges range × MarksOf names (KnownRange known pool range) mark
