-- What the view of a Code attribute shows, and what reading one answers.
use Rattle.std.specs.Prelude.{⊤, ℕ, List, Result, Ok, Err}
use Rattle.dj_class.specs.declared.class.ClassError.{ClassError}
use Rattle.dj_class.specs.declared.class.ClassError.TheVariants as class_errors
use Rattle.dj_class.specs.declared.code.CodeView.{CodeView}
use Rattle.dj_class.specs.trusted.Code.{CodeInfo, IsCode}
use Rattle.dj_class.specs.CodeFaults.{IsCodeFault}

abbrev pub code_of : CodeView → CodeInfo
code_of c = record { max_stack = c.max_stack; max_locals = c.max_locals; code = c.code.now; table = c.table; attributes = c.attributes }

-- the body of a Code attribute is read, or its first fault is reported, or memory ran out
abbrev pub ReadsCode : List ℕ → Result CodeView ClassError → Type 0
ReadsCode body (Ok view) = IsCode body (code_of view)
ReadsCode body (Err class_errors.Memory) = ⊤
ReadsCode body (Err e) = IsCodeFault body e
