-- Where no body of a Code attribute is: the first fault, in the order in which it is read. Places are within the body.
use Rattle.std.specs.Prelude.{◌≡◌, ℕ, ◌<◌, ◌⊎◌, List, length}
use Rattle.dj_cursor.specs.trusted.Spelling.{u2, u4, table_bytes}
use Rattle.dj_cursor.specs.Reading.{start_of}
use Rattle.dj_cursor.specs.Faults.{IsCut, IsDenied, InTurn, InTable, IsLeft, Fits2, Fits4, AreFew}
use Rattle.dj_class.specs.declared.class.ClassError.{ClassError}
use Rattle.dj_class.specs.declared.class.ClassError.TheVariants as errors
use Rattle.dj_class.specs.trusted.ClassFile.{attribute_bytes}
use Rattle.dj_class.specs.trusted.Code.{row_bytes, IsRow, IsCodeAttribute}
use Rattle.dj_class.specs.Faults.{Fault, Cut2, Cut4}

-- JVMS 4.7.3: what code_length may be
abbrev pub IsCodeLength : ℕ → Type 0
IsCodeLength len = (0 < len) × (len < 65536)

abbrev pub LengthFault : Fault
LengthFault c e = Cut4 c e ⊎ IsDenied u4 Fits4 IsCodeLength errors.Index c e

-- a row of the exception table: four numbers
abbrev pub RowFault : Fault
RowFault = InTurn Cut2 u2 Fits2 (λ start. InTurn Cut2 u2 Fits2 (λ end. InTurn Cut2 u2 Fits2 (λ handler. Cut2)))

-- an attribute, whose name is not looked up
abbrev pub CodeAttributeFault : Fault
CodeAttributeFault = InTurn Cut2 u2 Fits2 (λ name. InTurn Cut4 u4 Fits4 (λ len. IsCut errors.Cut len))

-- the whole body, item by item (JVMS 4.7.3)
abbrev pub BodyFault : Fault
BodyFault =
    InTurn Cut2 u2 Fits2 (λ max_stack.
    InTurn Cut2 u2 Fits2 (λ max_locals.
    InTurn LengthFault u4 IsCodeLength (λ len.
    InTurn (IsCut errors.Cut len) (λ code. code) (λ code. length code ≡ len) (λ code.
    InTurn (InTable errors.Cut row_bytes IsRow RowFault) (table_bytes row_bytes) (AreFew IsRow) (λ table.
    InTurn (InTable errors.Cut attribute_bytes IsCodeAttribute CodeAttributeFault) (table_bytes attribute_bytes) (AreFew IsCodeAttribute) (λ attributes.
    IsLeft errors.Trailing))))))

-- the first fault of the bytes of a body
abbrev pub IsCodeFault : List ℕ → ClassError → Type 0
IsCodeFault body e = BodyFault (start_of body) e
