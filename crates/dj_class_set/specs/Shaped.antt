-- Methods of a straight class, and whether they have shape.
use Rattle.std.specs.Prelude.{ℕ, ◌<◌, ◌^◌, ◌⊎◌, List, ◌++◌, length, ⊤, Option, Some, None, All, Contains}
use Rattle.dj_report.specs.declared.report.Violation.{Violation}
use Rattle.dj_straight.specs.trusted.Program.{Method}
use Rattle.dj_straight.specs.trusted.Shape.{IsShapeFault}
use Rattle.dj_straight.specs.Shape.{HasShape}
use Rattle.dj_straight.specs.declared.program.StraightMethod.{StraightMethod}
use Rattle.dj_straight.specs.declared.program.StraightClass.{StraightClass}
use Rattle.dj_straight.specs.trusted.Methods.{straight_signature}
use Rattle.dj_straight.specs.Methods.{code_view}

-- the class is there, and the method is one of its own
abbrev pub IsMethodOf : Option StraightClass → StraightMethod → Type 0
IsMethodOf None m = ⊥
IsMethodOf (Some c) m = Contains c.methods.items m

-- the instructions of each method are few enough for a number of 32 bits
abbrev pub AreShort : Option StraightClass → Type 0
AreShort None = ⊤
AreShort (Some c) = All (λ m. length m.actions.items < 2 ^ 32) c.methods.items

abbrev pub IsShaped : StraightMethod → Type 0
IsShaped m = HasShape straight_signature (code_view m)

-- each method of the class has shape
abbrev pub AreShaped : Option StraightClass → Type 0
AreShaped None = ⊤
AreShaped (Some c) = All IsShaped c.methods.items

-- the method has shape, or the number of its first fault, if it has one, is known
abbrev pub IsReported : StraightMethod → Type 0
IsReported m = IsShaped m ⊎ ((number : Option ℕ) × IsShapeFault straight_signature (code_view m) number)

abbrev pub AreReported : Option StraightClass → Type 0
AreReported None = ⊤
AreReported (Some c) = All IsReported c.methods.items

-- the line for a method that has no shape
abbrev pub shape_line : List ℕ → Method → Option ℕ → Violation
shape_line path m number = record { path = path; member = m.name ++ m.desc; number = number; rule = 19 }
