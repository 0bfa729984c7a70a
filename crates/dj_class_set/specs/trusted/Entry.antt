-- The entry of a run, and the rules that are judged of a straight set: 19 SHAPE and 20 ENTRY.
use Rattle.std.specs.Prelude.{◌≡◌, ℕ, ◌==◌, ◌⊎◌, Bool, false, List, ◌∷◌, ◌++◌, map, Option, Some, None, Contains, codes, if◌then◌else◌, IsFalse}
use Rattle.dj_names.specs.trusted.ModifiedUtf8.{units_text}
use Rattle.dj_report.specs.declared.report.Violation.{Violation}
use Rattle.dj_edge.specs.trusted.Held.{File}
use Rattle.dj_straight.specs.trusted.Program.{Program, Class, Method, Code, Runs, MethodName, class_at, method_in, runs_static}
use Rattle.dj_straight.specs.trusted.Shape.{IsShapeFault}
use Rattle.dj_straight.specs.trusted.Methods.{straight_descriptor, straight_signature}
use Rattle.dj_report.specs.trusted.Lines.{file_line, AreExactly}
use Rattle.dj_file_rules.specs.trusted.Violations.{path_units}

-- each dot becomes a slash
abbrev pub with_slashes : List ℕ → List ℕ
with_slashes units = map (λ u. if u == 46 then 47 else u) units

-- JVMS 4.2.1 and 4.4.7: the name of the entry's class in modified UTF-8, from the UTF-8 of the word
abbrev pub entry_name : List ℕ → List ℕ
entry_name word = units_text (with_slashes (path_units word))

-- the method that is run
abbrev pub entry_method : List ℕ → MethodName
entry_method class = record { class = class; name = codes "verify"; desc = straight_descriptor }

abbrev pub class_runs : Option Class → Bool
class_runs None = false
class_runs (Some c) = runs_static (method_in c.methods (codes "verify") straight_descriptor)

-- the class of this name is there, and has a static method verify with code, from an array of bytes to one
abbrev pub has_entry : Program → List ℕ → Bool
has_entry program class = class_runs (class_at program class)

-- rule 19, SHAPE: a line for a method whose code has no shape, with the number of the fault's instruction or without one
pub record IsShapeLine (path : List ℕ) (methods : List Method) (v : Violation) : Type 0 where
  pub method : Method
  pub own : Contains methods method
  pub code : Code
  pub runs : method.body ≡ Runs code
  pub number : Option ℕ
  pub fault : IsShapeFault straight_signature code number
  pub line : v ≡ record { path = path; member = method.name ++ method.desc; number = number; rule = 19 }

-- a shape line of one of the files; the program has their classes in the same order
abbrev pub IsShapeLineOf : List File → Program → Violation → Type 0
IsShapeLineOf (file ∷ files) (class ∷ classes) v = IsShapeLine file.0 class.methods v ⊎ IsShapeLineOf files classes v
IsShapeLineOf _ _ v = ⊥

-- rule 20, ENTRY: there is no such entry; the line's path is the class's name and .class
abbrev pub IsEntryLine : Program → List ℕ → Violation → Type 0
IsEntryLine program class v = IsFalse (has_entry program class) × (v ≡ file_line (class ++ codes ".class") 20)

-- all violations of these rules in a straight set, in order, each once
abbrev pub AreRunViolations : List File → Program → List ℕ → List Violation → Type 0
AreRunViolations files program class = AreExactly (λ v. IsShapeLineOf files program v ⊎ IsEntryLine program class v)
