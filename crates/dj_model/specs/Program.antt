-- Beside trusted/Program.antt: what no clause of the call `djvm` reaches.
use Rattle.std.specs.Prelude.{ℕ, Bool, map, bit_and}
use Rattle.std.specs.Option.{option_map}
use Rattle.dj_names.specs.trusted.Types.{Name}
use Rattle.dj_names.specs.Types.{desc_map}
use Rattle.dj_model.specs.Instructions.{instruction_map, named_map}
use Rattle.dj_model.specs.trusted.Program.{Range, Code, Body, Abstract, Native, Runs, Method, Field, Class, Program, has_flag}

-- ---- flags (JVMS tables 4.1-A, 4.5-A and 4.6-A)

-- 0x0010
abbrev pub is_final : ℕ → Bool
is_final flags = has_flag 4 flags

-- ---- programs with other class names and other code

abbrev pub range_map : (Name → Name) → Range → Range
range_map f range = record range { catches = option_map (named_map f) range.catches }

abbrev pub code_map : (Name → Name) → Code → Code
code_map f code = record code { instructions = map (instruction_map f) code.instructions; ranges = map (range_map f) code.ranges }

abbrev pub body_map : (Code → Code) → Body → Body
body_map g Abstract = Abstract
body_map g (Native id) = Native id
body_map g (Runs code) = Runs (g code)

-- A rewritten method isn't synchronized: ACC_SYNCHRONIZED, 0x0020, is cleared, which no run reads.
-- 65503 is 0xffdf.
abbrev pub method_map : (Name → Name) → (Code → Code) → Method → Method
method_map f g m = record { flags = bit_and m.flags 65503; name = m.name; desc = desc_map f m.desc; body = body_map g m.body }

abbrev pub field_map : (Name → Name) → Field → Field
field_map f x = record { flags = x.flags; name = x.name; desc = desc_map f x.desc; constant = x.constant }

abbrev pub class_map : (Name → Name) → (Code → Code) → Class → Class
class_map f g c = record {
  name = f c.name;
  flags = c.flags;
  superclass = option_map f c.superclass;
  interfaces = map f c.interfaces;
  unnamed_fields = c.unnamed_fields;
  fields = map (field_map f) c.fields;
  methods = map (method_map f g) c.methods;
}

-- each class gets another name, and each method other code
abbrev pub program_map : (Name → Name) → (Code → Code) → Program → Program
program_map f g program = map (class_map f g) program
