-- Beside trusted/Files.antt: what no clause of the call `djvm` reaches.
use Rattle.std.specs.Prelude.{map, None}
use Rattle.dj_model.specs.trusted.Program.{Class, Method, Field}
use Rattle.dj_model.specs.Program.{body_map}
use Rattle.dj_declarations.specs.trusted.Files.{no_code}

-- ---- without code and constants

abbrev pub bare_method : Method → Method
bare_method m = record m { body = body_map (λ code. no_code) m.body }

abbrev pub bare_field : Field → Field
bare_field f = record f { constant = None }

abbrev pub bare_class : Class → Class
bare_class c = record c { fields = map bare_field c.fields; methods = map bare_method c.methods }
