-- Classes with the code and constants that their files have: what indexes name is looked up in the pool of the class.
use Rattle.std.specs.Prelude.{List, ◌∷◌, map, Option, Some, None}
use Rattle.dj_pool.specs.trusted.Pool.{Constant}
use Rattle.dj_model.specs.trusted.Program as programs
use Rattle.dj_model.specs.trusted.Program.{Program, Class, Method, Field, Runs}
use Rattle.dj_program.specs.trusted.Codes.{CodeParts, code_in}

pub record Source : Type 0 where
  -- the class as it is declared
  pub class : Class
  -- the constants of its file; a library's class has none
  pub pool : List Constant
  -- for each method, in order, its code, where it has some
  pub codes : List (Option CodeParts)
  -- for each field, in order, the constant with which it begins, where it has one
  pub values : List (Option programs.Constant)

abbrev pub with_code : List Constant → Method → Option CodeParts → Method
with_code pool m None = m
with_code pool m (Some parts) = record m { body = Runs (code_in pool parts) }

-- methods that lack their code, each with the code at its place
abbrev pub with_codes : List Constant → List Method → List (Option CodeParts) → List Method
with_codes pool (m ∷ methods) (code ∷ codes) = with_code pool m code ∷ with_codes pool methods codes
with_codes pool methods codes = methods

abbrev pub with_values : List Field → List (Option programs.Constant) → List Field
with_values (f ∷ fields) (value ∷ values) = record f { constant = value } ∷ with_values fields values
with_values fields values = fields

unfoldable pub class_of_source : Source → Class
class_of_source s = record s.class {
  fields = with_values s.class.fields s.values;
  methods = with_codes s.pool s.class.methods s.codes;
}

abbrev pub program_of_sources : List Source → Program
program_of_sources sources = map class_of_source sources
