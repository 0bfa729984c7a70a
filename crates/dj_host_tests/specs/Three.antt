-- A program of three classes.
use Rattle.std.specs.Prelude.{List, [], ◌∷◌, ◌++◌, map, Option, Some, None, codes}
use Rattle.dj_names.specs.declared.descriptor.Base.TheVariants as bases
use Rattle.dj_names.specs.declared.descriptor.Ty.{Ty}
use Rattle.dj_names.specs.trusted.Types.{Name, class_type, base_array}
use Rattle.dj_model.specs.trusted.Program.{Class, Program}
use Rattle.dj_model.specs.trusted.Types.{object_name, string_name}

abbrev pub class_below : Name → Option Name → Class
class_below name superclass = record {
  name = name;
  flags = 33;
  superclass = superclass;
  interfaces = [];
  unnamed_fields = 0;
  fields = [];
  methods = [];
}

abbrev pub three_program : Program
three_program =
    class_below (object_name []) None ∷ class_below (string_name []) (Some (object_name [])) ∷ class_below (codes "p/q/R") (Some (object_name [])) ∷ []

-- with arrays of chars and of ints
abbrev pub three_types : List Ty
three_types = map (λ (c : Class). class_type c.name) three_program ++ base_array bases.Char ∷ base_array bases.Int ∷ []
