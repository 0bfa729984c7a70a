-- Methods that are asked for a name.
use Rattle.std.specs.Prelude.{Bool, List}
use Rattle.std.specs.List.{list_any}
use Rattle.dj_names.specs.trusted.Types.{Name, same_name}
use Rattle.dj_model.specs.trusted.Program.{Method}

-- one of the methods has this name
abbrev pub has_method_named : List Method → Name → Bool
has_method_named methods name = list_any (λ m. same_name m.name name) methods
