-- Programs under whose names the library's classes stand, and what resolution finds in them by numbers and by texts.
use Rattle.std.specs.Prelude.{ℕ, List, [], Option, unwrap_or}
use Rattle.dj_names.specs.trusted.Types.{Name, class_type}
use Rattle.dj_names.specs.Types.{sandbox_prefix}
use Rattle.dj_model.specs.trusted.Types.{Member, Prefix}
use Rattle.dj_model.specs.trusted.Program.{Program}
use Rattle.dj_model.specs.trusted.Linking.{FoundMethod, FoundField, resolve_method, resolve_field}
use Rattle.dj_declarations.specs.trusted.Files.{desc_in}
use Rattle.dj_class_table.specs.Tables.{name_at}
use Rattle.dj_resolution.specs.declared.linker.BaseNames.{BaseNames}
use Rattle.dj_resolution.specs.declared.linker.BaseNames.TheVariants as bases

-- what stands before the names of the library's classes
abbrev pub prefix_of : BaseNames → Prefix
prefix_of bases.Plain = []
prefix_of bases.Sandbox = sandbox_prefix

pub record Linked : Type 0 where
  pub program : Program
  pub prefix : Prefix

-- a member of this name and of the descriptor that the text spells, looked for in the class of this number
abbrev pub member_of : Program → ℕ → Name → List ℕ → Member
member_of program class name desc = record {
  class = class_type (unwrap_or (name_at program class) []);
  name = name;
  desc = desc_in desc;
}

abbrev pub resolved_method : Linked → ℕ → Name → List ℕ → Option FoundMethod
resolved_method linked class name desc = resolve_method linked.program linked.prefix (member_of linked.program class name desc)

abbrev pub resolved_field : Linked → ℕ → Name → List ℕ → Option FoundField
resolved_field linked class name desc = resolve_field linked.program linked.prefix (member_of linked.program class name desc)

-- the name of the class of this number
abbrev pub class_name : Program → ℕ → Name
class_name program class = unwrap_or (name_at program class) []
