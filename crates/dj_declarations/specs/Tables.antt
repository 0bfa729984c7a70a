-- Used by the code alone: the members of a class, as the definitions see them.
use Rattle.std.specs.Prelude.{◌≡◌, List, map}
use Rattle.dj_model.specs.trusted.Program.{Method, Field}
use Rattle.dj_declarations.specs.declared.tables.ClassMembers.{ClassMembers}
use Rattle.dj_declarations.specs.MemberRows.{row_method, row_field}

abbrev pub methods_of : ClassMembers → List Method
methods_of members = map (row_method members.texts) members.methods.rows.items

abbrev pub fields_of : ClassMembers → List Field
fields_of members = map (row_field members.texts) members.fields.rows.items

-- these are the members
pub record AreMembers (fields : List Field) (methods : List Method) (members : ClassMembers) : Type 0 where
  pub fields_are : fields_of members ≡ fields
  pub methods_are : methods_of members ≡ methods
