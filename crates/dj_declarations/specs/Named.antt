-- Members of a class, and the texts that name them, by numbers: the number of a text is its place.
use Rattle.std.specs.Prelude.{◌≡◌, ℕ, ◌<◌, List, length}
use Rattle.dj_names.specs.declared.descriptor.Desc.{Desc}
use Rattle.dj_names.specs.trusted.Types.{Name}
use Rattle.dj_names.specs.trusted.Descriptors.{Describes}
use Rattle.dj_model.specs.trusted.Program.{Method, Field}
use Rattle.dj_declarations.specs.Texts.{text_in}

pub record NamedMembers : Type 0 where
  pub texts : List Name
  pub fields : List Field
  pub methods : List Method

-- the texts of these numbers are the name and the text of the descriptor
pub record IsNamedBy (texts : List Name) (name : Name) (desc : Desc) (n d : ℕ) : Type 0 where
  pub name_within : n < length texts
  pub name_is : text_in texts n ≡ name
  pub desc_within : d < length texts
  pub spelled : Describes (text_in texts d) desc
