-- Texts by the numbers that a directory gives them.
use Rattle.std.specs.Prelude.{◌≡◌, ◌⊎◌, ℕ, List, Option, Some, None}
use Rattle.dj_declarations.specs.Members.{IsDescriptor}
use Rattle.dj_member_index.specs.Numberings.{Numbering, number_of}
use Rattle.dj_resolution.specs.Linked.{Linked, resolved_method, resolved_field}

-- the texts have these numbers, and the second is a descriptor
pub record AreTexts (directory : Numbering) (name desc : ℕ) (n d : List ℕ) : Type 0 where
  pub name_is : number_of directory n ≡ Some name
  pub desc_is : number_of directory d ≡ Some desc
  pub described : IsDescriptor d

-- the numbers that the texts have, if any, and the second is a descriptor
pub record AreNumbersOf (directory : Numbering) (name desc : Option ℕ) (n d : List ℕ) : Type 0 where
  pub name_is : name ≡ number_of directory n
  pub desc_is : desc ≡ number_of directory d
  pub described : IsDescriptor d

-- where one of two texts has no number, nothing resolves in the class
pub record Unnumbered (linked : Linked) (directory : Numbering) (class : ℕ) : Type 0 where
  pub no_method : (n d : List ℕ) → IsDescriptor d → (number_of directory n ≡ None) ⊎ (number_of directory d ≡ None) → resolved_method linked class n d ≡ None
  pub no_field : (n d : List ℕ) → IsDescriptor d → (number_of directory n ≡ None) ⊎ (number_of directory d ≡ None) → resolved_field linked class n d ≡ None
