-- Used by the code alone: what is found of the field of a number.
use Rattle.std.specs.Prelude.{◌≡◌, ℕ, true, Option, Some, None, slice_get}
use Rattle.dj_names.specs.trusted.Types.{field_kind}
use Rattle.dj_model.specs.trusted.Types.{Member}
use Rattle.dj_model.specs.trusted.Program.{is_static}
use Rattle.dj_model.specs.trusted.Linking.{FoundField, place_of}
use Rattle.dj_member_effects.specs.declared.fields.FieldAccess.{FieldAccess}
use Rattle.dj_class_table.specs.Tables.{name_at}
use Rattle.dj_numbering.specs.Members.{all_fields}
use Rattle.dj_image.specs.Imaged.{Imaged, program_of}
use Rattle.dj_image_effects.specs.Acting.{IsMember}

-- the class that declares the field of a number, its place and its kind
pub record IsAccessTo (imaged : Imaged) (n : ℕ) (access : FieldAccess) : Type 0 where
  pub found : FoundField
  pub there : slice_get (all_fields (program_of imaged)) n ≡ Some found
  pub class : name_at (program_of imaged) access.declaring ≡ Some found.class
  pub place : access.place ≡ place_of (program_of imaged) found
  pub kind : field_kind found.field.desc ≡ Some access.kind

-- none where it has no kind
abbrev pub IsAccess : Imaged → ℕ → Option FieldAccess → Type 0
IsAccess imaged n None = (found : FoundField) → slice_get (all_fields (program_of imaged)) n ≡ Some found → field_kind found.field.desc ≡ None
IsAccess imaged n (Some access) = IsAccessTo imaged n access

-- a member that is static resolves to it
pub record IsStaticAt (imaged : Imaged) (n : ℕ) : Type 0 where
  pub member : Member
  pub found : FoundField
  pub is : IsMember imaged member found n
  pub static : is_static found.field.flags ≡ true
