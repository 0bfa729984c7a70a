-- Descriptors with a float or a double (JVMS 4.3). Arrays of them count; a letter within a class's name doesn't.
use Rattle.std.specs.Prelude.{◌≡◌, ℕ, ◌≤◌, ◌⊎◌, List, Contains, IsSomeAnd}
use Rattle.dj_names.specs.declared.descriptor.Base.TheVariants as bases
use Rattle.dj_names.specs.declared.descriptor.Of.TheVariants as ofs
use Rattle.dj_names.specs.declared.descriptor.Ty.{Ty}
use Rattle.dj_names.specs.declared.descriptor.Desc.{Desc}
use Rattle.dj_names.specs.declared.descriptor.Desc.TheVariants as descs
use Rattle.dj_names.specs.trusted.Descriptors.{Describes}
use Rattle.dj_pool.specs.trusted.Pool.{Constant, text_at}

-- a float, a double, or an array of those
abbrev pub IsFloating : Ty → Type 0
IsFloating ty = (ty.of ≡ ofs.Base bases.Float) ⊎ (ty.of ≡ ofs.Base bases.Double)

-- a parameter is a float, a double, or an array of those
abbrev pub HasFloating : List Ty → Type 0
HasFloating params = (ty : Ty) × Contains params ty × IsFloating ty

abbrev pub MentionsFloat : Desc → Type 0
MentionsFloat (descs.Field ty) = IsFloating ty
MentionsFloat (descs.Method params ret) = HasFloating params ⊎ IsSomeAnd ret IsFloating

-- the text is a descriptor with a float or a double
abbrev pub HasFloat : List ℕ → Type 0
HasFloat text = (desc : Desc) × Describes text desc × MentionsFloat desc

-- the text is the descriptor of an array of floats or doubles
pub record IsFloatArray (text : List ℕ) : Type 0 where
  pub ty : Ty
  pub array : 1 ≤ ty.dims
  pub described : Describes text (descs.Field ty)
  pub floating : IsFloating ty

-- the text at the index is a descriptor with a float or a double
abbrev pub NamesFloat : List Constant → ℕ → Type 0
NamesFloat pool index = IsSomeAnd (text_at pool index) HasFloat

-- the text at the index is the descriptor of an array of floats or doubles
abbrev pub NamesFloatArray : List Constant → ℕ → Type 0
NamesFloatArray pool index = IsSomeAnd (text_at pool index) IsFloatArray
