-- The classes and arrays of a program by numbers.
use Rattle.std.specs.Prelude.{◌≡◌, ℕ, zero, suc, ◌<◌, ⊤, Bool, true, false, List, [], ◌∷◌, Option, Some, None, nat_eq, nat_le, if◌then◌else◌, slice_get, unwrap_or, length}
use Rattle.std.specs.Option.{option_map}
use Rattle.dj_names.specs.declared.descriptor.Ty.{Ty}
use Rattle.dj_names.specs.declared.descriptor.Of.{Of}
use Rattle.dj_names.specs.declared.descriptor.Of.TheVariants as ofs
use Rattle.dj_names.specs.trusted.Types.{class_type, component_type}
use Rattle.dj_model.specs.trusted.Types.{Prefix, is_stop}
use Rattle.dj_model.specs.trusted.Program.{Program, class_at, superclass_of}
use Rattle.dj_model.specs.trusted.Natives.{class_name}

-- the class or the array of a number
abbrev pub type_at : List Ty → ℕ → Ty
type_at types class = unwrap_or (slice_get types class) (class_type [])

-- the type is that of the number; without a number there is no type, or one that has none
abbrev pub IsNumberOf : List Ty → Option Ty → Option ℕ → Type 0
IsNumberOf types None None = ⊤
IsNumberOf types None (Some k) = ⊥
IsNumberOf types (Some ty) None = (k : ℕ) → slice_get types k ≡ Some ty → ⊥
IsNumberOf types (Some ty) (Some k) = slice_get types k ≡ Some ty

-- the superclass, as a type; an array has none
abbrev pub superclass_type : Program → Ty → Option Ty
superclass_type program ty = above ty.dims ty.of where
  above : ℕ → Of → Option Ty
  above zero (ofs.Class name) = option_map class_type (superclass_of (class_at program name))
  above zero (ofs.Base base) = None
  above (suc n) of = None

-- the elements are arrays, or objects of a class
abbrev pub holds_references : Ty → Bool
holds_references ty = of_references ty.dims ty.of where
  of_references : ℕ → Of → Bool
  of_references dims (ofs.Base base) = nat_le 2 dims
  of_references dims (ofs.Class name) = nat_le 1 dims

-- what the elements of an array of references are
abbrev pub component_of : Ty → Option Ty
component_of ty = if holds_references ty then Some (component_type ty) else None

abbrev pub is_number : Option ℕ → ℕ → Bool
is_number None k = false
is_number (Some n) k = nat_eq n k

-- of all numbers this one alone, where there is one, is of the class of the object that stops a run
abbrev pub SaysStop : List Ty → Prefix → Option ℕ → Type 0
SaysStop types prefix result = (k : ℕ) → k < length types → is_stop prefix (type_at types k) ≡ is_number result k

-- ---- laws of classes and arrays that have numbers

-- the text begins with a bracket, as the descriptor of an array does
abbrev pub begins_array : List ℕ → Bool
begins_array [] = false
begins_array (byte ∷ more) = nat_eq byte 91

-- what has no dimensions is a class, whose name doesn't begin so
abbrev pub ArePlain : List Ty → Type 0
ArePlain types = (k : ℕ) → k < length types → (type_at types k).dims ≡ 0 → begins_array (class_name (type_at types k)) ≡ false

-- the type has a number
pub record HasNumber (types : List Ty) (ty : Ty) : Type 0 where
  pub number : ℕ
  pub at : slice_get types number ≡ Some ty

-- what the elements of an array of references are has a number too
abbrev pub HaveComponents : List Ty → Type 0
HaveComponents types = (k : ℕ) → k < length types → holds_references (type_at types k) ≡ true → HasNumber types (component_type (type_at types k))
