-- Used by the code alone: arrays by the texts of their descriptors.
use Rattle.std.specs.Prelude.{◌≡◌, ◌↔◌, ℕ, zero, suc, ◌≤◌, ◌&&◌, Bool, List, [], ◌∷◌, ◌++◌, map, Option, Some, None, IsTrue, Contains, nat_eq, nat_le, if◌then◌else◌}
use Rattle.std.specs.Global.{Vec}
use Rattle.std.specs.Ordering.{nat_cmp}
use Rattle.std.specs.Cmp.Lexicographic.{slice_cmp}
use Rattle.std.specs.List.{AllByRecursion, filter, filter_map}
use Rattle.std.specs.List.Sorted.{IsStrictlySortedBy}
use Rattle.std.specs.BTreeMap.{BTreeMap, get_by}
use Rattle.dj_names.specs.declared.descriptor.Base.TheVariants as bases
use Rattle.dj_names.specs.declared.descriptor.Of.{Of}
use Rattle.dj_names.specs.declared.descriptor.Of.TheVariants as ofs
use Rattle.dj_names.specs.declared.descriptor.Ty.{Ty}
use Rattle.dj_names.specs.trusted.Types.{Name, base_array}
use Rattle.dj_names.specs.trusted.Descriptors.{of_text}
use Rattle.dj_pool.specs.trusted.Pool.{Constant, IsClassText, NamesText}
use Rattle.dj_model.specs.trusted.Program.{Program}
use Rattle.dj_numbering.specs.declared.shapes.Shape.{Shape}
use Rattle.dj_numbering.specs.Typed.{is_known_of}
use Rattle.dj_image.specs.declared.lent_type.LentType.{LentType}
use Rattle.dj_image.specs.declared.lent_type.LentOf.{LentOf}
use Rattle.dj_image.specs.declared.lent_type.LentOf.TheVariants as lents
use Rattle.dj_image.specs.declared.parts.ClassParts.{ClassParts}
use Rattle.dj_image.specs.declared.uses.Use.{Use}
use Rattle.dj_image.specs.declared.uses.Use.TheVariants as uses
use Rattle.dj_image.specs.Uses.{used_types}
use Rattle.dj_image.specs.Imaged.{IsPartOf}

-- ---- types that are borrowed

abbrev pub of_lent : LentOf → Of
of_lent (lents.Base base) = ofs.Base base
of_lent (lents.Class name) = ofs.Class name.now

abbrev pub type_lent : LentType → Ty
type_lent ty = record { dims = ty.dims; of = of_lent ty.of }

-- the brackets that a text begins with
abbrev pub brackets : List ℕ → ℕ
brackets [] = 0
brackets (b ∷ more) = if nat_eq b 91 then suc (brackets more) else 0

-- the text that it names is one of a class constant
abbrev pub IsFitUse : List Constant → Use → Type 0
IsFitUse pool (uses.Itself text) = NamesText IsClassText pool text
IsFitUse pool (uses.Element text) = NamesText IsClassText pool text
IsFitUse pool one = Unit {0}

-- ---- rows

abbrev pub ArrayRows : Type 0
ArrayRows = BTreeMap (Vec ℕ) Ty

-- the texts rise
abbrev pub RowsRiseStrictly : List (Vec ℕ) → Type 0
RowsRiseStrictly texts = IsStrictlySortedBy (λ x y. slice_cmp nat_cmp x.items y.items) texts

-- the dimensions of a row, none where there is none
abbrev pub dims_in : Option Ty → ℕ
dims_in None = 0
dims_in (Some top) = top.dims

-- the most dimensions over what this is the descriptor of
abbrev pub most_at : ArrayRows → Name → ℕ
most_at rows text = dims_in (get_by (λ key. slice_cmp nat_cmp text key.items) rows)

-- the array has as many dimensions as one of its elements' row, or fewer
abbrev pub has_row : ArrayRows → Ty → Bool
has_row rows ty = nat_le 1 ty.dims && nat_le ty.dims (most_at rows (of_text ty.of))

-- a row is at the place of the descriptor of what its elements are
abbrev pub IsKeyed : Vec ℕ × Ty → Type 0
IsKeyed entry = (of_text entry.1.of ≡ entry.0.items) × (1 ≤ entry.1.dims) × (entry.1.dims ≤ 255)

-- the type is one of these arrays, or their elements, or the elements of these, and so on
abbrev pub IsRow : List Ty → Ty → Type 0
IsRow wholes ty = (whole : Ty) × Contains wholes whole × IsPartOf ty whole

-- each of these arrays, and each that is the elements of one at whatever depth, has a row
pub record AreRows (wholes : List Ty) (rows : ArrayRows) : Type 0 where
  pub keyed : AllByRecursion IsKeyed rows.entries
  pub each : (ty : Ty) → IsTrue (has_row rows ty) ↔ IsRow wholes ty

-- ---- in order

-- the array of this many dimensions, where the one with the most has as many
abbrev pub at_level : ℕ → Shape → Option Shape
at_level dims top = if nat_le dims top.dims then Some (record { dims = dims; of = top.of }) else None

abbrev pub level : ℕ → List Shape → List Shape
level dims tops = filter_map (at_level dims) tops

-- those of fewer dimensions first
abbrev pub levels : ℕ → List Shape → List Shape
levels zero tops = []
levels (suc dims) tops = levels dims tops ++ level (suc dims) tops

abbrev pub AreAllKnown : Program → List Ty → Type 0
AreAllKnown program types = AllByRecursion (λ (ty : Ty). IsTrue (is_known_of program ty.of)) types

-- ---- which have rows

abbrev pub known_types : Program → List Ty → List Ty
known_types program types = filter (λ ty. is_known_of program ty.of) types

abbrev pub first_wholes : List Ty
first_wholes = base_array bases.Byte ∷ (base_array bases.Char ∷ [])

abbrev pub wholes_of : Program → List ClassParts → List Ty
wholes_of program parts = first_wholes ++ known_types program (used_types parts)
