-- What is kept of the arrays beside their types.
use Rattle.std.specs.Prelude.{◌≡◌, ℕ, ◌+◌, ◌-◌, ◌^◌, ◌<◌, List, [], ◌∷◌, ◌++◌, map, drop, length, get_or, Option, Some, None, if◌then◌else◌}
use Rattle.std.specs.Ordering.{nat_cmp}
use Rattle.std.specs.Cmp.Lexicographic.{slice_cmp}
use Rattle.std.specs.List.Sorted.{IsStrictlySortedBy}
use Rattle.dj_names.specs.declared.descriptor.Base.{Base}
use Rattle.dj_names.specs.declared.descriptor.Base.TheVariants as bases
use Rattle.dj_names.specs.declared.descriptor.Of.{Of}
use Rattle.dj_names.specs.declared.descriptor.Of.TheVariants as ofs
use Rattle.dj_names.specs.declared.descriptor.Ty.{Ty}
use Rattle.dj_names.specs.trusted.Types.{Name, component_type}
use Rattle.dj_names.specs.trusted.Descriptors.{type_text}
use Rattle.dj_model.specs.trusted.Types.{Prefix}
use Rattle.dj_model.specs.trusted.Program.{Program, Class}
use Rattle.dj_class_table.specs.Tables.{name_of}
use Rattle.dj_resolution.specs.Directories.{CallTable, IsCallTable}
use Rattle.dj_numbering.specs.declared.arrays.Arrays.{Arrays}
use Rattle.dj_numbering.specs.declared.members.Members.{Members}
use Rattle.dj_numbering.specs.Typed.{ArePlain, AreArrays, has_references, place_of_text, text_of_type}
use Rattle.dj_numbering.specs.declared.shapes.ElementType.{ElementType}
use Rattle.dj_numbering.specs.declared.shapes.ElementType.TheVariants as elements
use Rattle.dj_numbering.specs.declared.shapes.Shape.{Shape}
use Rattle.dj_numbering.specs.Shapes.{AreElements, shape_type}
use Rattle.dj_numbering.specs.Numbered.{AreMembers, AreObjectPlaces}
use Rattle.dj_numbering.specs.declared.own.OwnClasses.{OwnClasses}
use Rattle.dj_numbering.specs.Own.{AreOwn}

-- each text is below those after it
abbrev pub DoTextsRise : List Name → Type 0
DoTextsRise = IsStrictlySortedBy (slice_cmp nat_cmp)

-- the number of the class of this name, or of the array of this descriptor
abbrev pub number_among : Program → List Name → Name → Option ℕ
number_among program texts text = place_of_text (map name_of program ++ texts) text

-- the name of the class or the descriptor of the array that the elements are
abbrev pub component_text : Ty → Option Name
component_text ty = if has_references ty then Some (text_of_type (component_type ty)) else None

abbrev pub number_if : Program → List Name → Option Name → Option ℕ
number_if program texts None = None
number_if program texts (Some text) = number_among program texts text

abbrev pub component_in : Program → List Name → Ty → Option ℕ
component_in program texts ty = number_if program texts (component_text ty)

-- ---- descriptors of arrays, each the end of one that other arrays of the same share

-- under the most dimensions
unfoldable pub whole_text : Of → Name
whole_text of = type_text (record { dims = 255; of = of })

abbrev pub all_bases : List Base
all_bases = bases.Boolean ∷ bases.Byte ∷ bases.Char ∷ bases.Short ∷ bases.Int ∷ bases.Long ∷ bases.Float ∷ bases.Double ∷ []

abbrev pub whole_of_base : Base → Name
whole_of_base base = whole_text (ofs.Base base)

abbrev pub whole_of_class : Class → Name
whole_of_class c = whole_text (ofs.Class (name_of c))

-- those of base types, and then those of classes
abbrev pub wholes_of : Program → List Name
wholes_of program = map whole_of_base all_bases ++ map whole_of_class program

abbrev pub base_place : Base → ℕ
base_place bases.Boolean = 0
base_place bases.Byte = 1
base_place bases.Char = 2
base_place bases.Short = 3
base_place bases.Int = 4
base_place bases.Long = 5
base_place bases.Float = 6
base_place bases.Double = 7

abbrev pub whole_place : ElementType → ℕ
whole_place (elements.Base base) = base_place base
whole_place (elements.Class class) = 8 + class

abbrev pub text_in : List Name → Shape → Name
text_in wholes shape = drop (255 - shape.dims) (get_or wholes (whole_place shape.of) [])

-- ---- one of each for each array

abbrev pub texts_kept : Arrays → List Name
texts_kept arrays = map (text_in arrays.wholes.items) arrays.shapes.items

abbrev pub types_kept : Program → Arrays → List Ty
types_kept program arrays = map (shape_type program) arrays.shapes.items

pub record AreKept (program : Program) (types : List Ty) (arrays : Arrays) : Type 0 where
  pub are_arrays : AreArrays program types
  pub few : length program + length types < 2 ^ 32
  pub texts : texts_kept arrays ≡ map type_text types
  pub shapes : types_kept program arrays ≡ types
  pub elements : AreElements program arrays.shapes.items
  pub components : arrays.components.items ≡ map (component_in program (map type_text types)) types

-- what is kept beside the classes and the types of the arrays
pub record IsTyped (program : Program) (prefix : Prefix) (types : List Ty) (arrays : Arrays) (members : Members) (calls : CallTable) (own : OwnClasses) (places : List ℕ) : Type 0 where
  pub plain : ArePlain program
  pub arrays_are : AreKept program types arrays
  pub members_are : AreMembers program members
  pub calls_are : IsCallTable program calls
  pub own_are : AreOwn (record { program = program; prefix = prefix; arrays = types }) own
  pub places_are : AreObjectPlaces program places
