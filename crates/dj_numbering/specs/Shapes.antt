-- Types that name classes by their numbers.
use Rattle.std.specs.Prelude.{◌<◌, List, length, unwrap_or}
use Rattle.std.specs.List.{AllByRecursion}
use Rattle.dj_names.specs.declared.descriptor.Of.{Of}
use Rattle.dj_names.specs.declared.descriptor.Of.TheVariants as ofs
use Rattle.dj_names.specs.declared.descriptor.Ty.{Ty}
use Rattle.dj_model.specs.trusted.Program.{Program}
use Rattle.dj_class_table.specs.Tables.{class_number}
use Rattle.dj_resolution.specs.Linked.{class_name}
use Rattle.dj_numbering.specs.declared.shapes.ElementType.{ElementType}
use Rattle.dj_numbering.specs.declared.shapes.ElementType.TheVariants as elements
use Rattle.dj_numbering.specs.declared.shapes.Shape.{Shape}

-- ---- a type of a shape

abbrev pub element_of : Program → ElementType → Of
element_of program (elements.Base base) = ofs.Base base
element_of program (elements.Class class) = ofs.Class (class_name program class)

abbrev pub shape_type : Program → Shape → Ty
shape_type program shape = record { dims = shape.dims; of = element_of program shape.of }

-- the class of the elements is there
abbrev pub IsElement : Program → ElementType → Type 0
IsElement program (elements.Base base) = Unit {0}
IsElement program (elements.Class class) = class < length program

-- the class of each one's elements is there
abbrev pub AreElements : Program → List Shape → Type 0
AreElements program shapes = AllByRecursion (λ (shape : Shape). IsElement program shape.of) shapes

-- ---- a shape of a type

-- where the class isn't there its number doesn't matter
abbrev pub element_in : Program → Of → ElementType
element_in program (ofs.Base base) = elements.Base base
element_in program (ofs.Class name) = elements.Class (unwrap_or (class_number program name) 0)

abbrev pub shape_in : Program → Ty → Shape
shape_in program ty = record { dims = ty.dims; of = element_in program ty.of }
