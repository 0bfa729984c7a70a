-- What classes have beside what they declare.
use Rattle.std.specs.Prelude.{◌≡◌, ℕ, ◌^◌, ◌<◌, ⊤, List, [], ◌∷◌, map, length, Option, Some, None, IsTrue, get_or, slice_get, is_some}
use Rattle.std.specs.Option.{option_map}
use Rattle.dj_pool.specs.trusted.Pool.{Constant, IsPool}
use Rattle.dj_model.specs.trusted.Program as programs
use Rattle.dj_model.specs.trusted.Program.{Program, Class, Method, Runs, has_code}
use Rattle.dj_names.specs.declared.descriptor.Desc.{Desc}
use Rattle.dj_model.specs.trusted.Types.{Prefix, string_name}
use Rattle.dj_declarations.specs.trusted.Files.{desc_in, name_in}
use Rattle.dj_declarations.specs.Members.{IsDescriptor}
use Rattle.dj_class_table.specs.Tables.{class_number}
use Rattle.dj_shape_rule.specs.Pools.{ArePoolKinds}
use Rattle.dj_program.specs.trusted.Naming.{units_in}
use Rattle.dj_program.specs.Views.{parts_of}
use Rattle.dj_numbering.specs.Members.{all_methods, all_fields}
use Rattle.dj_image.specs.declared.parts.ClassParts.{ClassParts}
use Rattle.dj_image.specs.declared.parts.FieldValue.{FieldValue}
use Rattle.dj_image.specs.declared.parts.FieldValue.TheVariants as values
use Rattle.dj_image.specs.Sources.{Source, program_of_sources}

-- a text is given by its index among the constants of the class
abbrev pub constant_of_value : List Constant → FieldValue → programs.Constant
constant_of_value pool (values.Int z) = programs.Int z
constant_of_value pool (values.Long z) = programs.Long z
constant_of_value pool (values.Text index) = programs.Text (units_in (name_in pool index))
constant_of_value pool values.Unfit = programs.Unfit

abbrev pub source_of : Class → ClassParts → Source
source_of class parts = record {
  class = class;
  pool = parts.pool;
  codes = map (option_map parts_of) parts.codes.items;
  values = map (option_map (constant_of_value parts.pool)) parts.values.items;
}

-- classes side by side with their parts
unfoldable pub sources_of : Program → List ClassParts → List Source
sources_of (c ∷ classes) (p ∷ parts) = source_of c p ∷ sources_of classes parts
sources_of classes parts = []

-- ---- parts that fit

-- exactly the methods that have code have some here
abbrev pub FitMethods : {A : Type 0} → List Method → List (Option A) → Type 0
FitMethods {A} [] [] = ⊤
FitMethods {A} (m ∷ methods) (None ∷ codes) = (IsTrue (has_code m.body) → ⊥) × FitMethods methods codes
FitMethods {A} (m ∷ methods) (Some code ∷ codes) = IsTrue (has_code m.body) × FitMethods methods codes
FitMethods {A} methods codes = ⊥

-- the text of this index is the descriptor
pub record IsDescAt (pool : List Constant) (index : ℕ) (desc : Desc) : Type 0 where
  pub spelled : IsDescriptor (name_in pool index)
  pub is : desc_in (name_in pool index) ≡ desc

pub record FitClass (class : Class) (parts : ClassParts) : Type 0 where
  pub methods : FitMethods class.methods parts.codes.items
  pub fields : length parts.values.items ≡ length class.fields
  pub pool : length parts.pool < 2 ^ 16
  pub valid : IsPool parts.pool
  pub kinds : ArePoolKinds parts.pool parts.kinds
  pub descs : (k : ℕ) (m : Method) → slice_get class.methods k ≡ Some m → IsTrue (has_code m.body) → IsDescAt parts.pool (get_or parts.descs.items k 0) m.desc

abbrev pub FitClasses : Program → List ClassParts → Type 0
FitClasses [] [] = ⊤
FitClasses (c ∷ classes) (p ∷ parts) = FitClass c p × FitClasses classes parts
FitClasses classes parts = ⊥

-- ---- numbers

-- there is a number of 32 bits for each class, array and text that may be numbered, and for each member
pub record AreFew (sources : List Source) : Type 0 where
  pub methods : length (all_methods (program_of_sources sources)) < 2 ^ 32
  pub fields : length (all_fields (program_of_sources sources)) < 2 ^ 32

-- the class String is there, under the prefix of the library's names
abbrev pub HasString : Program → Prefix → Type 0
HasString program prefix = IsTrue (is_some (class_number program (string_name prefix)))
