-- Classes as class files declare them, without the code of methods and the constants of fields, which no look-up reads (JVMS 4.1, 4.5, 4.6 and 5.4.3).
use Rattle.std.specs.Prelude.{ℕ, Bool, ◌||◌, List, [], ◌∷◌, map, Some, None, unwrap_or, nat_eq, if◌then◌else◌}
use Rattle.std.specs.List.{starts_with}
use Rattle.dj_names.specs.declared.descriptor.Ty.{Ty}
use Rattle.dj_names.specs.declared.descriptor.Desc.{Desc}
use Rattle.dj_names.specs.declared.descriptor.Desc.TheVariants as descs
use Rattle.dj_names.specs.trusted.DescReading.{desc_read}
use Rattle.dj_names.specs.trusted.Library.{Library}
use Rattle.dj_names.specs.trusted.Types.{Name, class_type}
use Rattle.dj_pool.specs.trusted.Pool.{Constant, text_at, class_name_at}
use Rattle.dj_class.specs.trusted.ClassFile.{MemberInfo}
pub use Rattle.dj_class.specs.trusted.ClassFile.{ClassFile}
use Rattle.dj_class.specs.trusted.Names.{this_name, interface_names}
use Rattle.dj_model.specs.trusted.Types.{no_parameters}
use Rattle.dj_model.specs.trusted.Libraries.{joined, library_program}
use Rattle.dj_model.specs.trusted.Program.{Program, Class, Method, Field, Body, Abstract, Runs, Code, has_flag, is_abstract}

-- ---- texts

-- the descriptor that a text spells (JVMS 4.3); for a text that spells none it may be any
unfoldable pub desc_in : List ℕ → Desc
desc_in text = unwrap_or (desc_read text) no_parameters

abbrev pub field_type : Desc → Ty
field_type (descs.Field ty) = ty
field_type (descs.Method params ret) = class_type []

-- the type that the text of a class constant names (JVMS 4.4.1): a text that begins with a bracket is an array's descriptor, any other a class's name
unfoldable pub type_in : List ℕ → Ty
type_in text = if starts_with nat_eq text (91 ∷ []) then field_type (desc_in text) else class_type text

-- the text at an index
abbrev pub name_in : List Constant → ℕ → Name
name_in pool index = unwrap_or (text_at pool index) []

-- ---- without code and constants

abbrev pub no_code : Code
no_code = record { max_stack = 0; max_locals = 0; instructions = []; ranges = []; frames = Some [] }

-- ---- a class file's class

-- JVMS table 4.6-A: the method is native (0x0100) or abstract; every other method has code
abbrev pub is_bodiless : ℕ → Bool
is_bodiless flags = has_flag 8 flags || is_abstract flags

abbrev pub declared_body : ℕ → Body
declared_body flags = if is_bodiless flags then Abstract else Runs no_code

abbrev pub declared_method : List Constant → MemberInfo → Method
declared_method pool m = record {
  flags = m.flags;
  name = name_in pool m.name;
  desc = desc_in (name_in pool m.desc);
  body = declared_body m.flags;
}

abbrev pub declared_field : List Constant → MemberInfo → Field
declared_field pool f = record {
  flags = f.flags;
  name = name_in pool f.name;
  desc = desc_in (name_in pool f.desc);
  constant = None;
}

unfoldable pub declared_class : ClassFile → Class
declared_class c = record {
  name = this_name c;
  flags = c.flags;
  superclass = class_name_at c.pool c.super_class;
  interfaces = interface_names c;
  unnamed_fields = 0;
  fields = map (declared_field c.pool) c.fields;
  methods = map (declared_method c.pool) c.methods;
}

-- ---- the program

-- the classes of the files and of the library
unfoldable pub declared_program : Library → List ClassFile → Program
declared_program library files = joined (map declared_class files) (library_program library)
