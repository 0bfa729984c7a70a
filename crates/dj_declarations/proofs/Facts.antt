-- Descriptors, types and a class file's class by plain values, each with something that it is not.
use Rattle.std.proofs.Common.{◌≡◌, ℕ, true, false, List, [], ◌∷◌, map, Some, None, refl, ap, codes}
use Rattle.std.specs.Prelude.{slice_get}
use Rattle.std.specs.Option.{is_some, option_map}
use Rattle.dj_names.specs.declared.descriptor.Base.TheVariants as bases
use Rattle.dj_names.specs.declared.descriptor.Ty.{Ty}
use Rattle.dj_names.specs.declared.descriptor.Desc.{Desc}
use Rattle.dj_names.specs.declared.descriptor.Desc.TheVariants as descs
use Rattle.dj_names.specs.declared.native.NativeId.TheVariants as natives
use Rattle.dj_names.specs.trusted.DescReading.{dims_read, name_read, class_read, of_read, type_read, params_read, field_read, return_read, method_read, desc_read}
use Rattle.dj_names.specs.trusted.NameReading.{reads_class_name}
use Rattle.dj_names.specs.trusted.Library as named
use Rattle.dj_names.specs.Library as more_named
use Rattle.dj_names.specs.trusted.Types.{Name, class_type, array_type, base_type, base_array}
use Rattle.dj_pool.specs.trusted.Pool.{Constant, Utf8, Class}
use Rattle.dj_class.specs.trusted.ClassFile.{MemberInfo, ClassFile}
use Rattle.dj_model.specs.trusted.Types.{no_parameters}
use Rattle.dj_model.specs.trusted.Program.{Method, Body, Abstract, Native, Runs, method_in, field_in}
use Rattle.dj_model.specs.trusted.Libraries.{library_class}
use Rattle.dj_declarations.specs.trusted.Files.{desc_in, type_in, no_code, is_bodiless, declared_class}
use Rattle.dj_declarations.specs.trusted.Members.{has_method_named}
use Rattle.dj_declarations.specs.Members.{IsDescriptor, method_flags, field_flags}
use Rattle.dj_declarations.proofs.DescTests.{descriptor_read, read_descriptor}

abbrev int : Ty
int = base_type bases.Int

abbrev long : Ty
long = base_type bases.Long

-- ---- the descriptor that a text spells

abbrev spelled : List Name
spelled = codes "I" ∷ codes "[La/B;" ∷ codes "()V" ∷ codes "(IJ)[I" ∷ []

descriptors : map desc_in spelled ≡ descs.Field int ∷ descs.Field (array_type (class_type (codes "a/B"))) ∷ no_parameters ∷ descs.Method (int ∷ long ∷ []) (Some (base_array bases.Int)) ∷ []
unfolding desc_in dims_read name_read class_read of_read type_read params_read field_read return_read method_read desc_read reads_class_name
descriptors = refl

-- of these texts none is a descriptor
abbrev unspelled : List Name
unspelled = [] ∷ codes "V" ∷ codes "II" ∷ codes "(I" ∷ codes "La/B" ∷ codes "L[;" ∷ []

none-read : map (λ text. is_some (desc_read text)) unspelled ≡ false ∷ false ∷ false ∷ false ∷ false ∷ false ∷ []
unfolding dims_read name_read class_read of_read type_read params_read field_read return_read method_read desc_read reads_class_name
none-read = refl

none-spelled : map desc_in unspelled ≡ no_parameters ∷ no_parameters ∷ no_parameters ∷ no_parameters ∷ no_parameters ∷ no_parameters ∷ []
unfolding desc_in dims_read name_read class_read of_read type_read params_read field_read return_read method_read desc_read reads_class_name
none-spelled = refl

parameters-in-order : desc_in (codes "(IJ)V") ≡ desc_in (codes "(JI)V") → ⊥
unfolding desc_in dims_read name_read class_read of_read type_read params_read field_read return_read method_read desc_read reads_class_name
parameters-in-order e = absurd cc

is-descriptor : IsDescriptor (codes "(IJ)V")
unfolding dims_read name_read class_read of_read type_read params_read field_read return_read method_read desc_read reads_class_name
is-descriptor = descriptor_read (codes "(IJ)V") refl

void-is-none : IsDescriptor (codes "V") → ⊥
unfolding dims_read name_read class_read of_read type_read params_read field_read return_read method_read desc_read reads_class_name
void-is-none d = (let bad : false ≡ true = read_descriptor (codes "V") d in absurd cc)

-- ---- the type that the text of a class constant names

-- a class may be named I
types : map type_in (codes "a/B" ∷ codes "I" ∷ codes "[I" ∷ codes "[[La/B;" ∷ []) ≡ class_type (codes "a/B") ∷ class_type (codes "I") ∷ base_array bases.Int ∷ array_type (array_type (class_type (codes "a/B"))) ∷ []
unfolding type_in desc_in dims_read name_read class_read of_read type_read params_read field_read return_read method_read desc_read reads_class_name
types = refl

class-is-no-int : type_in (codes "I") ≡ int → ⊥
unfolding type_in desc_in
class-is-no-int e = (let bad : (class_type (codes "I")).of ≡ int.of = ap (λ (ty : Ty). ty.of) e in absurd cc)

-- ---- a class file

-- 1 to 6 are the classes p/A, java/lang/Object and p/I; 9 and 12 are texts that are equal
pool : List Constant
pool =
    Utf8 (codes "p/A") ∷ Class 1 ∷ Utf8 (codes "java/lang/Object") ∷ Class 3 ∷ Utf8 (codes "p/I") ∷ Class 5 ∷ Utf8 (codes "f") ∷ Utf8 (codes "I") ∷ Utf8 (codes "m") ∷ Utf8 (codes "(IJ)V")
    ∷ Utf8 (codes "()[Lp/A;") ∷ Utf8 (codes "m") ∷ []

member : ℕ → ℕ → ℕ → MemberInfo
member flags name desc = record { flags = flags; name = name; desc = desc; attributes = [] }

-- a public method with code, an abstract one, and a native one with the texts of the first
methods : List MemberInfo
methods = member 1 9 10 ∷ member 1025 9 11 ∷ member 257 12 10 ∷ []

-- a static field with a constant, which isn't kept
fields : List MemberInfo
fields = record (member 8 7 8) { attributes = record { name = 7; body = 0 ∷ 8 ∷ [] } ∷ [] } ∷ []

file : ClassFile
file = record {
  minor = 0;
  major = 52;
  pool = pool;
  flags = 33;
  this_class = 2;
  super_class = 4;
  interfaces = 6 ∷ 6 ∷ [];
  fields = fields;
  methods = methods;
  attributes = [];
}

abbrev method : ℕ → Desc → Body → Method
method flags desc body = record { flags = flags; name = codes "m"; desc = desc; body = body }

abbrev two : Desc
two = descs.Method (int ∷ long ∷ []) None

abbrev array : Desc
array = descs.Method [] (Some (array_type (class_type (codes "p/A"))))

-- the interface is listed twice
declared : declared_class file ≡ record {
  name = codes "p/A";
  flags = 33;
  superclass = Some (codes "java/lang/Object");
  interfaces = codes "p/I" ∷ codes "p/I" ∷ [];
  unnamed_fields = 0;
  fields = record { flags = 8; name = codes "f"; desc = descs.Field int; constant = None } ∷ [];
  methods = method 1 two (Runs no_code) ∷ method 1025 array Abstract ∷ method 257 two Abstract ∷ [];
}
unfolding declared_class file fields methods member pool desc_in dims_read name_read class_read of_read type_read params_read field_read return_read method_read desc_read reads_class_name
declared = refl

-- the flags of native and abstract methods, and of no others
bodiless : map is_bodiless (256 ∷ 1024 ∷ 1280 ∷ 0 ∷ 255 ∷ 512 ∷ 2048 ∷ []) ≡ true ∷ true ∷ true ∷ false ∷ false ∷ false ∷ false ∷ []
bodiless = refl

interface-twice : (declared_class file).interfaces ≡ codes "p/I" ∷ [] → ⊥
unfolding declared_class file pool
interface-twice e = absurd cc

no-superclass : (declared_class (record file { super_class = 0 })).superclass ≡ None
unfolding declared_class file pool
no-superclass = refl

superclass-there : (declared_class file).superclass ≡ None → ⊥
unfolding declared_class file pool
superclass-there e = absurd cc

-- ---- members by their texts

-- of two with the same texts the first is found
first-found : option_map method_flags (method_in (declared_class file).methods (codes "m") (desc_in (codes "(IJ)V"))) ≡ Some 1
unfolding declared_class file methods member pool desc_in dims_read name_read class_read of_read type_read params_read field_read return_read method_read desc_read reads_class_name
first-found = refl

other-desc-found : option_map method_flags (method_in (declared_class file).methods (codes "m") (desc_in (codes "()[Lp/A;"))) ≡ Some 1025
unfolding declared_class file methods member pool desc_in dims_read name_read class_read of_read type_read params_read field_read return_read method_read desc_read reads_class_name
other-desc-found = refl

none-of-the-desc : method_in (declared_class file).methods (codes "m") (desc_in (codes "(JI)V")) ≡ None
unfolding declared_class file methods member pool desc_in dims_read name_read class_read of_read type_read params_read field_read return_read method_read desc_read reads_class_name
none-of-the-desc = refl

field-found : option_map field_flags (field_in (declared_class file).fields (codes "f") (desc_in (codes "I"))) ≡ Some 8
unfolding declared_class file fields member pool desc_in dims_read name_read class_read of_read type_read params_read field_read return_read method_read desc_read reads_class_name
field-found = refl

has-name : map (has_method_named (declared_class file).methods) (codes "m" ∷ codes "f" ∷ codes "mm" ∷ []) ≡ true ∷ false ∷ false ∷ []
unfolding declared_class file methods member pool
has-name = refl

abbrev abstract_one : Name → Method
abstract_one name = record { flags = 1024; name = name; desc = no_parameters; body = Abstract }

-- each method is looked at, the last one too
has-name-of-any : map (has_method_named (abstract_one (codes "a") ∷ abstract_one (codes "m") ∷ [])) (codes "a" ∷ codes "m" ∷ codes "f" ∷ []) ≡ true ∷ true ∷ false ∷ []
has-name-of-any = refl

-- ---- a library's class

stop : library_class (more_named.below_object named.stop_class []) ≡ record {
  name = codes "djvm/Stop";
  flags = 33;
  superclass = Some (codes "sandbox/java/lang/Object");
  interfaces = [];
  unnamed_fields = 0;
  fields = [];
  methods = [];
}
stop = refl

accounter-is-native : option_map (λ (m : Method). m.body) (slice_get (library_class (more_named.below_object more_named.accounter_class more_named.accounter_methods)).methods 0) ≡ Some (Native natives.RecordJump)
accounter-is-native = refl
