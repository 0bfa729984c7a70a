-- Texts of class files at plain values: letters, names, dimensions, slots and spellings, written out from JVMS 4.2, 4.3 and 4.4.7.
use Rattle.std.proofs.Common.{◌≡◌, ℕ, true, false, List, [], ◌∷◌, ◌++◌, map, replicate, Some, None, codes, refl}
use Rattle.std.specs.Prelude.{filter}
use Rattle.dj_names.specs.declared.descriptor.Base.{Base}
use Rattle.dj_names.specs.declared.descriptor.Base.TheVariants as bases
use Rattle.dj_names.specs.declared.descriptor.Of.TheVariants as ofs
use Rattle.dj_names.specs.declared.descriptor.Ty.{Ty}
use Rattle.dj_names.specs.declared.descriptor.Desc.TheVariants as descs
use Rattle.dj_names.specs.trusted.Descriptors.{base_letter, return_text, desc_text, type_slots, slots_of}
use Rattle.dj_names.specs.trusted.ModifiedUtf8.{unit_text}
use Rattle.dj_names.specs.trusted.UnitReading.{two_read, three_read, long_read, unit_read}
use Rattle.dj_names.specs.trusted.NameReading.{reads_class_name}
use Rattle.dj_names.specs.trusted.DescReading.{dims_read, name_read, class_read, of_read, type_read, params_read, field_read, return_read, method_read}
use Rattle.dj_names.specs.trusted.Tests.{units_read}
use Rattle.dj_names.specs.Tests.{unqualified_name_test, method_name_test, class_name_test, modified_utf8_test, field_descriptor_test, method_descriptor_test, array_descriptor_test}

-- ---- descriptors

-- JVMS table 4.3-A
letters : map base_letter (bases.Byte ∷ bases.Char ∷ bases.Double ∷ bases.Float ∷ bases.Int ∷ bases.Long ∷ bases.Short ∷ bases.Boolean ∷ [])
    ≡ codes "B" ∷ codes "C" ∷ codes "D" ∷ codes "F" ∷ codes "I" ∷ codes "J" ∷ codes "S" ∷ codes "Z" ∷ []
letters = refl

capitals : List ℕ
capitals = codes "ABCDEFGHIJKLMNOPQRSTUVWXYZ"

-- of the capitals these eight are a field's descriptor, and V is a return's alone
capital-fields : filter (λ (b : ℕ). field_descriptor_test (b ∷ [])) capitals ≡ codes "BCDFIJSZ"
unfolding capitals field_descriptor_test dims_read name_read class_read of_read type_read field_read reads_class_name
capital-fields = refl

capital-returns : filter (λ (b : ℕ). method_descriptor_test (40 ∷ 41 ∷ b ∷ [])) capitals ≡ codes "BCDFIJSVZ"
unfolding capitals method_descriptor_test dims_read name_read class_read of_read type_read params_read field_read return_read method_read reads_class_name
capital-returns = refl

capital-parameters : filter (λ (b : ℕ). method_descriptor_test (40 ∷ b ∷ 41 ∷ 86 ∷ [])) capitals ≡ codes "BCDFIJSZ"
unfolding capitals method_descriptor_test dims_read name_read class_read of_read type_read params_read field_read return_read method_read reads_class_name
capital-parameters = refl

void : return_text None ≡ codes "V"
void = refl

-- int[][] and (long, int[])boolean
int_int : Ty
int_int = record { dims = 2; of = ofs.Base bases.Int }

plain : ℕ → Base → Ty
plain dims base = record { dims = dims; of = ofs.Base base }

array-text : desc_text (descs.Field int_int) ≡ codes "[[I"
unfolding int_int
array-text = refl

method-text : desc_text (descs.Method (plain 0 bases.Long ∷ plain 1 bases.Int ∷ []) (Some (plain 0 bases.Boolean))) ≡ codes "(J[I)Z"
unfolding plain
method-text = refl

-- a long and a double take two slots, an array of them one
slots : map type_slots (plain 0 bases.Long ∷ plain 0 bases.Double ∷ plain 0 bases.Int ∷ plain 0 bases.Boolean ∷ plain 0 bases.Float ∷ plain 1 bases.Long ∷ plain 1 bases.Double ∷ []) ≡ 2 ∷ 2 ∷ 1 ∷ 1 ∷ 1 ∷ 1 ∷ 1 ∷ []
unfolding plain
slots = refl

slots-of : slots_of (descs.Method (plain 0 bases.Long ∷ plain 1 bases.Long ∷ plain 0 bases.Int ∷ []) None) ≡ 4
unfolding plain
slots-of = refl

-- whole texts that are descriptors of fields, and others that are none
field-texts : map field_descriptor_test (codes "La/B;" ∷ codes "[La;" ∷ codes "L;" ∷ codes "La" ∷ codes "La;;" ∷ codes "II" ∷ codes "[" ∷ codes "[V" ∷ codes "V" ∷ codes "" ∷ codes "La//b;" ∷ codes "()V" ∷ [])
    ≡ true ∷ true ∷ false ∷ false ∷ false ∷ false ∷ false ∷ false ∷ false ∷ false ∷ false ∷ false ∷ []
unfolding field_descriptor_test dims_read name_read class_read of_read type_read field_read reads_class_name
field-texts = refl

-- the same for methods
method-texts : map method_descriptor_test (codes "()V" ∷ codes "(IJ)La;" ∷ codes "([[DLb;)[I" ∷ codes "(V)V" ∷ codes "(I" ∷ codes "I)V" ∷ codes "()" ∷ codes "()VV" ∷ codes "()[V" ∷ codes "I" ∷ [])
    ≡ true ∷ true ∷ true ∷ false ∷ false ∷ false ∷ false ∷ false ∷ false ∷ false ∷ []
unfolding method_descriptor_test dims_read name_read class_read of_read type_read params_read field_read return_read method_read reads_class_name
method-texts = refl

array-texts : map array_descriptor_test (codes "[I" ∷ codes "[[La;" ∷ codes "I" ∷ codes "La;" ∷ codes "a" ∷ []) ≡ true ∷ true ∷ false ∷ false ∷ false ∷ []
unfolding array_descriptor_test dims_read name_read class_read of_read type_read field_read reads_class_name
array-texts = refl

-- 255 dimensions are the most
dimensions : map (λ (n : ℕ). field_descriptor_test (replicate n 91 ++ codes "I")) (0 ∷ 1 ∷ 254 ∷ 255 ∷ 256 ∷ []) ≡ true ∷ true ∷ true ∷ true ∷ false ∷ []
unfolding field_descriptor_test dims_read name_read class_read of_read type_read field_read reads_class_name
dimensions = refl

-- and so are 255 slots
int-parameters : map (λ (n : ℕ). method_descriptor_test (codes "(" ++ replicate n 73 ++ codes ")V")) (254 ∷ 255 ∷ 256 ∷ []) ≡ true ∷ true ∷ false ∷ []
unfolding method_descriptor_test dims_read name_read class_read of_read type_read params_read field_read return_read method_read reads_class_name
int-parameters = refl

long-parameters : map (λ (n : ℕ). method_descriptor_test (codes "(" ++ replicate n 74 ++ codes ")V")) (127 ∷ 128 ∷ []) ≡ true ∷ false ∷ []
unfolding method_descriptor_test dims_read name_read class_read of_read type_read params_read field_read return_read method_read reads_class_name
long-parameters = refl

-- ---- names

-- the bytes about those that an unqualified name may not have
near : List ℕ
near = codes "-./0:;<=>?Z[\\]^"

near-unqualified : filter (λ (b : ℕ). unqualified_name_test (97 ∷ b ∷ [])) near ≡ codes "-0:<=>?Z\\]^"
unfolding near unqualified_name_test
near-unqualified = refl

near-method : filter (λ (b : ℕ). method_name_test (97 ∷ b ∷ [])) near ≡ codes "-0:=?Z\\]^"
unfolding near unqualified_name_test method_name_test
near-method = refl

-- a slash stands between two names of a class's name
near-class : filter (λ (b : ℕ). class_name_test (97 ∷ b ∷ 99 ∷ [])) near ≡ codes "-/0:<=>?Z\\]^"
unfolding near class_name_test reads_class_name
near-class = refl

class-names : map class_name_test (codes "a" ∷ codes "a/b/c" ∷ codes "" ∷ codes "/" ∷ codes "a/" ∷ codes "/a" ∷ codes "a//b" ∷ codes "[I" ∷ codes "a.b" ∷ [])
    ≡ true ∷ true ∷ false ∷ false ∷ false ∷ false ∷ false ∷ false ∷ false ∷ []
unfolding class_name_test reads_class_name
class-names = refl

method-names : map method_name_test (codes "<init>" ∷ codes "<clinit>" ∷ codes "m" ∷ codes "<x>" ∷ codes "<init" ∷ codes "a<init>" ∷ codes "" ∷ []) ≡ true ∷ true ∷ true ∷ false ∷ false ∷ false ∷ false ∷ []
unfolding method_name_test unqualified_name_test
method-names = refl

-- ---- modified UTF-8

-- the units at both ends of each length
units : map unit_text (0 ∷ 1 ∷ 127 ∷ 128 ∷ 2047 ∷ 2048 ∷ 55296 ∷ 65535 ∷ [])
    ≡ (192 ∷ 128 ∷ []) ∷ (1 ∷ []) ∷ (127 ∷ []) ∷ (194 ∷ 128 ∷ []) ∷ (223 ∷ 191 ∷ []) ∷ (224 ∷ 160 ∷ 128 ∷ []) ∷ (237 ∷ 160 ∷ 128 ∷ []) ∷ (239 ∷ 191 ∷ 191 ∷ []) ∷ []
units = refl

-- a byte 0, a unit that is spelled too long, one that is cut, a byte that follows none, four bytes, and a good text
spellings : map modified_utf8_test ((0 ∷ []) ∷ (193 ∷ 191 ∷ []) ∷ (224 ∷ 159 ∷ 191 ∷ []) ∷ (194 ∷ []) ∷ (128 ∷ []) ∷ (240 ∷ 144 ∷ 128 ∷ 128 ∷ []) ∷ (194 ∷ 65 ∷ []) ∷ (97 ∷ 192 ∷ 128 ∷ 239 ∷ 191 ∷ 191 ∷ []) ∷ [] ∷ [])
    ≡ false ∷ false ∷ false ∷ false ∷ false ∷ false ∷ false ∷ true ∷ true ∷ []
unfolding modified_utf8_test units_read unit_read long_read two_read three_read
spellings = refl
