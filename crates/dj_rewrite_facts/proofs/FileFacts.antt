-- Members of a rewritten class file, and the size of a file.
use Rattle.std.proofs.Common.{◌≡◌, ℕ, List, [], ◌∷◌, length, refl, ap, arith, codes}
use Rattle.dj_names.specs.trusted.NameReading.{reads_class_name}
use Rattle.dj_names.specs.trusted.DescReading.{desc_read, method_read, params_read, type_read, dims_read, of_read, class_read, name_read, return_read, field_read}
use Rattle.dj_pool.specs.trusted.Pool.{Constant, Utf8}
use Rattle.dj_class.specs.trusted.ClassFile.{AttributeInfo, MemberInfo, ClassFile, class_bytes}
use Rattle.dj_declarations.specs.trusted.Files.{type_in, desc_in}
use Rattle.dj_rename.specs.Names.{renamed_class, renamed_desc}
use Rattle.dj_program.specs.trusted.Programs.{AreSideBySide}
use Rattle.dj_rename.specs.Pools.{needs, first_places, appended_texts, first_index}
use Rattle.dj_rewritten.specs.Files.{rewritten_field, IsRewrittenBody, IsRewrittenMethod, desc_indexes, IsRewrittenFile}
use Rattle.dj_rewritten.specs.TooLarge.{HasLargePool, HasLargeMethod, IsLargeFile}

abbrev names : List Constant
names = Utf8 (codes "f") ∷ Utf8 (codes "(I)V") ∷ Utf8 (codes "ConstantValue") ∷ Utf8 (codes "Code") ∷ []

-- an attribute of this name
abbrev named : ℕ → List AttributeInfo
named name = record { name = name; body = 0 ∷ 9 ∷ [] } ∷ []

-- ---- attributes

abbrev abstract_method : List AttributeInfo → MemberInfo
abstract_method attributes = record { flags = 1025; name = 1; desc = 2; attributes = attributes }

-- a ConstantValue is kept of a field alone
value_goes : IsRewrittenMethod [] names (2 ∷ []) (abstract_method (named 3)) (abstract_method [])
unfolding appended_texts first_places needs renamed_class renamed_desc type_in desc_in desc_read method_read params_read type_read dims_read of_read class_read name_read reads_class_name return_read field_read
value_goes = record { attributes = []; each = tt; is = refl }

value_kept : IsRewrittenMethod [] names (2 ∷ []) (abstract_method (named 3)) (abstract_method (named 3)) → ⊥
value_kept is = some is.attributes (ap (λ (m : MemberInfo). length m.attributes) is.is) is.each where
  some : (attributes : List AttributeInfo) → 1 ≡ length attributes → AreSideBySide (IsRewrittenBody [] names (first_index names (appended_texts names (2 ∷ []))) (abstract_method (named 3))) [] attributes → ⊥
  some [] e each = absurd (omega (arith, e))
  some (a ∷ more) e each = each

-- and no Code of a field
code_goes : (rewritten_field names [] (record { flags = 8; name = 1; desc = 1; attributes = named 4 })).attributes ≡ []
code_goes = refl

-- ---- descriptors

abbrev class_with : (fields methods : List MemberInfo) → ClassFile
class_with fields methods = record {
  minor = 0;
  major = 52;
  pool = names;
  flags = 33;
  this_class = 0;
  super_class = 0;
  interfaces = [];
  fields = fields;
  methods = methods;
  attributes = [];
}

abbrev described : ℕ → MemberInfo
described desc = record { flags = 0; name = 1; desc = desc; attributes = [] }

-- the fields' first, and then the methods'
fields_first : desc_indexes (class_with (described 3 ∷ described 1 ∷ []) (described 4 ∷ described 2 ∷ [])) ≡ 3 ∷ 1 ∷ 4 ∷ 2 ∷ []
fields_first = refl

methods_first : desc_indexes (class_with (described 3 ∷ []) (described 4 ∷ [])) ≡ 4 ∷ 3 ∷ [] → ⊥
methods_first e = absurd cc

-- ---- files

-- a file of 67,108,865 bytes is too large, where nothing else is; one of a byte less isn't
large_file : (c d : ClassFile) → (HasLargePool c → ⊥) → (HasLargeMethod [] c → ⊥) → IsRewrittenFile [] c d → length (class_bytes d) ≡ 67108865 → IsLargeFile [] c
large_file c d pool methods is bytes = record { pool = pool; methods = methods; file = d; rewritten = is; past = omega (arith, bytes) }

greatest_file : (c : ClassFile) (is : IsLargeFile [] c) → length (class_bytes is.file) ≡ 67108864 → ⊥
greatest_file c is bytes = absurd (omega (arith, bytes, is.past))
