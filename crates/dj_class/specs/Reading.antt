-- The reader's own: reading from left to right, with the first fault that is met.
use Rattle.std.specs.Prelude.{ℕ, ◌==◌, ◌||◌, Bool, List, Result, Ok, Err, if◌then◌else◌}
use Rattle.dj_cursor.specs.Steps.{◌>>=◌, lifted}
use Rattle.dj_cursor.specs.Reading.{Cursor, start_of, at_end, block_at, u2_at, u4_at, table_at}
use Rattle.dj_names.specs.Tests.{unqualified_name_test, method_name_test, field_descriptor_test, method_descriptor_test}
use Rattle.dj_pool.specs.trusted.Pool.{Constant}
use Rattle.dj_pool.specs.Tests.{text_passes, is_text, is_class}
use Rattle.dj_pool.specs.Reading.{pool_at}
use Rattle.dj_class.specs.declared.class.ClassError.{ClassError}
use Rattle.dj_class.specs.declared.class.ClassError.TheVariants as class_errors
use Rattle.dj_class.specs.trusted.ClassFile.{AttributeInfo, MemberInfo, ClassFile}

-- an index that the test passes
unfoldable pub index_at : (ℕ → Bool) → Cursor → Result (ℕ × Cursor) ClassError
index_at test c = do
  index ← u2_at class_errors.Cut c
  if test index.0 then Ok index else Err (class_errors.Index c.place)

unfoldable pub attribute_at : List Constant → Cursor → Result (AttributeInfo × Cursor) ClassError
attribute_at pool c = do
  name ← index_at (is_text pool) c
  len ← u4_at class_errors.Cut name.1
  body ← block_at class_errors.Cut len.0 len.1
  Ok (record { name = name.0; body = body.0 }, body.1)

unfoldable pub member_at : (List ℕ → Bool) → (List ℕ → Bool) → List Constant → Cursor → Result (MemberInfo × Cursor) ClassError
member_at name_test desc_test pool c = do
  flags ← u2_at class_errors.Cut c
  name ← index_at (text_passes name_test pool) flags.1
  desc ← index_at (text_passes desc_test pool) name.1
  attributes ← table_at class_errors.Cut (attribute_at pool) desc.1
  Ok (record { flags = flags.0; name = name.0; desc = desc.0; attributes = attributes.0 }, attributes.1)

-- CA FE BA BE
unfoldable pub magic_at : Cursor → Result (ℕ × Cursor) ClassError
magic_at c = do
  magic ← u4_at class_errors.Cut c
  if magic.0 == 3405691582 then Ok magic else Err class_errors.Magic

-- CA FE BA BE, and then the versions, minor first
unfoldable pub header_at : Cursor → Result ((ℕ × ℕ) × Cursor) ClassError
header_at c = do
  magic ← magic_at c
  minor ← u2_at class_errors.Cut magic.1
  major ← u2_at class_errors.Cut minor.1
  Ok ((minor.0, major.0), major.1)

-- the flags, the class, its superclass and its interfaces
pub record Heading : Type 0 where
  pub flags : ℕ
  pub this_class : ℕ
  pub super_class : ℕ
  pub interfaces : List ℕ

-- there is no class, or there is one at the index that is no array
abbrev pub is_super : List Constant → ℕ → Bool
is_super pool index = index == 0 || is_class pool index

unfoldable pub heading_at : List Constant → Cursor → Result (Heading × Cursor) ClassError
heading_at pool c = do
  flags ← u2_at class_errors.Cut c
  this_class ← index_at (is_class pool) flags.1
  super_class ← index_at (is_super pool) this_class.1
  interfaces ← table_at class_errors.Cut (index_at (is_class pool)) super_class.1
  Ok (record { flags = flags.0; this_class = this_class.0; super_class = super_class.0; interfaces = interfaces.0 }, interfaces.1)

-- all of the bytes
unfoldable pub class_file_of : List ℕ → Result ClassFile ClassError
class_file_of bytes = do
  header ← header_at (start_of bytes)
  pool ← lifted class_errors.Pool (pool_at header.1)
  heading ← heading_at pool.0 pool.1
  fields ← table_at class_errors.Cut (member_at unqualified_name_test field_descriptor_test pool.0) heading.1
  methods ← table_at class_errors.Cut (member_at method_name_test method_descriptor_test pool.0) fields.1
  attributes ← table_at class_errors.Cut (attribute_at pool.0) methods.1
  if at_end attributes.1 then Ok (record {
    minor = header.0.0;
    major = header.0.1;
    pool = pool.0;
    flags = heading.0.flags;
    this_class = heading.0.this_class;
    super_class = heading.0.super_class;
    interfaces = heading.0.interfaces;
    fields = fields.0;
    methods = methods.0;
    attributes = attributes.0;
  }) else Err (class_errors.Trailing attributes.1.place)
