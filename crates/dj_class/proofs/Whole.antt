-- Reading a whole file, part by part.
use Rattle.std.proofs.Common.{◌≡◌, ℕ, cond, List, Result, Ok, Err, refl, sym, subst, ◌∙◌}
use Rattle.dj_cursor.specs.Steps.{◌>>=◌, lifted, Fails}
use Rattle.dj_cursor.specs.Reading.{Cursor, start_of, at_end, table_at}
use Rattle.dj_cursor.proofs.Steps.{fails_then}
use Rattle.dj_names.specs.Tests.{unqualified_name_test, method_name_test, field_descriptor_test, method_descriptor_test}
use Rattle.dj_class.specs.declared.class.ClassError.{ClassError}
use Rattle.dj_class.specs.declared.class.ClassError.TheVariants as class_errors
use Rattle.dj_pool.specs.trusted.Pool.{Constant}
use Rattle.dj_pool.specs.Reading.{pool_at}
use Rattle.dj_class.specs.trusted.ClassFile.{AttributeInfo, MemberInfo, ClassFile}
use Rattle.dj_class.specs.Reading.{Heading, attribute_at, member_at, header_at, heading_at, class_file_of}
use Rattle.dj_class.specs.Memory.{is_memory}

-- what was read up to the interfaces
pub record Prefix : Type 0 where
  pub header : (ℕ × ℕ) × Cursor
  pub pool : List Constant × Cursor
  pub heading : Heading × Cursor

-- it was read from these bytes
pub record ReadsPrefix (bytes : List ℕ) (prefix : Prefix) : Type 0 where
  pub header : header_at (start_of bytes) ≡ Ok prefix.header
  pub pool : lifted class_errors.Pool (pool_at prefix.header.1) ≡ Ok prefix.pool
  pub heading : heading_at prefix.pool.0 prefix.pool.1 ≡ Ok prefix.heading

abbrev pub fields_at : Prefix → Result (List MemberInfo × Cursor) ClassError
fields_at prefix = table_at class_errors.Cut (member_at unqualified_name_test field_descriptor_test prefix.pool.0) prefix.heading.1

abbrev pub methods_at : Prefix → Cursor → Result (List MemberInfo × Cursor) ClassError
methods_at prefix c = table_at class_errors.Cut (member_at method_name_test method_descriptor_test prefix.pool.0) c

abbrev pub attributes_at : Prefix → Cursor → Result (List AttributeInfo × Cursor) ClassError
attributes_at prefix c = table_at class_errors.Cut (attribute_at prefix.pool.0) c

abbrev pub finish : Prefix → List MemberInfo → List MemberInfo → List AttributeInfo × Cursor → Result ClassFile ClassError
finish prefix fields methods attributes =
    cond (at_end attributes.1) (Ok (record {
      minor = prefix.header.0.0;
      major = prefix.header.0.1;
      pool = prefix.pool.0;
      flags = prefix.heading.0.flags;
      this_class = prefix.heading.0.this_class;
      super_class = prefix.heading.0.super_class;
      interfaces = prefix.heading.0.interfaces;
      fields = fields;
      methods = methods;
      attributes = attributes.0;
    })) (Err (class_errors.Trailing attributes.1.place))

abbrev from_methods : Prefix → List MemberInfo → List MemberInfo × Cursor → Result ClassFile ClassError
from_methods prefix fields methods = attributes_at prefix methods.1 >>= λ attributes. finish prefix fields methods.0 attributes

abbrev from_fields : Prefix → List MemberInfo × Cursor → Result ClassFile ClassError
from_fields prefix fields = methods_at prefix fields.1 >>= λ methods. from_methods prefix fields.0 methods

opened : (bytes : List ℕ) (prefix : Prefix) → ReadsPrefix bytes prefix → class_file_of bytes ≡ (fields_at prefix >>= λ fields. from_fields prefix fields)
unfolding class_file_of
opened bytes prefix h = rw (h.header, h.pool, h.heading) refl

pub fields_fail : (e : ClassError) (bytes : List ℕ) (prefix : Prefix) → ReadsPrefix bytes prefix → Fails (is_memory e) e (fields_at prefix) → Fails (is_memory e) e (class_file_of bytes)
fields_fail e bytes prefix h f = subst (λ t. Fails (is_memory e) e t) (sym (opened bytes prefix h)) (fails_then (is_memory e) e (fields_at prefix) (λ fields. from_fields prefix fields) f)

has_fields : (bytes : List ℕ) (prefix : Prefix) (fields : List MemberInfo × Cursor) → ReadsPrefix bytes prefix → fields_at prefix ≡ Ok fields → class_file_of bytes ≡ from_fields prefix fields
has_fields bytes prefix fields h f = opened bytes prefix h ∙ rw f refl

pub methods_fail : (e : ClassError) (bytes : List ℕ) (prefix : Prefix) (fields : List MemberInfo × Cursor) → ReadsPrefix bytes prefix → fields_at prefix ≡ Ok fields → Fails (is_memory e) e (methods_at prefix fields.1) → Fails (is_memory e) e (class_file_of bytes)
methods_fail e bytes prefix fields h f m = subst (λ t. Fails (is_memory e) e t) (sym (has_fields bytes prefix fields h f)) (fails_then (is_memory e) e (methods_at prefix fields.1) (λ methods. from_methods prefix fields.0 methods) m)

has_methods : (bytes : List ℕ) (prefix : Prefix) (fields methods : List MemberInfo × Cursor) → ReadsPrefix bytes prefix → fields_at prefix ≡ Ok fields → methods_at prefix fields.1 ≡ Ok methods → class_file_of bytes ≡ from_methods prefix fields.0 methods
has_methods bytes prefix fields methods h f m = has_fields bytes prefix fields h f ∙ rw m refl

pub attributes_fail : (e : ClassError) (bytes : List ℕ) (prefix : Prefix) (fields methods : List MemberInfo × Cursor) → ReadsPrefix bytes prefix → fields_at prefix ≡ Ok fields → methods_at prefix fields.1 ≡ Ok methods → Fails (is_memory e) e (attributes_at prefix methods.1) → Fails (is_memory e) e (class_file_of bytes)
attributes_fail e bytes prefix fields methods h f m a = subst (λ t. Fails (is_memory e) e t) (sym (has_methods bytes prefix fields methods h f m)) (fails_then (is_memory e) e (attributes_at prefix methods.1) (λ attributes. finish prefix fields.0 methods.0 attributes) a)

pub has_attributes : (bytes : List ℕ) (prefix : Prefix) (fields methods : List MemberInfo × Cursor) (attributes : List AttributeInfo × Cursor) → ReadsPrefix bytes prefix → fields_at prefix ≡ Ok fields → methods_at prefix fields.1 ≡ Ok methods → attributes_at prefix methods.1 ≡ Ok attributes → class_file_of bytes ≡ finish prefix fields.0 methods.0 attributes
has_attributes bytes prefix fields methods attributes h f m a = has_methods bytes prefix fields methods h f m ∙ rw a refl
