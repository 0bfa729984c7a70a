-- The reader's own: reading the body of a Code attribute from left to right, with the first fault that is met.
use Rattle.std.specs.Prelude.{ℕ, ◌&&◌, List, Result, Ok, Err, nat_lt, if◌then◌else◌}
use Rattle.dj_cursor.specs.Steps.{◌>>=◌}
use Rattle.dj_cursor.specs.Reading.{Cursor, start_of, at_end, block_at, u2_at, u4_at, table_at}
use Rattle.dj_ops.specs.declared.rows.CatchRow.{CatchRow}
use Rattle.dj_class.specs.declared.class.ClassError.{ClassError}
use Rattle.dj_class.specs.declared.class.ClassError.TheVariants as class_errors
use Rattle.dj_class.specs.trusted.ClassFile.{AttributeInfo}
use Rattle.dj_class.specs.trusted.Code.{CodeInfo}

-- a length that code may have
unfoldable pub code_length_at : Cursor → Result (ℕ × Cursor) ClassError
code_length_at c = do
  len ← u4_at class_errors.Cut c
  if nat_lt 0 len.0 && nat_lt len.0 65536 then Ok len else Err (class_errors.Index c.place)

-- what comes before the exception table: max_stack, max_locals and the code
unfoldable pub code_prefix_at : Cursor → Result ((ℕ × ℕ × List ℕ) × Cursor) ClassError
code_prefix_at c = do
  max_stack ← u2_at class_errors.Cut c
  max_locals ← u2_at class_errors.Cut max_stack.1
  len ← code_length_at max_locals.1
  code ← block_at class_errors.Cut len.0 len.1
  Ok ((max_stack.0, max_locals.0, code.0), code.1)

unfoldable pub row_at : Cursor → Result (CatchRow × Cursor) ClassError
row_at c = do
  start ← u2_at class_errors.Cut c
  end ← u2_at class_errors.Cut start.1
  handler ← u2_at class_errors.Cut end.1
  catch_type ← u2_at class_errors.Cut handler.1
  Ok (record { start = start.0; end = end.0; handler = handler.0; catch_type = catch_type.0 }, catch_type.1)

unfoldable pub code_attribute_at : Cursor → Result (AttributeInfo × Cursor) ClassError
code_attribute_at c = do
  name ← u2_at class_errors.Cut c
  len ← u4_at class_errors.Cut name.1
  body ← block_at class_errors.Cut len.0 len.1
  Ok (record { name = name.0; body = body.0 }, body.1)

-- all of the bytes
unfoldable pub code_read : List ℕ → Result CodeInfo ClassError
code_read bytes = do
  prefix ← code_prefix_at (start_of bytes)
  table ← table_at class_errors.Cut row_at prefix.1
  attributes ← table_at class_errors.Cut code_attribute_at table.1
  if at_end attributes.1 then Ok (record {
    max_stack = prefix.0.0;
    max_locals = prefix.0.1;
    code = prefix.0.2;
    table = table.0;
    attributes = attributes.0;
  }) else Err (class_errors.Trailing attributes.1.place)
