-- The classes that a machine asks for by name.
use Rattle.std.specs.Prelude.{◌≡◌, ℕ, ◌++◌, Option}
use Rattle.dj_names.specs.declared.descriptor.Base.{Base}
use Rattle.dj_names.specs.declared.descriptor.Base.TheVariants as bases
use Rattle.dj_names.specs.declared.run.Raised.{Raised}
use Rattle.dj_names.specs.declared.run.Raised.TheVariants as raises
use Rattle.dj_names.specs.trusted.Types.{base_array}
use Rattle.dj_names.specs.trusted.Values.{raised_class}
use Rattle.dj_numbering.specs.declared.own.OwnClasses.{OwnClasses}
use Rattle.dj_numbering.specs.Typed.{Typed, stop_at, string_at, text_number, type_number}

abbrev pub array_in : OwnClasses → Base → Option ℕ
array_in own bases.Boolean = own.booleans
array_in own bases.Byte = own.bytes
array_in own bases.Char = own.chars
array_in own bases.Short = own.shorts
array_in own bases.Int = own.ints
array_in own bases.Long = own.longs
array_in own bases.Float = own.floats
array_in own bases.Double = own.doubles

-- the arrays of a base type
abbrev pub array_at : Typed → Base → Option ℕ
array_at typed base = type_number typed (base_array base)

abbrev pub raised_in : OwnClasses → Raised → Option ℕ
raised_in own raises.Arithmetic = own.arithmetic
raised_in own raises.ArrayIndexOutOfBounds = own.array_index_out_of_bounds
raised_in own raises.ArrayStore = own.array_store
raised_in own raises.ClassCast = own.class_cast
raised_in own raises.NegativeArraySize = own.negative_array_size
raised_in own raises.NullPointer = own.null_pointer
raised_in own raises.StringIndexOutOfBounds = own.string_index_out_of_bounds

-- the class of an exception of an instruction's own
abbrev pub raised_at : Typed → Raised → Option ℕ
raised_at typed raised = text_number typed (typed.prefix ++ raised_class raised)

-- each number is what the look-up by name answers
pub record AreOwn (typed : Typed) (own : OwnClasses) : Type 0 where
  pub string : own.string ≡ string_at typed
  pub stop : own.stop ≡ stop_at typed
  pub array : (base : Base) → array_in own base ≡ array_at typed base
  pub raised : (raised : Raised) → raised_in own raised ≡ raised_at typed raised
