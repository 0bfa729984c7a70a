-- The classes that a machine asks for by name, each by its look-up.
use Rattle.std.proofs.Common.{◌≡◌}
use Rattle.dj_names.specs.declared.descriptor.Base.{Base}
use Rattle.dj_names.specs.declared.descriptor.Base.TheVariants as bases
use Rattle.dj_names.specs.declared.run.Raised.{Raised}
use Rattle.dj_names.specs.declared.run.Raised.TheVariants as raises
use Rattle.dj_numbering.specs.declared.own.OwnClasses.{OwnClasses}
use Rattle.dj_numbering.specs.Own.{AreOwn, array_at, array_in, raised_at, raised_in}
use Rattle.dj_numbering.specs.Typed.{Typed, stop_at, string_at}

pub are_own : (typed : Typed) (own : OwnClasses) → own.string ≡ string_at typed → own.stop ≡ stop_at typed
    → own.booleans ≡ array_at typed bases.Boolean → own.bytes ≡ array_at typed bases.Byte → own.chars ≡ array_at typed bases.Char → own.shorts ≡ array_at typed bases.Short
    → own.ints ≡ array_at typed bases.Int → own.longs ≡ array_at typed bases.Long → own.floats ≡ array_at typed bases.Float → own.doubles ≡ array_at typed bases.Double
    → own.arithmetic ≡ raised_at typed raises.Arithmetic → own.array_index_out_of_bounds ≡ raised_at typed raises.ArrayIndexOutOfBounds → own.array_store ≡ raised_at typed raises.ArrayStore → own.class_cast ≡ raised_at typed raises.ClassCast → own.negative_array_size ≡ raised_at typed raises.NegativeArraySize → own.null_pointer ≡ raised_at typed raises.NullPointer → own.string_index_out_of_bounds ≡ raised_at typed raises.StringIndexOutOfBounds
    → AreOwn typed own
are_own typed own string stop booleans bytes chars shorts ints longs floats doubles a b c d e f g = record { string = string; stop = stop; array = of_base; raised = each } where
  of_base : (base : Base) → array_in own base ≡ array_at typed base
  of_base bases.Boolean = booleans
  of_base bases.Byte = bytes
  of_base bases.Char = chars
  of_base bases.Short = shorts
  of_base bases.Int = ints
  of_base bases.Long = longs
  of_base bases.Float = floats
  of_base bases.Double = doubles

  each : (raised : Raised) → raised_in own raised ≡ raised_at typed raised
  each raises.Arithmetic = a
  each raises.ArrayIndexOutOfBounds = b
  each raises.ArrayStore = c
  each raises.ClassCast = d
  each raises.NegativeArraySize = e
  each raises.NullPointer = f
  each raises.StringIndexOutOfBounds = g
