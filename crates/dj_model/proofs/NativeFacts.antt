-- Each native method, by plain values.
use Rattle.std.proofs.Common.{◌≡◌, pos, negsuc, ℤ, List, [], ◌∷◌, map, Some, None, codes, refl, ℕ, replicate}
use Rattle.std.specs.Int.{int_wrap}
use Rattle.std.specs.Fmt.{digits}
use Rattle.dj_names.specs.declared.descriptor.Base.TheVariants as bases
use Rattle.dj_names.specs.declared.descriptor.Ty.{Ty}
use Rattle.dj_names.specs.declared.run.Charge.TheVariants as charges
use Rattle.dj_names.specs.declared.run.Value.{Value}
use Rattle.dj_names.specs.declared.run.Value.TheVariants as values
use Rattle.dj_names.specs.declared.run.Element.TheVariants as elements
use Rattle.dj_names.specs.declared.run.Raised.TheVariants as raises
use Rattle.dj_names.specs.declared.native.NativeId.{NativeId}
use Rattle.dj_names.specs.declared.native.NativeId.TheVariants as natives
use Rattle.dj_names.specs.trusted.Heaps.{Instance, Array, Text, Heap}
use Rattle.dj_names.specs.trusted.Library.{object, string, builder, lang}
use Rattle.dj_names.specs.trusted.Tests.{units_read}
use Rattle.dj_names.specs.trusted.UnitReading.{two_read, three_read, long_read, unit_read}
use Rattle.dj_names.specs.trusted.Types.{class_type, base_array, array_type}
use Rattle.dj_names.specs.Types.{sandbox_prefix}
use Rattle.dj_model.specs.trusted.Linking.{most_classes, chain_of, interfaces_from, interfaces_above, is_subclass, is_subtype}
use Rattle.dj_model.specs.Libraries.{metered_program}
use Rattle.dj_model.specs.trusted.Natives.{Answer, Returns, Raises, MakesText, KeepsText, MakesChars, SetsFields, SetsElements, Adds, Rethrows, Word, Nanos, Millis, asks, answer, host_answer, shown_class}
use Rattle.dj_model.specs.trusted.Performing.{seen}

abbrev heap : Heap Ty
heap = record {
  objects = Text string (codes "abc") ∷ Text string [] ∷ Text string (codes "abd") ∷ Instance builder (3 ∷ []) ∷ Instance builder (0 ∷ [])
      ∷ Array (base_array bases.Char) elements.Char (pos 120 ∷ pos 121 ∷ []) ∷ Array (array_type string) elements.Ref (pos 1 ∷ pos 0 ∷ pos 3 ∷ [])
      ∷ Array (array_type object) elements.Ref (pos 1 ∷ pos 4 ∷ pos 3 ∷ []) ∷ Instance (class_type (lang (codes "Exception"))) (1 ∷ 10 ∷ [])
      ∷ Instance (class_type (codes "p/q/R")) [] ∷ Array (base_array bases.Int) elements.Int (pos 1 ∷ pos 2 ∷ pos 3 ∷ pos 4 ∷ [])
      ∷ Array (base_array bases.Byte) elements.Byte (pos 5 ∷ pos 6 ∷ []) ∷ Text string (codes "abcd") ∷ [];
  used = 0;
}

-- an answer of the deterministic library
abbrev of : NativeId → List Value → Answer
of id args = answer id (seen (metered_program []) [] heap) args

objects : of natives.ObjectNew (values.Ref 10 ∷ []) ∷ of natives.ObjectEquals (values.Ref 4 ∷ values.Ref 4 ∷ []) ∷ of natives.ObjectEquals (values.Ref 4 ∷ values.Ref 5 ∷ []) ∷ of natives.ObjectEquals (values.Ref 4 ∷ values.Ref 0 ∷ []) ∷ of natives.ObjectHashCode (values.Ref 10 ∷ []) ∷ of natives.ObjectToString (values.Ref 10 ∷ []) ∷ of natives.ObjectToString (values.Ref 7 ∷ []) ∷ of natives.ObjectToString (values.Ref 11 ∷ []) ∷ of natives.ObjectToString (values.Ref 1 ∷ []) ∷ []
    ≡ Returns None ∷ Returns (Some (values.Int (pos 1))) ∷ Returns (Some (values.Int (pos 0))) ∷ Returns (Some (values.Int (pos 0))) ∷ Returns (Some (values.Int (pos 10))) ∷ MakesText (codes "p.q.R@a") ∷ MakesText (codes "[Ljava.lang.String;@7") ∷ MakesText (codes "[I@b") ∷ MakesText (codes "java.lang.String@1") ∷ []
unfolding answer host_answer digits int_wrap most_classes chain_of interfaces_from interfaces_above is_subclass is_subtype metered_program units_read unit_read long_read two_read three_read
objects = refl

texts : of natives.StringLength (values.Ref 1 ∷ []) ∷ of natives.StringLength (values.Ref 2 ∷ []) ∷ of natives.StringIsEmpty (values.Ref 1 ∷ []) ∷ of natives.StringIsEmpty (values.Ref 2 ∷ []) ∷ of natives.StringToString (values.Ref 1 ∷ []) ∷ of natives.StringCharAt (values.Ref 1 ∷ values.Int (pos 0) ∷ []) ∷ of natives.StringCharAt (values.Ref 1 ∷ values.Int (pos 2) ∷ []) ∷ of natives.StringCharAt (values.Ref 1 ∷ values.Int (pos 3) ∷ []) ∷ of natives.StringCharAt (values.Ref 1 ∷ values.Int (negsuc 0) ∷ []) ∷ of natives.StringEquals (values.Ref 1 ∷ values.Ref 1 ∷ []) ∷ of natives.StringEquals (values.Ref 1 ∷ values.Ref 3 ∷ []) ∷ of natives.StringEquals (values.Ref 1 ∷ values.Ref 13 ∷ []) ∷ of natives.StringEquals (values.Ref 2 ∷ values.Ref 0 ∷ []) ∷ of natives.StringEquals (values.Ref 2 ∷ values.Ref 10 ∷ []) ∷ of natives.StringHashCode (values.Ref 1 ∷ []) ∷ of natives.StringHashCode (values.Ref 2 ∷ []) ∷ of natives.StringCompareTo (values.Ref 1 ∷ values.Ref 3 ∷ []) ∷ of natives.StringCompareTo (values.Ref 3 ∷ values.Ref 1 ∷ []) ∷ of natives.StringCompareTo (values.Ref 1 ∷ values.Ref 13 ∷ []) ∷ of natives.StringCompareTo (values.Ref 13 ∷ values.Ref 2 ∷ []) ∷ of natives.StringCompareTo (values.Ref 1 ∷ values.Ref 1 ∷ []) ∷ of natives.StringCompareTo (values.Ref 1 ∷ values.Ref 0 ∷ []) ∷ of natives.StringCompareToObject (values.Ref 1 ∷ values.Ref 3 ∷ []) ∷ of natives.StringCompareToObject (values.Ref 1 ∷ values.Ref 0 ∷ []) ∷ of natives.StringCompareToObject (values.Ref 1 ∷ values.Ref 4 ∷ []) ∷ of natives.StringStartsWith (values.Ref 13 ∷ values.Ref 1 ∷ []) ∷ of natives.StringStartsWith (values.Ref 1 ∷ values.Ref 13 ∷ []) ∷ of natives.StringStartsWith (values.Ref 1 ∷ values.Ref 2 ∷ []) ∷ of natives.StringStartsWith (values.Ref 13 ∷ values.Ref 3 ∷ []) ∷ of natives.StringStartsWith (values.Ref 1 ∷ values.Ref 0 ∷ []) ∷ of natives.StringConcat (values.Ref 1 ∷ values.Ref 3 ∷ []) ∷ of natives.StringConcat (values.Ref 1 ∷ values.Ref 2 ∷ []) ∷ of natives.StringConcat (values.Ref 2 ∷ values.Ref 1 ∷ []) ∷ of natives.StringConcat (values.Ref 1 ∷ values.Ref 0 ∷ []) ∷ of natives.StringSubstringFrom (values.Ref 13 ∷ values.Int (pos 1) ∷ []) ∷ of natives.StringSubstringFrom (values.Ref 13 ∷ values.Int (pos 4) ∷ []) ∷ of natives.StringSubstringFrom (values.Ref 13 ∷ values.Int (pos 5) ∷ []) ∷ of natives.StringSubstringFrom (values.Ref 13 ∷ values.Int (negsuc 0) ∷ []) ∷ of natives.StringSubstring (values.Ref 13 ∷ values.Int (pos 1) ∷ values.Int (pos 3) ∷ []) ∷ of natives.StringSubstring (values.Ref 13 ∷ values.Int (pos 2) ∷ values.Int (pos 2) ∷ []) ∷ of natives.StringSubstring (values.Ref 13 ∷ values.Int (pos 0) ∷ values.Int (pos 4) ∷ []) ∷ of natives.StringSubstring (values.Ref 13 ∷ values.Int (pos 0) ∷ values.Int (pos 5) ∷ []) ∷ of natives.StringSubstring (values.Ref 13 ∷ values.Int (pos 3) ∷ values.Int (pos 2) ∷ []) ∷ of natives.StringSubstring (values.Ref 13 ∷ values.Int (negsuc 0) ∷ values.Int (pos 2) ∷ []) ∷ of natives.StringToCharArray (values.Ref 1 ∷ []) ∷ []
    ≡ Returns (Some (values.Int (pos 3))) ∷ Returns (Some (values.Int (pos 0))) ∷ Returns (Some (values.Int (pos 0))) ∷ Returns (Some (values.Int (pos 1))) ∷ Returns (Some (values.Ref 1)) ∷ Returns (Some (values.Int (pos 97))) ∷ Returns (Some (values.Int (pos 99))) ∷ Raises raises.StringIndexOutOfBounds ∷ Raises raises.StringIndexOutOfBounds ∷ Returns (Some (values.Int (pos 1))) ∷ Returns (Some (values.Int (pos 0))) ∷ Returns (Some (values.Int (pos 0))) ∷ Returns (Some (values.Int (pos 0))) ∷ Returns (Some (values.Int (pos 0))) ∷ Returns (Some (values.Int (pos 96354))) ∷ Returns (Some (values.Int (pos 0))) ∷ Returns (Some (values.Int (negsuc 0))) ∷ Returns (Some (values.Int (pos 1))) ∷ Returns (Some (values.Int (negsuc 0))) ∷ Returns (Some (values.Int (pos 4))) ∷ Returns (Some (values.Int (pos 0))) ∷ Raises raises.NullPointer ∷ Returns (Some (values.Int (negsuc 0))) ∷ Raises raises.NullPointer ∷ Raises raises.ClassCast ∷ Returns (Some (values.Int (pos 1))) ∷ Returns (Some (values.Int (pos 0))) ∷ Returns (Some (values.Int (pos 1))) ∷ Returns (Some (values.Int (pos 0))) ∷ Raises raises.NullPointer ∷ MakesText (codes "abcabd") ∷ Returns (Some (values.Ref 1)) ∷ MakesText (codes "abc") ∷ Raises raises.NullPointer ∷ MakesText (codes "bcd") ∷ MakesText [] ∷ Raises raises.StringIndexOutOfBounds ∷ Raises raises.StringIndexOutOfBounds ∷ MakesText (codes "bc") ∷ MakesText [] ∷ MakesText (codes "abcd") ∷ Raises raises.StringIndexOutOfBounds ∷ Raises raises.StringIndexOutOfBounds ∷ Raises raises.StringIndexOutOfBounds ∷ MakesChars (codes "abc") ∷ []
unfolding answer host_answer digits int_wrap most_classes chain_of interfaces_from interfaces_above is_subclass is_subtype metered_program
texts = refl

-- of a char the low 16 bits count, of a boolean the lowest
values_of : of natives.StringValueOfChars (values.Ref 6 ∷ []) ∷ of natives.StringValueOfChars (values.Ref 0 ∷ []) ∷ of natives.StringValueOfChar (values.Int (pos 97) ∷ []) ∷ of natives.StringValueOfChar (values.Int (pos 65633) ∷ []) ∷ of natives.StringValueOfInt (values.Int (negsuc 119) ∷ []) ∷ of natives.StringValueOfInt (values.Int (pos 0) ∷ []) ∷ of natives.StringValueOfInt (values.Int (negsuc 2147483647) ∷ []) ∷ of natives.StringValueOfLong (values.Long (negsuc 9223372036854775807) ∷ []) ∷ of natives.StringValueOfBoolean (values.Int (pos 0) ∷ []) ∷ of natives.StringValueOfBoolean (values.Int (pos 1) ∷ []) ∷ of natives.StringValueOfBoolean (values.Int (pos 2) ∷ []) ∷ of natives.StringValueOfBoolean (values.Int (pos 3) ∷ []) ∷ []
    ≡ MakesText (codes "xy") ∷ Raises raises.NullPointer ∷ MakesText (codes "a") ∷ MakesText (codes "a") ∷ MakesText (codes "-120") ∷ MakesText (codes "0") ∷ MakesText (codes "-2147483648") ∷ MakesText (codes "-9223372036854775808") ∷ MakesText (codes "false") ∷ MakesText (codes "true") ∷ MakesText (codes "false") ∷ MakesText (codes "true") ∷ []
unfolding answer host_answer digits int_wrap most_classes chain_of interfaces_from interfaces_above is_subclass is_subtype metered_program
values_of = refl

builders : of natives.BuilderNew (values.Ref 5 ∷ []) ∷ of natives.BuilderNewText (values.Ref 5 ∷ values.Ref 1 ∷ []) ∷ of natives.BuilderNewText (values.Ref 5 ∷ values.Ref 0 ∷ []) ∷ of natives.BuilderAppendText (values.Ref 4 ∷ values.Ref 1 ∷ []) ∷ of natives.BuilderAppendText (values.Ref 4 ∷ values.Ref 0 ∷ []) ∷ of natives.BuilderAppendText (values.Ref 5 ∷ values.Ref 2 ∷ []) ∷ of natives.BuilderAppendChar (values.Ref 4 ∷ values.Int (pos 122) ∷ []) ∷ of natives.BuilderAppendInt (values.Ref 4 ∷ values.Int (negsuc 6) ∷ []) ∷ of natives.BuilderAppendLong (values.Ref 5 ∷ values.Long (pos 70) ∷ []) ∷ of natives.BuilderAppendBoolean (values.Ref 5 ∷ values.Int (pos 1) ∷ []) ∷ of natives.BuilderLength (values.Ref 4 ∷ []) ∷ of natives.BuilderLength (values.Ref 5 ∷ []) ∷ of natives.BuilderCharAt (values.Ref 4 ∷ values.Int (pos 2) ∷ []) ∷ of natives.BuilderCharAt (values.Ref 5 ∷ values.Int (pos 0) ∷ []) ∷ of natives.BuilderToString (values.Ref 4 ∷ []) ∷ of natives.BuilderToString (values.Ref 5 ∷ []) ∷ []
    ≡ SetsFields 5 (values.Ref 0 ∷ []) ∷ SetsFields 5 (values.Ref 1 ∷ []) ∷ Raises raises.NullPointer ∷ KeepsText 4 (codes "abdabc") ∷ KeepsText 4 (codes "abdnull") ∷ KeepsText 5 [] ∷ KeepsText 4 (codes "abdz") ∷ KeepsText 4 (codes "abd-7") ∷ KeepsText 5 (codes "70") ∷ KeepsText 5 (codes "true") ∷ Returns (Some (values.Int (pos 3))) ∷ Returns (Some (values.Int (pos 0))) ∷ Returns (Some (values.Int (pos 100))) ∷ Raises raises.StringIndexOutOfBounds ∷ MakesText (codes "abd") ∷ MakesText [] ∷ []
unfolding answer host_answer digits int_wrap most_classes chain_of interfaces_from interfaces_above is_subclass is_subtype metered_program
builders = refl

throwables : of natives.ThrowableNew (values.Ref 9 ∷ []) ∷ of natives.ThrowableNewMessage (values.Ref 9 ∷ values.Ref 3 ∷ []) ∷ of natives.ThrowableNewCause (values.Ref 9 ∷ values.Ref 3 ∷ values.Ref 9 ∷ []) ∷ of natives.GetMessage (values.Ref 9 ∷ []) ∷ of natives.GetCause (values.Ref 9 ∷ []) ∷ []
    ≡ SetsFields 9 (values.Ref 0 ∷ values.Ref 0 ∷ []) ∷ SetsFields 9 (values.Ref 3 ∷ values.Ref 0 ∷ []) ∷ SetsFields 9 (values.Ref 3 ∷ values.Ref 9 ∷ []) ∷ Returns (Some (values.Ref 1)) ∷ Returns (Some (values.Ref 10)) ∷ []
unfolding answer host_answer digits int_wrap most_classes chain_of interfaces_from interfaces_above is_subclass is_subtype metered_program
throwables = refl

numbers : of natives.AbsInt (values.Int (negsuc 4) ∷ []) ∷ of natives.AbsInt (values.Int (pos 5) ∷ []) ∷ of natives.AbsInt (values.Int (negsuc 2147483647) ∷ []) ∷ of natives.AbsLong (values.Long (negsuc 4) ∷ []) ∷ of natives.AbsLong (values.Long (negsuc 9223372036854775807) ∷ []) ∷ of natives.MaxInts (values.Int (negsuc 4) ∷ values.Int (pos 3) ∷ []) ∷ of natives.MaxInts (values.Int (pos 3) ∷ values.Int (negsuc 4) ∷ []) ∷ of natives.MaxLongs (values.Long (negsuc 4) ∷ values.Long (negsuc 5) ∷ []) ∷ of natives.MinInts (values.Int (negsuc 4) ∷ values.Int (pos 3) ∷ []) ∷ of natives.MinInts (values.Int (pos 3) ∷ values.Int (negsuc 4) ∷ []) ∷ of natives.MinLongs (values.Long (pos 7) ∷ values.Long (pos 6) ∷ []) ∷ of natives.IdentityHashCode (values.Ref 10 ∷ []) ∷ of natives.IdentityHashCode (values.Ref 0 ∷ []) ∷ []
    ≡ Returns (Some (values.Int (pos 5))) ∷ Returns (Some (values.Int (pos 5))) ∷ Returns (Some (values.Int (negsuc 2147483647))) ∷ Returns (Some (values.Long (pos 5))) ∷ Returns (Some (values.Long (negsuc 9223372036854775807))) ∷ Returns (Some (values.Int (pos 3))) ∷ Returns (Some (values.Int (pos 3))) ∷ Returns (Some (values.Long (negsuc 4))) ∷ Returns (Some (values.Int (negsuc 4))) ∷ Returns (Some (values.Int (negsuc 4))) ∷ Returns (Some (values.Long (pos 6))) ∷ Returns (Some (values.Int (pos 10))) ∷ Returns (Some (values.Int (pos 0))) ∷ []
unfolding answer host_answer digits int_wrap most_classes chain_of interfaces_from interfaces_above is_subclass is_subtype metered_program
numbers = refl

-- as if through a copy; the elements before one that is refused are copied
copies : of natives.ArrayCopy (values.Ref 11 ∷ values.Int (pos 0) ∷ values.Ref 11 ∷ values.Int (pos 1) ∷ values.Int (pos 3) ∷ []) ∷ of natives.ArrayCopy (values.Ref 11 ∷ values.Int (pos 1) ∷ values.Ref 11 ∷ values.Int (pos 0) ∷ values.Int (pos 3) ∷ []) ∷ of natives.ArrayCopy (values.Ref 11 ∷ values.Int (pos 2) ∷ values.Ref 11 ∷ values.Int (pos 2) ∷ values.Int (pos 0) ∷ []) ∷ of natives.ArrayCopy (values.Ref 0 ∷ values.Int (pos 0) ∷ values.Ref 11 ∷ values.Int (pos 0) ∷ values.Int (pos 0) ∷ []) ∷ of natives.ArrayCopy (values.Ref 11 ∷ values.Int (pos 0) ∷ values.Ref 0 ∷ values.Int (pos 0) ∷ values.Int (pos 0) ∷ []) ∷ of natives.ArrayCopy (values.Ref 10 ∷ values.Int (pos 0) ∷ values.Ref 11 ∷ values.Int (pos 0) ∷ values.Int (pos 1) ∷ []) ∷ of natives.ArrayCopy (values.Ref 11 ∷ values.Int (pos 0) ∷ values.Ref 1 ∷ values.Int (pos 0) ∷ values.Int (pos 1) ∷ []) ∷ of natives.ArrayCopy (values.Ref 11 ∷ values.Int (pos 0) ∷ values.Ref 12 ∷ values.Int (pos 0) ∷ values.Int (pos 1) ∷ []) ∷ of natives.ArrayCopy (values.Ref 11 ∷ values.Int (pos 0) ∷ values.Ref 7 ∷ values.Int (pos 0) ∷ values.Int (pos 9) ∷ []) ∷ of natives.ArrayCopy (values.Ref 11 ∷ values.Int (negsuc 0) ∷ values.Ref 11 ∷ values.Int (pos 0) ∷ values.Int (pos 1) ∷ []) ∷ of natives.ArrayCopy (values.Ref 11 ∷ values.Int (pos 0) ∷ values.Ref 11 ∷ values.Int (negsuc 0) ∷ values.Int (pos 1) ∷ []) ∷ of natives.ArrayCopy (values.Ref 11 ∷ values.Int (pos 0) ∷ values.Ref 11 ∷ values.Int (pos 0) ∷ values.Int (negsuc 0) ∷ []) ∷ of natives.ArrayCopy (values.Ref 11 ∷ values.Int (pos 2) ∷ values.Ref 11 ∷ values.Int (pos 0) ∷ values.Int (pos 3) ∷ []) ∷ of natives.ArrayCopy (values.Ref 11 ∷ values.Int (pos 0) ∷ values.Ref 11 ∷ values.Int (pos 2) ∷ values.Int (pos 3) ∷ []) ∷ of natives.ArrayCopy (values.Ref 11 ∷ values.Int (pos 4) ∷ values.Ref 11 ∷ values.Int (pos 0) ∷ values.Int (pos 0) ∷ []) ∷ of natives.ArrayCopy (values.Ref 7 ∷ values.Int (pos 0) ∷ values.Ref 8 ∷ values.Int (pos 0) ∷ values.Int (pos 3) ∷ []) ∷ of natives.ArrayCopy (values.Ref 8 ∷ values.Int (pos 0) ∷ values.Ref 7 ∷ values.Int (pos 0) ∷ values.Int (pos 3) ∷ []) ∷ of natives.ArrayCopy (values.Ref 8 ∷ values.Int (pos 1) ∷ values.Ref 7 ∷ values.Int (pos 0) ∷ values.Int (pos 2) ∷ []) ∷ of natives.ArrayCopy (values.Ref 8 ∷ values.Int (pos 2) ∷ values.Ref 7 ∷ values.Int (pos 1) ∷ values.Int (pos 1) ∷ []) ∷ []
    ≡ SetsElements 11 (pos 1 ∷ pos 1 ∷ pos 2 ∷ pos 3 ∷ []) None ∷ SetsElements 11 (pos 2 ∷ pos 3 ∷ pos 4 ∷ pos 4 ∷ []) None ∷ SetsElements 11 (pos 1 ∷ pos 2 ∷ pos 3 ∷ pos 4 ∷ []) None ∷ Raises raises.NullPointer ∷ Raises raises.NullPointer ∷ Raises raises.ArrayStore ∷ Raises raises.ArrayStore ∷ Raises raises.ArrayStore ∷ Raises raises.ArrayStore ∷ Raises raises.ArrayIndexOutOfBounds ∷ Raises raises.ArrayIndexOutOfBounds ∷ Raises raises.ArrayIndexOutOfBounds ∷ Raises raises.ArrayIndexOutOfBounds ∷ Raises raises.ArrayIndexOutOfBounds ∷ SetsElements 11 (pos 1 ∷ pos 2 ∷ pos 3 ∷ pos 4 ∷ []) None ∷ SetsElements 8 (pos 1 ∷ pos 0 ∷ pos 3 ∷ []) None ∷ SetsElements 7 (pos 1 ∷ pos 0 ∷ pos 3 ∷ []) (Some raises.ArrayStore) ∷ SetsElements 7 (pos 1 ∷ pos 0 ∷ pos 3 ∷ []) (Some raises.ArrayStore) ∷ SetsElements 7 (pos 1 ∷ pos 3 ∷ pos 3 ∷ []) None ∷ []
unfolding answer host_answer digits int_wrap most_classes chain_of interfaces_from interfaces_above is_subclass is_subtype metered_program
copies = refl

accounter : of natives.RecordJump ([]) ∷ of natives.RecordInvocation ([]) ∷ of natives.RecordThrow ([]) ∷ of natives.RecordAllocation (values.Int (pos 24) ∷ []) ∷ of natives.RecordAllocation (values.Int (negsuc 0) ∷ []) ∷ of natives.RecordArray (values.Int (pos 3) ∷ values.Int (pos 4) ∷ []) ∷ of natives.RecordArray (values.Int (pos 0) ∷ values.Int (pos 8) ∷ []) ∷ of natives.RecordArray (values.Int (negsuc 0) ∷ values.Int (pos 4) ∷ []) ∷ of natives.RecordArray (values.Int (pos 3) ∷ values.Int (negsuc 3) ∷ []) ∷ of natives.CheckCatch (values.Ref 9 ∷ []) ∷ []
    ≡ Adds charges.Jump 1 ∷ Adds charges.Invoke 1 ∷ Adds charges.Throw 1 ∷ Adds charges.Alloc 24 ∷ Adds charges.Alloc 0 ∷ Adds charges.Alloc 32 ∷ Adds charges.Alloc 16 ∷ Adds charges.Alloc 0 ∷ Adds charges.Alloc 0 ∷ Rethrows 9 ∷ []
unfolding answer host_answer digits int_wrap most_classes chain_of interfaces_from interfaces_above is_subclass is_subtype metered_program
accounter = refl

questions : map (λ id. asks id (values.Ref 4 ∷ [])) (natives.ObjectHashCode ∷ natives.HostHashCode ∷ natives.HostToString ∷ natives.HostIdentityHashCode ∷ natives.NanoTime ∷ natives.CurrentTimeMillis ∷ natives.IdentityHashCode ∷ [])
    ≡ None ∷ Some Word ∷ Some Word ∷ Some Word ∷ Some Nanos ∷ Some Millis ∷ None ∷ []
questions = refl

no_question : asks natives.HostIdentityHashCode (values.Ref 0 ∷ []) ∷ asks natives.HostHashCode (values.Ref 0 ∷ []) ∷ [] ≡ None ∷ Some Word ∷ []
no_question = refl

abbrev host_of : NativeId → ℤ → Answer
host_of id z = host_answer id (seen (metered_program []) [] heap) z (values.Ref 10 ∷ [])

host_answers : host_of natives.HostHashCode (negsuc 4) ∷ host_of natives.HostIdentityHashCode (pos 4) ∷ host_of natives.HostToString (negsuc 0) ∷ host_of natives.NanoTime (pos 4) ∷ host_of natives.CurrentTimeMillis (pos 5) ∷ []
    ≡ Returns (Some (values.Int (negsuc 4))) ∷ Returns (Some (values.Int (pos 4))) ∷ MakesText (codes "p.q.R@ffffffff") ∷ Returns (Some (values.Long (pos 4))) ∷ Returns (Some (values.Long (pos 5))) ∷ []
unfolding answer host_answer digits int_wrap most_classes chain_of interfaces_from interfaces_above is_subclass is_subtype metered_program units_read unit_read long_read two_read three_read
host_answers = refl

-- names without the prefix of the library, which is cut only where a name begins with it
shown : shown_class sandbox_prefix (class_type (codes "sandbox/a/B")) ∷ shown_class sandbox_prefix (array_type (class_type (codes "sandbox/B"))) ∷ shown_class sandbox_prefix (class_type (codes "a/sandbox/B"))
    ∷ shown_class [] (class_type (codes "sandbox/B")) ∷ shown_class [] (base_array bases.Long) ∷ []
    ≡ codes "a.B" ∷ codes "[LB;" ∷ codes "a.sandbox.B" ∷ codes "sandbox.B" ∷ codes "[J" ∷ []
unfolding units_read unit_read long_read two_read three_read
shown = refl

-- ---- a hash is wrapped to an int, also where its sum passes 31 bits

abbrev hashed : Heap Ty
hashed = record { objects = Text string (replicate 5 65535) ∷ Text string (codes "abcdefg") ∷ []; used = 0 }

wrapped_hashes : map (λ (r : ℕ). answer natives.StringHashCode (seen (metered_program []) [] hashed) (values.Ref r ∷ [])) (1 ∷ 2 ∷ [])
    ≡ Returns (Some (values.Int (negsuc 1884131264))) ∷ Returns (Some (values.Int (negsuc 1206291355))) ∷ []
unfolding answer int_wrap
wrapped_hashes = refl
