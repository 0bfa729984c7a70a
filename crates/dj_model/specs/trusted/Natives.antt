-- Native methods: the answer of each, by its arguments and by what it sees of the heap.
use Rattle.std.specs.Prelude.{ℕ, ◌+◌, ◌*◌, ◌&&◌, Bool, true, false, ℤ, pos, negsuc, ◌-ℤ◌, List, [], ◌∷◌, ◌++◌, length, map, take, drop, Option, Some, None, codes, nat_eq, nat_le, if◌then◌else◌, slice_get, slice_range, unsigned_abs}
use Rattle.std.specs.Int.{w32, w64, int_max, int_min, int_wrap, int_rem_euclid, cast_unsigned}
use Rattle.std.specs.List.{starts_with}
use Rattle.std.specs.Fmt.{decimal, digits}
use Rattle.dj_names.specs.declared.descriptor.Of.{Of}
use Rattle.dj_names.specs.declared.descriptor.Of.TheVariants as ofs
use Rattle.dj_names.specs.declared.descriptor.Ty.{Ty}
use Rattle.dj_names.specs.declared.descriptor.Kind.TheVariants as kinds
use Rattle.dj_names.specs.declared.run.Value.{Value}
use Rattle.dj_names.specs.declared.run.Value.TheVariants as values
use Rattle.dj_names.specs.declared.run.Element.{Element}
use Rattle.dj_names.specs.declared.run.Element.TheVariants as elements
use Rattle.dj_names.specs.declared.run.Raised.{Raised}
use Rattle.dj_names.specs.declared.run.Raised.TheVariants as raises
use Rattle.dj_names.specs.declared.run.Charge.{Charge}
use Rattle.dj_names.specs.declared.run.Charge.TheVariants as charges
use Rattle.dj_names.specs.declared.native.NativeId.{NativeId}
use Rattle.dj_names.specs.declared.native.NativeId.TheVariants as natives
use Rattle.dj_names.specs.trusted.Descriptors.{type_text}
use Rattle.dj_names.specs.trusted.Tests.{units_read}
use Rattle.dj_names.specs.trusted.Heaps.{same_element, field_value, rounded}
use Rattle.dj_names.specs.trusted.Types.{Name, same_name, of_map}
use Rattle.dj_edge.specs.declared.host.HostAnswer.{HostAnswer}
use Rattle.dj_edge.specs.declared.host.HostAnswer.TheVariants as host
use Rattle.dj_model.specs.trusted.Types.{Prefix}

-- ---- what a native method answers: it doesn't depend on charges, on a limit or on who counts

pub data Answer : Type 0 where
  -- it returns this, or nothing
  Returns : Option Value → Answer
  Raises : Raised → Answer
  -- it makes a text of these units, and returns it
  MakesText : List ℕ → Answer
  -- it makes a text of these units, which becomes the first field of the object; the object is returned
  KeepsText : ℕ → List ℕ → Answer
  -- it makes an array of chars, and returns it
  MakesChars : List ℕ → Answer
  -- it sets the first fields of the object to these
  SetsFields : ℕ → List Value → Answer
  -- it sets the elements of the array, and then raises this exception, where there is one
  SetsElements : ℕ → List ℤ → Option Raised → Answer
  -- it adds to the sum of this charge
  Adds : Charge → ℕ → Answer
  -- the object is thrown again where it is the one that stops the run
  Rethrows : ℕ → Answer

-- ---- what a native method sees: the functions take the numbers of objects

pub record Elements : Type 0 where
  pub element : Element
  pub contents : List ℤ

pub record Seen : Type 0 where
  -- the units of a text; none for any other object
  pub units : ℕ → List ℕ
  pub is_text : ℕ → Bool
  -- the 64 bits of the field at this place
  pub field : ℕ → ℕ → ℕ
  -- an array's elements
  pub elements : ℕ → Option Elements
  -- whether the array of the first number takes the reference of the second
  pub takes : ℕ → ℕ → Bool
  -- the units of the class's name, without the prefix of the library
  pub class_text : ℕ → List ℕ

-- ---- arguments, the receiver first; an argument of another kind counts as 0

abbrev pub as_reference : Option Value → ℕ
as_reference (Some (values.Ref r)) = r
as_reference _ = 0

abbrev pub as_number : Option Value → ℤ
as_number (Some (values.Int z)) = z
as_number (Some (values.Long z)) = z
as_number _ = pos 0

abbrev pub reference : ℕ → List Value → ℕ
reference i args = as_reference (slice_get args i)

abbrev pub number : ℕ → List Value → ℤ
number i args = as_number (slice_get args i)

-- of an argument that is a boolean the lowest bit counts, and of a char the low 16 bits
abbrev pub flag : ℕ → List Value → Bool
flag i args = nat_eq (unsigned_abs (int_rem_euclid (number i args) (pos 2))) 1

abbrev pub unit : ℕ → List Value → ℕ
unit i args = unsigned_abs (int_rem_euclid (number i args) (pos 65536))

-- ---- results

abbrev pub gives_int : ℤ → Answer
gives_int z = Returns (Some (values.Int z))

abbrev pub gives_long : ℤ → Answer
gives_long z = Returns (Some (values.Long z))

abbrev pub gives_reference : ℕ → Answer
gives_reference r = Returns (Some (values.Ref r))

abbrev pub gives_truth : Bool → Answer
gives_truth b = gives_int (if b then pos 1 else pos 0)

-- null raises an exception before all else
abbrev pub unless_null : ℕ → Answer → Answer
unless_null r answer = if nat_eq r 0 then Raises raises.NullPointer else answer

-- ---- texts

abbrev pub signed_decimal : ℤ → List ℕ
signed_decimal (pos n) = decimal n
signed_decimal (negsuc n) = codes "-" ++ decimal (n + 1)

abbrev pub truth_text : Bool → List ℕ
truth_text b = if b then codes "true" else codes "false"

-- the text of an object: its class's name, and this word in lower-case hexadecimal
abbrev pub object_text : List ℕ → ℕ → List ℕ
object_text class word = class ++ codes "@" ++ digits 16 false word

abbrev pub unit_answer : Option ℕ → Answer
unit_answer None = Raises raises.StringIndexOutOfBounds
unit_answer (Some unit) = gives_int (pos unit)

abbrev pub unit_at : List ℕ → ℤ → Answer
unit_at units (pos i) = unit_answer (slice_get units i)
unit_at units (negsuc i) = Raises raises.StringIndexOutOfBounds

abbrev pub part_between : List ℕ → ℤ → ℤ → Answer
part_between units (pos from) (pos to) =
    if nat_le from to && nat_le to (length units) then MakesText (slice_range units from to) else Raises raises.StringIndexOutOfBounds
part_between units from to = Raises raises.StringIndexOutOfBounds

-- each unit times 31 to the power of how many units follow it
abbrev pub hash_onto : ℕ → List ℕ → ℕ
hash_onto hash [] = hash
hash_onto hash (unit ∷ units) = hash_onto (31 * hash + unit) units

-- the difference of the first units that differ, or else of the lengths
abbrev pub difference : List ℕ → List ℕ → ℤ
difference (a ∷ as_) (b ∷ bs) = if nat_eq a b then difference as_ bs else pos a -ℤ pos b
difference as_ bs = pos (length as_) -ℤ pos (length bs)

abbrev pub joined_text : ℕ → List ℕ → List ℕ → Answer
joined_text r units [] = gives_reference r
joined_text r units (more ∷ others) = MakesText (units ++ more ∷ others)

abbrev pub compared_text : Seen → ℕ → ℕ → Answer
compared_text heap r other =
    if nat_eq other 0 then Raises raises.NullPointer
    else if heap.is_text other then gives_int (difference (heap.units r) (heap.units other)) else Raises raises.ClassCast

-- ---- builders: the first field is a text; null stands for no units

abbrev pub builder_units : Seen → ℕ → List ℕ
builder_units heap r = heap.units (heap.field r 0)

abbrev pub text_or_null : Seen → ℕ → List ℕ
text_or_null heap r = if nat_eq r 0 then codes "null" else heap.units r

abbrev pub appended : Seen → ℕ → List ℕ → Answer
appended heap r units = KeepsText r (builder_units heap r ++ units)

-- ---- arrays

abbrev pub elements_units : Option Elements → List ℕ
elements_units None = []
elements_units (Some a) = map unsigned_abs a.contents

-- the references before the first that the array doesn't take
abbrev pub taken_before : (ℕ → Bool) → List ℤ → List ℤ
taken_before takes [] = []
taken_before takes (z ∷ rest) = if takes (unsigned_abs z) then z ∷ taken_before takes rest else []

abbrev pub is_reference : Element → Bool
is_reference elements.Ref = true
is_reference _ = false

abbrev pub copied : ℕ → List ℤ → ℕ → List ℤ → ℕ → Answer
copied target old to moved count =
    SetsElements target (take to old ++ moved ++ drop (to + length moved) old) (if nat_eq (length moved) count then None else Some raises.ArrayStore)

abbrev pub copy_within : (ℕ → Bool) → ℕ → Elements → Elements → ℤ → ℤ → ℤ → Answer
copy_within takes target a b (pos from) (pos to) (pos count) =
    if nat_le (from + count) (length a.contents) && nat_le (to + count) (length b.contents)
    then copied target b.contents to
    (if is_reference b.element then taken_before takes (slice_range a.contents from (from + count)) else slice_range a.contents from (from + count)) count
    else Raises raises.ArrayIndexOutOfBounds
copy_within takes target a b from to count = Raises raises.ArrayIndexOutOfBounds

abbrev pub copy_between : (ℕ → Bool) → ℕ → Option Elements → Option Elements → ℤ → ℤ → ℤ → Answer
copy_between takes target (Some a) (Some b) from to count =
    if same_element a.element b.element then copy_within takes target a b from to count else Raises raises.ArrayStore
copy_between takes target a b from to count = Raises raises.ArrayStore

abbrev pub copy_array : Seen → ℕ → ℤ → ℕ → ℤ → ℤ → Answer
copy_array heap source from target to count =
    unless_null source (unless_null target (copy_between (heap.takes target) target (heap.elements source) (heap.elements target) from to count))

-- ---- the amounts of the accounter's methods: a negative number adds nothing

abbrev pub allocation_amount : ℤ → ℕ
allocation_amount (pos n) = n
allocation_amount (negsuc n) = 0

abbrev pub array_amount : ℤ → ℤ → ℕ
array_amount (pos n) (pos size) = 16 + rounded (n * size)
array_amount n size = 0

-- ---- the answers, by methods; of a method that asks the host only the answer for null is here

unfoldable pub answer : NativeId → Seen → List Value → Answer
answer natives.ObjectNew heap args = Returns None
answer natives.ObjectEquals heap args = gives_truth (nat_eq (reference 0 args) (reference 1 args))
answer natives.ObjectHashCode heap args = gives_int (pos (reference 0 args))
answer natives.ObjectToString heap args = MakesText (object_text (heap.class_text (reference 0 args)) (reference 0 args))
answer natives.StringLength heap args = gives_int (pos (length (heap.units (reference 0 args))))
answer natives.StringIsEmpty heap args = gives_truth (nat_eq (length (heap.units (reference 0 args))) 0)
answer natives.StringToString heap args = gives_reference (reference 0 args)
answer natives.StringCharAt heap args = unit_at (heap.units (reference 0 args)) (number 1 args)
answer natives.StringEquals heap args =
    gives_truth (heap.is_text (reference 1 args) && same_name (heap.units (reference 0 args)) (heap.units (reference 1 args)))
answer natives.StringHashCode heap args = gives_int (int_wrap w32 (pos (hash_onto 0 (heap.units (reference 0 args)))))
answer natives.StringCompareTo heap args = compared_text heap (reference 0 args) (reference 1 args)
answer natives.StringCompareToObject heap args = compared_text heap (reference 0 args) (reference 1 args)
answer natives.StringStartsWith heap args =
    unless_null (reference 1 args) (gives_truth (starts_with nat_eq (heap.units (reference 0 args)) (heap.units (reference 1 args))))
answer natives.StringConcat heap args =
    unless_null (reference 1 args) (joined_text (reference 0 args) (heap.units (reference 0 args)) (heap.units (reference 1 args)))
answer natives.StringSubstringFrom heap args =
    part_between (heap.units (reference 0 args)) (number 1 args) (pos (length (heap.units (reference 0 args))))
answer natives.StringSubstring heap args = part_between (heap.units (reference 0 args)) (number 1 args) (number 2 args)
answer natives.StringToCharArray heap args = MakesChars (heap.units (reference 0 args))
answer natives.StringValueOfChars heap args = unless_null (reference 0 args) (MakesText (elements_units (heap.elements (reference 0 args))))
answer natives.StringValueOfChar heap args = MakesText (unit 0 args ∷ [])
answer natives.StringValueOfInt heap args = MakesText (signed_decimal (number 0 args))
answer natives.StringValueOfLong heap args = MakesText (signed_decimal (number 0 args))
answer natives.StringValueOfBoolean heap args = MakesText (truth_text (flag 0 args))
answer natives.BuilderNew heap args = SetsFields (reference 0 args) (values.Ref 0 ∷ [])
answer natives.BuilderNewText heap args = unless_null (reference 1 args) (SetsFields (reference 0 args) (values.Ref (reference 1 args) ∷ []))
answer natives.BuilderAppendText heap args = appended heap (reference 0 args) (text_or_null heap (reference 1 args))
answer natives.BuilderAppendChar heap args = appended heap (reference 0 args) (unit 1 args ∷ [])
answer natives.BuilderAppendInt heap args = appended heap (reference 0 args) (signed_decimal (number 1 args))
answer natives.BuilderAppendLong heap args = appended heap (reference 0 args) (signed_decimal (number 1 args))
answer natives.BuilderAppendBoolean heap args = appended heap (reference 0 args) (truth_text (flag 1 args))
answer natives.BuilderLength heap args = gives_int (pos (length (builder_units heap (reference 0 args))))
answer natives.BuilderCharAt heap args = unit_at (builder_units heap (reference 0 args)) (number 1 args)
answer natives.BuilderToString heap args = MakesText (builder_units heap (reference 0 args))
answer natives.ThrowableNew heap args = SetsFields (reference 0 args) (values.Ref 0 ∷ values.Ref 0 ∷ [])
answer natives.ThrowableNewMessage heap args = SetsFields (reference 0 args) (values.Ref (reference 1 args) ∷ values.Ref 0 ∷ [])
answer natives.ThrowableNewCause heap args = SetsFields (reference 0 args) (values.Ref (reference 1 args) ∷ values.Ref (reference 2 args) ∷ [])
answer natives.GetMessage heap args = Returns (Some (field_value kinds.Ref (heap.field (reference 0 args) 0)))
answer natives.GetCause heap args = Returns (Some (field_value kinds.Ref (heap.field (reference 0 args) 1)))
answer natives.AbsInt heap args = gives_int (int_wrap w32 (pos (unsigned_abs (number 0 args))))
answer natives.AbsLong heap args = gives_long (int_wrap w64 (pos (unsigned_abs (number 0 args))))
answer natives.MaxInts heap args = gives_int (int_max (number 0 args) (number 1 args))
answer natives.MaxLongs heap args = gives_long (int_max (number 0 args) (number 1 args))
answer natives.MinInts heap args = gives_int (int_min (number 0 args) (number 1 args))
answer natives.MinLongs heap args = gives_long (int_min (number 0 args) (number 1 args))
answer natives.IdentityHashCode heap args = gives_int (pos (reference 0 args))
answer natives.ArrayCopy heap args = copy_array heap (reference 0 args) (number 1 args) (reference 2 args) (number 3 args) (number 4 args)
answer natives.HostHashCode heap args = gives_int (pos 0)
answer natives.HostToString heap args = gives_reference 0
answer natives.HostIdentityHashCode heap args = gives_int (pos 0)
answer natives.NanoTime heap args = gives_long (pos 0)
answer natives.CurrentTimeMillis heap args = gives_long (pos 0)
answer natives.RecordJump heap args = Adds charges.Jump 1
answer natives.RecordInvocation heap args = Adds charges.Invoke 1
answer natives.RecordThrow heap args = Adds charges.Throw 1
answer natives.RecordAllocation heap args = Adds charges.Alloc (allocation_amount (number 0 args))
answer natives.RecordArray heap args = Adds charges.Alloc (array_amount (number 0 args) (number 1 args))
answer natives.CheckCatch heap args = Rethrows (reference 0 args)

-- ---- what the host is asked for

pub data Question : Type 0 where
  Word : Question
  Nanos : Question
  Millis : Question

-- the question that the method asks the host; null has no hash
abbrev pub asks : NativeId → List Value → Option Question
asks natives.HostHashCode args = Some Word
asks natives.HostToString args = Some Word
asks natives.HostIdentityHashCode args = if nat_eq (reference 0 args) 0 then None else Some Word
asks natives.NanoTime args = Some Nanos
asks natives.CurrentTimeMillis args = Some Millis
asks id args = None

-- the answer as a number, where it is of the kind that was asked for
abbrev pub answered : Question → HostAnswer → Option ℤ
answered Word (host.Word z) = Some z
answered Nanos (host.Nanos z) = Some z
answered Millis (host.Millis z) = Some z
answered _ _ = None

-- what the method answers with the host's answer
unfoldable pub host_answer : NativeId → Seen → ℤ → List Value → Answer
host_answer natives.HostToString heap z args = MakesText (object_text (heap.class_text (reference 0 args)) (cast_unsigned w32 z))
host_answer natives.NanoTime heap z args = gives_long z
host_answer natives.CurrentTimeMillis heap z args = gives_long z
host_answer id heap z args = gives_int z

-- ---- class names in texts

abbrev pub plain_name : Prefix → Name → Name
plain_name prefix name = if starts_with nat_eq name prefix then drop (length prefix) name else name

-- a class's name, or an array's descriptor
abbrev pub class_name : Ty → Name
class_name ty = if nat_eq ty.dims 0 then name_of ty.of else type_text ty where
  name_of : Of → Name
  name_of (ofs.Base base) = []
  name_of (ofs.Class name) = name

abbrev pub units_or_none : Option (List ℕ) → List ℕ
units_or_none None = []
units_or_none (Some units) = units

-- the UTF-16 units that the name's modified UTF-8 spells (JVMS 4.4.7); none where it spells none
abbrev pub name_units : Name → List ℕ
name_units name = units_or_none (units_read (length name) name)

abbrev pub class_text : Ty → List ℕ
class_text ty = name_units (class_name ty)

abbrev pub plain_class : Prefix → Ty → Ty
plain_class prefix ty = record { dims = ty.dims; of = of_map (plain_name prefix) ty.of }

abbrev pub with_dots : List ℕ → List ℕ
with_dots units = map (λ unit. if nat_eq unit 47 then 46 else unit) units

abbrev pub shown_class : Prefix → Ty → List ℕ
shown_class prefix ty = with_dots (class_text (plain_class prefix ty))
