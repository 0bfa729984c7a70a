-- The effect of an instruction on the local variables and operands of the top frame, the heap, the static fields and the literals (JVMS 6.5).
use Rattle.std.specs.Prelude.{ℕ, zero, suc, ◌+◌, ◌-◌, ◌*◌, ◌/◌, ◌^◌, ◌&&◌, Bool, true, false, ℤ, pos, negsuc, ◌+ℤ◌, ◌-ℤ◌, ◌*ℤ◌, List, [], ◌∷◌, ◌++◌, length, map, set, Option, Some, None, Result, Ok, Err, slice_get, unsigned_abs, nat_lt, replicate, if◌then◌else◌}
use Rattle.std.specs.Int.{w8, w16, w32, w64, int_wrap, int_rem_euclid, int_bit_and, int_bit_or, int_bit_xor}
use Rattle.dj_names.specs.declared.descriptor.Kind.{Kind}
use Rattle.dj_names.specs.declared.descriptor.Kind.TheVariants as kinds
use Rattle.dj_names.specs.declared.run.Value.{Value}
use Rattle.dj_names.specs.declared.run.Value.TheVariants as values
use Rattle.dj_names.specs.declared.run.Element.{Element}
use Rattle.dj_names.specs.declared.run.Element.TheVariants as elements
use Rattle.dj_names.specs.declared.run.Raised.{Raised}
use Rattle.dj_names.specs.declared.run.Raised.TheVariants as raises
use Rattle.dj_names.specs.declared.run.Thresholds.{Thresholds}
use Rattle.dj_names.specs.trusted.Values.{value_kind, element_size}
use Rattle.dj_straight.specs.trusted.Objects.{Object, Array, Text}
use Rattle.dj_straight.specs.trusted.Program.{Name, same_name, Program}
use Rattle.dj_straight.specs.trusted.State.{Heap, Static, Literal}
use Rattle.dj_straight.specs.trusted.Instructions.{Instruction, Nop, Push, Load, Store, LoadElement, StoreElement, Move, Compute, Return, ArrayLength, NewArray, Other, IntOperation, Add, Subtract, Multiply, And, Or, Xor, StackOperation, Pop, Dup, Access, Bytes, Chars, Shorts, Ints, Longs}

-- the terms of a run
pub record Terms : Type 0 where
  -- the limit on the heap's bytes, where there is one
  pub limit : Option ℕ
  -- the class of the exception that an instruction raises
  pub raised : Raised → Name
  -- the thresholds for the charges that native methods add, where these are counted
  pub thresholds : Option Thresholds
  -- the class of the object that stops a run once a threshold is passed, where there is one
  pub stop : Option Name

-- what an instruction may change of the frame and the state
pub record StraightPart : Type 0 where
  pub locals : List (Option Value)
  -- the top first
  pub operands : List Value
  pub heap : Heap
  pub statics : List Static
  pub literals : List Literal

-- how the run goes on after an instruction
pub data Flow : Type 0 where
  -- at the next instruction
  Next : Flow
  -- at the instruction of this number
  To : ℕ → Flow
  -- with an exception of the instruction's own
  Raise : Raised → Flow
  -- with the object of this number as an exception
  Throw : ℕ → Flow
  -- in the caller, with this result of the method
  Back : Option Value → Flow
  -- the run ends: a reference is of a class that its use doesn't allow
  Broken : Flow
  -- the run ends: with this many bytes used, an object of this size doesn't fit
  Full : ℕ → ℕ → Flow

pub record Effect : Type 0 where
  pub part : StraightPart
  pub flow : Flow

-- the run goes on at the next instruction, with the value pushed on these operands
abbrev pub pushes : StraightPart → List Value → Value → Effect
pushes p operands v = record { part = record p { operands = v ∷ operands }; flow = Next }

-- the run goes on in this way, and nothing changed
abbrev pub goes : StraightPart → Flow → Effect
goes p flow = record { part = p; flow = flow }

-- ---- kinds

abbrev pub same_kind : Kind → Kind → Bool
same_kind kinds.Int kinds.Int = true
same_kind kinds.Long kinds.Long = true
same_kind kinds.Ref kinds.Ref = true
same_kind _ _ = false

abbrev pub is_of_kind : Kind → Value → Bool
is_of_kind kind v = same_kind kind (value_kind v)

-- JVMS 2.6.1: a long takes two local variables
abbrev pub slots_of : Kind → ℕ
slots_of kinds.Long = 2
slots_of _ = 1

-- ---- local variables

abbrev pub local_at : List (Option Value) → ℕ → Option Value
local_at locals slot = value_in (slice_get locals slot) where
  value_in : Option (Option Value) → Option Value
  value_in None = None
  value_in (Some v) = v

abbrev pub is_long : Option Value → Bool
is_long (Some (values.Long z)) = true
is_long _ = false

-- a long that ends in this slot loses its value
abbrev pub without_long_before : List (Option Value) → ℕ → List (Option Value)
without_long_before locals zero = locals
without_long_before locals (suc before) = if is_long (local_at locals before) then set locals before None else locals

abbrev pub set_local : List (Option Value) → ℕ → Value → List (Option Value)
set_local locals slot (values.Long z) = set (set locals slot (Some (values.Long z))) (slot + 1) None
set_local locals slot v = set locals slot (Some v)

abbrev pub stored : List (Option Value) → ℕ → Value → List (Option Value)
stored locals slot v = set_local (without_long_before locals slot) slot v

abbrev pub load_value : StraightPart → Kind → Option Value → Option Effect
load_value p kind None = None
load_value p kind (Some v) = if is_of_kind kind v then Some (pushes p p.operands v) else None

abbrev pub load : StraightPart → Kind → ℕ → Option Effect
load p kind slot = load_value p kind (local_at p.locals slot)

abbrev pub store_in : StraightPart → Kind → ℕ → List Value → Option Effect
store_in p kind slot (v ∷ rest) =
    if is_of_kind kind v && nat_lt (slot + slots_of kind - 1) (length p.locals)
    then Some (record { part = record p { locals = stored p.locals slot v; operands = rest }; flow = Next }) else None
store_in p kind slot _ = None

-- ---- operands alone

abbrev pub move : StraightPart → StackOperation → List Value → Option Effect
move p Pop (v ∷ rest) = if same_kind kinds.Long (value_kind v) then None else Some (goes (record p { operands = rest }) Next)
move p Dup (v ∷ rest) = if same_kind kinds.Long (value_kind v) then None else Some (pushes p (v ∷ rest) v)
move p operation _ = None

-- the number that is computed, or the exception that is raised
abbrev pub compute : IntOperation → ℤ → ℤ → Result ℤ Raised
compute Add a b = Ok (int_wrap w32 (a +ℤ b))
compute Subtract a b = Ok (int_wrap w32 (a -ℤ b))
compute Multiply a b = Ok (int_wrap w32 (a *ℤ b))
compute And a b = Ok (int_bit_and w32 a b)
compute Or a b = Ok (int_bit_or w32 a b)
compute Xor a b = Ok (int_bit_xor w32 a b)

abbrev pub computed : StraightPart → List Value → Result ℤ Raised → Effect
computed p rest (Ok z) = pushes p rest (values.Int z)
computed p rest (Err raised) = goes p (Raise raised)

abbrev pub compute_two : StraightPart → IntOperation → List Value → Option Effect
compute_two p operation (values.Int b ∷ (values.Int a ∷ rest)) = Some (computed p rest (compute operation a b))
compute_two p operation _ = None

-- the top operand is returned; nothing is returned where there is no kind
abbrev pub return_top : StraightPart → Option Kind → List Value → Option Effect
return_top p None operands = Some (goes p (Back None))
return_top p (Some kind) [] = None
return_top p (Some kind) (v ∷ rest) = if is_of_kind kind v then Some (goes p (Back (Some v))) else None

-- ---- arrays

-- JVMS 6.5: baload and bastore reach arrays of bytes and of booleans, every other access arrays of one kind of element
abbrev pub reaches : Access → Element → Bool
reaches Bytes elements.Boolean = true
reaches Bytes elements.Byte = true
reaches Chars elements.Char = true
reaches Shorts elements.Short = true
reaches Ints elements.Int = true
reaches Longs elements.Long = true
reaches _ _ = false

-- the kind of the values that are loaded and stored
abbrev pub access_kind : Access → Kind
access_kind Longs = kinds.Long
access_kind _ = kinds.Int

abbrev pub object_at : List Object → ℕ → Option Object
object_at objects zero = None
object_at objects (suc n) = slice_get objects n

-- what a reference is where an array is wanted
pub data Found : Type 0 where
  Null : Found
  NoArray : Found
  IsArray : Name → Element → List ℤ → Found

abbrev pub array_in : Option Object → Found
array_in (Some (Array class element values)) = IsArray class element values
array_in _ = NoArray

abbrev pub array_at : List Object → ℕ → Found
array_at objects zero = Null
array_at objects (suc n) = array_in (slice_get objects n)

-- an array that the access doesn't reach counts as no array
abbrev pub only : Access → Found → Found
only access (IsArray class element contents) = if reaches access element then IsArray class element contents else NoArray
only access found = found

-- JVMS 6.5: none where the index is negative or not below the length
abbrev pub element_at : List ℤ → ℤ → Option ℤ
element_at contents (pos i) = slice_get contents i
element_at contents (negsuc i) = None

abbrev pub with_element : List ℤ → ℤ → ℤ → List ℤ
with_element contents (pos i) z = set contents i z
with_element contents (negsuc i) z = contents

-- an element as a value
abbrev pub element_value : Element → ℤ → Value
element_value elements.Long z = values.Long z
element_value elements.Ref z = values.Ref (unsigned_abs z)
element_value _ z = values.Int z

abbrev pub value_number : Value → ℤ
value_number (values.Int z) = z
value_number (values.Long z) = z
value_number (values.Ref r) = pos r

-- what an element keeps of a number: its low bits, with a sign except in an array of chars
abbrev pub kept : Element → ℤ → ℤ
kept elements.Boolean z = int_wrap w8 z
kept elements.Byte z = int_wrap w8 z
kept elements.Char z = int_rem_euclid z (pos (2 ^ 16))
kept elements.Short z = int_wrap w16 z
kept elements.Int z = int_wrap w32 z
kept elements.Long z = int_wrap w64 z
kept elements.Ref z = z

-- null raises an exception, what is no such array ends the run, and an array is used
abbrev pub reached : StraightPart → Found → (Name → Element → List ℤ → Effect) → Effect
reached p Null found = goes p (Raise raises.NullPointer)
reached p NoArray found = goes p Broken
reached p (IsArray class element contents) found = found class element contents

abbrev pub load_found : StraightPart → List Value → Element → Option ℤ → Effect
load_found p rest element None = goes p (Raise raises.ArrayIndexOutOfBounds)
load_found p rest element (Some z) = pushes p rest (element_value element z)

abbrev pub load_element : StraightPart → Access → List Value → Option Effect
load_element p access (values.Int index ∷ (values.Ref r ∷ rest)) =
    Some (reached p (only access (array_at p.heap.objects r)) (λ class element contents. load_found p rest element (element_at contents index)))
load_element p access _ = None

-- the heap with another object of this number
abbrev pub with_object : Heap → ℕ → Object → Heap
with_object heap r object = record heap { objects = set heap.objects (r - 1) object }

-- the exception that a store in an array of the class raises: a number raises none, and only numbers are stored so far
abbrev pub store_raises : Program → Terms → List Object → Name → Value → Option Raised
store_raises program terms objects class v = None

abbrev pub put : StraightPart → List Value → ℕ → Object → Option Raised → Effect
put p rest r object None = record { part = record p { operands = rest; heap = with_object p.heap r object }; flow = Next }
put p rest r object (Some raised) = goes p (Raise raised)

-- the index is checked first, and then whether the array takes the value
abbrev pub store_found : StraightPart → List Value → ℕ → Object → Option ℤ → Option Raised → Effect
store_found p rest r object None refused = goes p (Raise raises.ArrayIndexOutOfBounds)
store_found p rest r object (Some z) refused = put p rest r object refused

abbrev pub store_element : Program → Terms → StraightPart → Access → List Value → Option Effect
store_element program terms p access (v ∷ (values.Int index ∷ (values.Ref r ∷ rest))) =
    if is_of_kind (access_kind access) v
    then Some (reached p (only access (array_at p.heap.objects r)) (λ class element contents.
    store_found p rest r (Array class element (with_element contents index (kept element (value_number v)))) (element_at contents index)
    (store_raises program terms p.heap.objects class v)))
    else None
store_element program terms p access _ = None

abbrev pub array_length : StraightPart → List Value → Option Effect
array_length p (values.Ref r ∷ rest) =
    Some (reached p (array_at p.heap.objects r) (λ class element contents. pushes p rest (values.Int (pos (length contents)))))
array_length p _ = None

-- ---- new objects

-- rounded up to a multiple of 8
abbrev pub rounded : ℕ → ℕ
rounded n = (n + 7) / 8 * 8

abbrev pub array_size : Element → ℕ → ℕ
array_size element n = 16 + rounded (n * element_size element)

-- the size of an exception that an instruction raises, which has two fields
abbrev pub raised_size : ℕ
raised_size = 32

abbrev pub new_contents : ℕ → List ℤ
new_contents n = replicate n (pos 0)

-- whether this many bytes are more than the limit; without a limit none are
abbrev pub passes_limit : Option ℕ → ℕ → Bool
passes_limit None bytes = false
passes_limit (Some limit) bytes = nat_lt limit bytes

-- the heap with one more object
abbrev pub with_new : Heap → ℕ → Object → Heap
with_new heap size object = record { objects = heap.objects ++ object ∷ []; used = heap.used + size }

-- the number that the next object gets
abbrev pub next_number : Heap → ℕ
next_number heap = length heap.objects + 1

abbrev pub make : Option ℕ → StraightPart → List Value → ℕ → Object → Effect
make limit p rest size object =
    if passes_limit limit (p.heap.used + size) then goes p (Full p.heap.used size)
    else record { part = record p { operands = values.Ref (next_number p.heap) ∷ rest; heap = with_new p.heap size object }; flow = Next }

abbrev pub make_array : Option ℕ → StraightPart → Name → Element → List Value → Option Effect
make_array limit p class element (values.Int (pos n) ∷ rest) =
    Some (make limit p rest (array_size element n) (Array class element (new_contents n)))
make_array limit p class element (values.Int (negsuc n) ∷ rest) = Some (goes p (Raise raises.NegativeArraySize))
make_array limit p class element _ = None

-- ---- static fields and literals

abbrev pub is_field : Name → Name → Name → Static → Bool
is_field class name desc s = same_name s.class class && same_name s.name name && same_name s.desc desc

-- the static fields, where this one has this value
abbrev pub with_static : List Static → Name → Name → Name → Value → List Static
with_static statics class name desc value = map (λ s. if is_field class name desc s then record s { value = value } else s) statics

-- the object that this text has already, where it was used as a literal before
abbrev pub literal_in : List Literal → List ℕ → Option ℕ
literal_in [] units = None
literal_in (l ∷ literals) units = if same_name l.units units then Some l.object else literal_in literals units

abbrev pub text_size : List ℕ → ℕ
text_size units = 16 + rounded (2 * length units)

-- the number of a literal's object, with the heap and the literals as they are then
pub record LiteralMade : Type 0 where
  pub object : ℕ
  pub heap : Heap
  pub literals : List Literal

-- JVMS 5.1: a literal has one text object, which is made at its first use; none where it doesn't fit in the heap
abbrev pub with_literal : Option ℕ → Heap → List Literal → List ℕ → Option LiteralMade
with_literal limit heap literals units = made (literal_in literals units) where
  made : Option ℕ → Option LiteralMade
  made (Some object) = Some (record { object = object; heap = heap; literals = literals })
  made None =
      if passes_limit limit (heap.used + text_size units) then None
      else Some (record {
        object = next_number heap;
        heap = with_new heap (text_size units) (Text units);
        literals = literals ++ record { units = units; object = next_number heap } ∷ [];
      })

-- ---- the effect, in a program and on the terms of a run; none where the instruction lacks the kinds that it takes or isn't supported yet

unfoldable pub effect : Program → Terms → Instruction → StraightPart → Option Effect
effect program terms Nop p = Some (goes p Next)
effect program terms (Push v) p = Some (pushes p p.operands v)
effect program terms (Load kind slot) p = load p kind slot
effect program terms (Store kind slot) p = store_in p kind slot p.operands
effect program terms (LoadElement access) p = load_element p access p.operands
effect program terms (StoreElement access) p = store_element program terms p access p.operands
effect program terms (Move operation) p = move p operation p.operands
effect program terms (Compute operation) p = compute_two p operation p.operands
effect program terms (Return kind) p = return_top p kind p.operands
effect program terms ArrayLength p = array_length p p.operands
effect program terms (NewArray class element) p = make_array terms.limit p class element p.operands
effect program terms (Other op) p = None
