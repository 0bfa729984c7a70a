-- Fields, casts and calls (JVMS 6.5).
use Rattle.std.specs.Prelude.{ℕ, ◌+◌, ◌&&◌, Bool, true, false, ℤ, pos, List, [], ◌∷◌, ◌++◌, set, reverse, Option, Some, None, slice_index, nat_eq, if◌then◌else◌}
use Rattle.dj_names.specs.declared.descriptor.Kind.{Kind}
use Rattle.dj_names.specs.declared.descriptor.Ty.{Ty}
use Rattle.dj_names.specs.declared.descriptor.Desc.{Desc}
use Rattle.dj_names.specs.declared.run.Value.{Value}
use Rattle.dj_names.specs.declared.run.Value.TheVariants as values
use Rattle.dj_names.specs.declared.run.Raised.TheVariants as raises
use Rattle.dj_names.specs.declared.run.Outcome.TheVariants as outcomes
use Rattle.dj_names.specs.trusted.Descriptors.{type_kind}
use Rattle.dj_names.specs.trusted.Heaps.{Object, Instance, Heap, object_at, with_object, with_new, next_number, text_size, field_bits, field_value}
use Rattle.dj_names.specs.trusted.Types.{Name, same_name, class_type, parameters_of}
use Rattle.dj_model.specs.trusted.Types.{Member, Prefix, throwable_name}
use Rattle.dj_model.specs.trusted.Instructions.{Mode, Virtual, Special, Static, Interface}
use Rattle.dj_model.specs.trusted.Numbers.{is_of_kind}
use Rattle.dj_model.specs.trusted.Program.{Program, Body, Abstract, Native, Runs}
use Rattle.dj_model.specs.trusted.Linking.{FoundMethod, FoundField, is_among, chain, member_class, resolve_method, select, special_method, declared_of, place_of, place_of_static}
use Rattle.dj_model.specs.trusted.State.{Terms, Literal, Part, Next, Raise, Goes, Catch, Call, End, Effect, pushes, goes}
use Rattle.dj_model.specs.trusted.Arrays.{passes_limit}
use Rattle.dj_model.specs.trusted.Performing.{is_instance, class_at_number, text_object, native}

abbrev pub broken : Part → Effect
broken p = goes p (End outcomes.Link)

-- ---- static fields

abbrev pub get_static : Program → Part → Option Kind → Option FoundField → Option Effect
get_static program p (Some kind) (Some found) = Some (pushes p p.operands (field_value kind (slice_index p.statics (place_of_static program found))))
get_static program p _ _ = None

abbrev pub put_static : Program → Part → Option Kind → Option FoundField → List Value → Option Effect
put_static program p (Some kind) (Some found) (v ∷ rest) =
    if is_of_kind kind v
    then Some (record { part = record p { operands = rest; statics = set p.statics (place_of_static program found) (field_bits v) }; flow = Goes Next }) else None
put_static program p _ _ _ = None

-- ---- fields of instances

-- whether an object has the field: it is an instance of the class that declares the field, or of one below it
pub data Holder : Type 0 where
  NullHolder : Holder
  NoHolder : Holder
  Holds : Ty → List ℕ → Holder

abbrev pub holder_in : Program → Prefix → Name → Option (Object Ty) → Holder
holder_in program prefix declaring (Some (Instance class fields)) =
    if is_among (chain program (member_class prefix class)) declaring then Holds class fields else NoHolder
holder_in program prefix declaring _ = NoHolder

abbrev pub holder_at : Program → Prefix → Name → Heap Ty → ℕ → Holder
holder_at program prefix declaring heap r = if nat_eq r 0 then NullHolder else holder_in program prefix declaring (object_at heap.objects r)

abbrev pub get_from : Part → List Value → Kind → ℕ → Holder → Effect
get_from p rest kind place NullHolder = goes p (Goes (Raise raises.NullPointer))
get_from p rest kind place NoHolder = broken p
get_from p rest kind place (Holds class fields) = pushes p rest (field_value kind (slice_index fields place))

abbrev pub put_in : Part → List Value → ℕ → ℕ → Value → Holder → Effect
put_in p rest place r v NullHolder = goes p (Goes (Raise raises.NullPointer))
put_in p rest place r v NoHolder = broken p
put_in p rest place r v (Holds class fields) =
    record { part = record p { operands = rest; heap = with_object p.heap r (Instance class (set fields place (field_bits v))) }; flow = Goes Next }

abbrev pub get_field : Program → Prefix → Part → Option Kind → Option FoundField → List Value → Option Effect
get_field program prefix p (Some kind) (Some found) (values.Ref r ∷ rest) =
    Some (get_from p rest kind (place_of program found) (holder_at program prefix found.class p.heap r))
get_field program prefix p _ _ _ = None

abbrev pub put_field : Program → Prefix → Part → Option Kind → Option FoundField → List Value → Option Effect
put_field program prefix p (Some kind) (Some found) (v ∷ (values.Ref r ∷ rest)) =
    if is_of_kind kind v then Some (put_in p rest (place_of program found) r v (holder_at program prefix found.class p.heap r)) else None
put_field program prefix p _ _ _ = None

-- ---- texts

-- the object that this text has already, where it was used as a literal before
abbrev pub literal_in : List Literal → List ℕ → Option ℕ
literal_in [] units = None
literal_in (l ∷ literals) units = if same_name l.units units then Some l.object else literal_in literals units

-- a literal's object, with the heap and the literals as they are then
pub record Kept : Type 0 where
  pub object : ℕ
  pub heap : Heap Ty
  pub literals : List Literal

abbrev pub kept_or_made : Option ℕ → Prefix → Heap Ty → List Literal → List ℕ → Option ℕ → Option Kept
kept_or_made limit prefix heap literals units (Some r) = Some (record { object = r; heap = heap; literals = literals })
kept_or_made limit prefix heap literals units None =
    if passes_limit limit (heap.used + text_size units) then None
    else Some (record {
      object = next_number heap;
      heap = with_new heap (text_object prefix units);
      literals = literals ++ record { units = units; object = next_number heap } ∷ [];
    })

-- JVMS 5.1: a literal has one text object, which is made at its first use; none where it doesn't fit in the heap
unfoldable pub with_literal : Option ℕ → Prefix → Heap Ty → List Literal → List ℕ → Option Kept
with_literal limit prefix heap literals units = kept_or_made limit prefix heap literals units (literal_in literals units)

abbrev pub push_kept : Part → List ℕ → Option Kept → Effect
push_kept p units None = goes p (End (outcomes.HeapFull p.heap.used (text_size units)))
push_kept p units (Some k) =
    record { part = record p { operands = values.Ref k.object ∷ p.operands; heap = k.heap; literals = k.literals }; flow = Goes Next }

-- ---- casts and thrown objects

abbrev pub check_cast : Program → Prefix → Part → Ty → List Value → Option Effect
check_cast program prefix p class (values.Ref r ∷ rest) =
    Some (if is_instance program prefix p.heap r class then goes p (Goes Next) else goes p (Goes (Raise raises.ClassCast)))
check_cast program prefix p class _ = None

abbrev pub instance_number : Bool → ℤ
instance_number true = pos 1
instance_number false = pos 0

abbrev pub instance_of : Program → Prefix → Part → Ty → List Value → Option Effect
instance_of program prefix p class (values.Ref r ∷ rest) =
    Some (pushes p rest (values.Int (if nat_eq r 0 then pos 0 else instance_number (is_instance program prefix p.heap r class))))
instance_of program prefix p class _ = None

abbrev pub throw_top : Program → Prefix → Part → List Value → Option Effect
throw_top program prefix p (values.Ref r ∷ rest) =
    Some (if nat_eq r 0 then goes p (Goes (Raise raises.NullPointer))
    else if is_instance program prefix p.heap r (class_type (throwable_name prefix)) then goes p (Catch r) else broken p)
throw_top program prefix p _ = None

-- ---- arguments

-- the kinds of these types, where each has one
abbrev pub with_kind : Option Kind → Option (List Kind) → Option (List Kind)
with_kind (Some kind) (Some others) = Some (kind ∷ others)
with_kind _ _ = None

abbrev pub kinds_of : List Ty → Option (List Kind)
kinds_of [] = Some []
kinds_of (type ∷ types) = with_kind (type_kind type) (kinds_of types)

-- the values that were taken, in the order in which they were pushed, and the operands below them
pub record Arguments : Type 0 where
  pub values : List Value
  pub rest : List Value

abbrev pub with_last : Value → Option Arguments → Option Arguments
with_last v None = None
with_last v (Some a) = Some (record { values = a.values ++ v ∷ []; rest = a.rest })

-- a value for each kind is taken, the first kind's on top
abbrev pub taken_from : List Kind → List Value → Option Arguments
taken_from [] operands = Some (record { values = []; rest = operands })
taken_from (kind ∷ others) [] = None
taken_from (kind ∷ others) (v ∷ rest) = if is_of_kind kind v then with_last v (taken_from others rest) else None

abbrev pub arguments_of : Option (List Kind) → List Value → Option Arguments
arguments_of None operands = None
arguments_of (Some parameters) operands = taken_from (reverse parameters) operands

-- ---- calls

-- each argument that is a reference is null or of the class of its parameter
abbrev pub are_instances : Program → Prefix → Heap Ty → List Ty → List Value → Bool
are_instances program prefix heap (type ∷ types) (values.Ref r ∷ args) =
    is_instance program prefix heap r type && are_instances program prefix heap types args
are_instances program prefix heap (type ∷ types) (v ∷ args) = are_instances program prefix heap types args
are_instances program prefix heap _ _ = true

-- the method is called with the receiver, where there is one, and the arguments; types are those of its parameters
abbrev pub run_body : Program → Prefix → Terms → Part → FoundMethod → List Value → List Value → List Ty → Body → Option Effect
run_body program prefix terms p found receiver args types Abstract = Some (broken p)
run_body program prefix terms p found receiver args types (Runs code) = Some (goes p (Call (declared_of found) (receiver ++ args)))
run_body program prefix terms p found receiver args types (Native id) =
    if are_instances program prefix p.heap types args then native program prefix terms p id (receiver ++ args) else Some (broken p)

-- where a call selects no method, the run is broken off
abbrev pub run_method : Program → Prefix → Terms → Part → List Value → List Value → List Ty → Option FoundMethod → Option Effect
run_method program prefix terms p receiver args types None = Some (broken p)
run_method program prefix terms p receiver args types (Some found) = run_body program prefix terms p found receiver args types found.method.body

-- the receiver isn't null, and is of the class that declares the method
abbrev pub received : Program → Prefix → Part → ℕ → Name → Option Effect → Option Effect
received program prefix p r declaring effect =
    if nat_eq r 0 then Some (goes p (Goes (Raise raises.NullPointer)))
    else if is_instance program prefix p.heap r (class_type declaring) then effect else Some (broken p)

-- the class of which the receiver has to be
abbrev pub asked_class : FoundMethod → Option FoundMethod → Name
asked_class resolved None = resolved.class
asked_class resolved (Some found) = found.class

abbrev pub call_special : Program → Prefix → Terms → Part → FoundMethod → ℕ → List Value → List Ty → Option FoundMethod → Option Effect
call_special program prefix terms p resolved r args types found =
    received program prefix p r (asked_class resolved found) (run_method program prefix terms p (values.Ref r ∷ []) args types found)

abbrev pub call_virtual : Program → Prefix → Terms → Part → FoundMethod → ℕ → List Value → List Ty → Option Effect
call_virtual program prefix terms p resolved r args types =
    received program prefix p r resolved.class
    (run_method program prefix terms p (values.Ref r ∷ []) args types (select program prefix resolved (class_at_number p.heap r)))

-- the receiver is the top of the operands below the arguments
abbrev pub call : Program → Prefix → Terms → Name → Mode → Part → FoundMethod → List Ty → List Value → List Value → Option Effect
call program prefix terms own Static p resolved types args rest =
    run_method program prefix terms (record p { operands = rest }) [] args types (Some resolved)
call program prefix terms own Special p resolved types args (values.Ref r ∷ rest) =
    call_special program prefix terms (record p { operands = rest }) resolved r args types (special_method program own resolved)
call program prefix terms own Virtual p resolved types args (values.Ref r ∷ rest) =
    call_virtual program prefix terms (record p { operands = rest }) resolved r args types
call program prefix terms own (Interface count) p resolved types args (values.Ref r ∷ rest) =
    call_virtual program prefix terms (record p { operands = rest }) resolved r args types
call program prefix terms own mode p resolved types args _ = None

abbrev pub call_with : Program → Prefix → Terms → Name → Mode → Desc → Part → Option FoundMethod → Option Arguments → Option Effect
call_with program prefix terms own mode desc p (Some resolved) (Some a) = call program prefix terms own mode p resolved (parameters_of desc) a.values a.rest
call_with program prefix terms own mode desc p _ _ = None

unfoldable pub invoke : Program → Prefix → Terms → Name → Mode → Member → Part → Option Effect
invoke program prefix terms own mode m p =
    call_with program prefix terms own mode m.desc p (resolve_method program prefix m) (arguments_of (kinds_of (parameters_of m.desc)) p.operands)
