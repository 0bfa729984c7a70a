-- Single definitions at single arguments, computed.
use Rattle.std.proofs.Common.{◌≡◌, true, false, pos, negsuc, ℕ, List, [], ◌∷◌, map, replicate, Option, Some, None, Ok, Err, codes, refl}
use Rattle.std.specs.Int.{int_wrap}
use Rattle.dj_names.specs.declared.descriptor.Kind.TheVariants as kinds
use Rattle.dj_names.specs.declared.run.Value.TheVariants as values
use Rattle.dj_names.specs.declared.run.Element.{Element}
use Rattle.dj_names.specs.declared.run.Element.TheVariants as elements
use Rattle.dj_names.specs.declared.run.Charge.{Charge}
use Rattle.dj_names.specs.declared.run.Charge.TheVariants as charges
use Rattle.dj_names.specs.declared.run.Message.TheVariants as messages
use Rattle.dj_names.specs.declared.run.Costs.{Costs}
use Rattle.dj_names.specs.declared.run.Thresholds.{Thresholds}
use Rattle.dj_names.specs.declared.run.Outcome.{Outcome}
use Rattle.dj_names.specs.declared.run.Outcome.TheVariants as outcomes
use Rattle.dj_names.specs.trusted.Values.{raised_class}
use Rattle.dj_straight.specs.trusted.Objects.{Object, Instance, Array, Text}
use Rattle.dj_names.specs.declared.run.Raised.TheVariants as raises
use Rattle.dj_straight.specs.trusted.Instructions.{Bytes, Chars, Shorts, Ints, Longs, Nop, Return, Add, Subtract, instruction_of, simple}
use Rattle.dj_straight.specs.trusted.Program.{Name, Program, Method, method_in, Abstract, Field, Constant, Int, Long, Text as TextConstant, is_subclass, ancestors_of, field_kind, chain_of, has_initialiser, code_of}
use Rattle.dj_straight.specs.trusted.Metered.{begin, start_state, input_array, turns_from, metered_terms, Ends}
use Rattle.dj_straight.specs.trusted.State.{Frame, State}
use Rattle.dj_straight.specs.trusted.Effects.{reaches, access_kind, element_value, kept, array_size, text_size, StraightPart, Flow, Next, To, Raise, Throw, Back, Broken, Full, IsArray, NoArray, reached, goes, make, effect, Terms, Effect, computed, compute_two, put, store_found, store_raises, return_top}
use Rattle.dj_straight.specs.trusted.Initialisation.{Initialised, Ready, Waits, Fails, argument_slots, with_frames, constants_of, with_constants}
use Rattle.dj_straight.specs.trusted.Step.{Answer, Ended, Went, IllFormed, message_of, raise, resumed, unwound, settle, done, bytes_in, result_outcome, prepared, returned, leaves, stopped_by, ended_by, ends_with, throw}
use Rattle.dj_straight.specs.trusted.Charges.{paid, Paid, Exceeds}
use Rattle.dj_straight.specs.trusted.FrameKinds.{kind_slots}
use Rattle.dj_straight.specs.SmallRuns.{class_with, limited_to, field_with, text_desc, beginning, initialiser_with, entry, verify_with, op}
use Rattle.dj_ops.specs.Mnemonics.{aconst_null, pop, arraylength}

-- ---- arrays

abbrev each_element : List Element
each_element =
    elements.Boolean ∷ elements.Byte ∷ elements.Char ∷ elements.Short ∷ elements.Int ∷ elements.Long ∷ elements.Ref ∷ []

bytes_reach : map (reaches Bytes) each_element ≡ true ∷ true ∷ false ∷ false ∷ false ∷ false ∷ false ∷ []
bytes_reach = refl

chars_reach : map (reaches Chars) each_element ≡ false ∷ false ∷ true ∷ false ∷ false ∷ false ∷ false ∷ []
chars_reach = refl

shorts_reach : map (reaches Shorts) each_element ≡ false ∷ false ∷ false ∷ true ∷ false ∷ false ∷ false ∷ []
shorts_reach = refl

ints_reach : map (reaches Ints) each_element ≡ false ∷ false ∷ false ∷ false ∷ true ∷ false ∷ false ∷ []
ints_reach = refl

longs_reach : map (reaches Longs) each_element ≡ false ∷ false ∷ false ∷ false ∷ false ∷ true ∷ false ∷ []
longs_reach = refl

access_kinds : map access_kind (Bytes ∷ Chars ∷ Shorts ∷ Ints ∷ Longs ∷ []) ≡ kinds.Int ∷ kinds.Int ∷ kinds.Int ∷ kinds.Int ∷ kinds.Long ∷ []
access_kinds = refl

-- the low bits are kept, with a sign but for chars
kept_of_negative : map (λ element. kept element (negsuc 0)) each_element
    ≡ negsuc 0 ∷ negsuc 0 ∷ pos 65535 ∷ negsuc 0 ∷ negsuc 0 ∷ negsuc 0 ∷ negsuc 0 ∷ []
unfolding int_wrap
kept_of_negative = refl

kept_of_large : map (λ element. kept element (pos 98432)) each_element
    ≡ negsuc 127 ∷ negsuc 127 ∷ pos 32896 ∷ negsuc 32639 ∷ pos 98432 ∷ pos 98432 ∷ pos 98432 ∷ []
unfolding int_wrap
kept_of_large = refl

values_of_elements : map (λ element. element_value element (pos 5)) each_element
    ≡ values.Int (pos 5) ∷ values.Int (pos 5) ∷ values.Int (pos 5) ∷ values.Int (pos 5) ∷ values.Int (pos 5) ∷ values.Long (pos 5) ∷ values.Ref 5 ∷ []
values_of_elements = refl

sizes_of_three : map (λ element. array_size element 3) each_element ≡ 24 ∷ 24 ∷ 24 ∷ 24 ∷ 32 ∷ 40 ∷ 32 ∷ []
sizes_of_three = refl

sizes_of_texts : map text_size ([] ∷ codes "abcd" ∷ codes "abcde" ∷ []) ≡ 16 ∷ 24 ∷ 32 ∷ []
sizes_of_texts = refl

-- ---- kinds of fields and slots of arguments

kinds_of_fields : map field_kind (codes "B" ∷ codes "C" ∷ codes "I" ∷ codes "S" ∷ codes "Z" ∷ codes "J" ∷ codes "LA;" ∷ codes "[J" ∷ codes "F" ∷ codes "D" ∷ [])
    ≡ Some kinds.Int ∷ Some kinds.Int ∷ Some kinds.Int ∷ Some kinds.Int ∷ Some kinds.Int ∷ Some kinds.Long ∷ Some kinds.Ref ∷ Some kinds.Ref ∷ None ∷ None ∷ []
kinds_of_fields = refl

slots_of_arguments : argument_slots (values.Long (pos 5) ∷ values.Int (pos 6) ∷ values.Ref 7 ∷ [])
    ≡ Some (values.Long (pos 5)) ∷ None ∷ Some (values.Int (pos 6)) ∷ Some (values.Ref 7) ∷ []
slots_of_arguments = refl

slots_of_kinds : kind_slots (Some kinds.Long ∷ Some kinds.Int ∷ None ∷ Some kinds.Ref ∷ []) ≡ Some kinds.Long ∷ None ∷ Some kinds.Int ∷ None ∷ Some kinds.Ref ∷ []
slots_of_kinds = refl

-- ---- charges

abbrev all_five : Thresholds
all_five = record { alloc = 5; invoke = 5; jump = 5; throw = 5 }

abbrev each_four : Costs
each_four = record { alloc = 4; invoke = 4; jump = 4; throw = 4 }

abbrev each_charge : List Charge
each_charge = charges.Alloc ∷ charges.Invoke ∷ charges.Jump ∷ charges.Throw ∷ []

-- at the threshold the run goes on
paid_at_threshold : map (λ charge. paid all_five each_four ((charge, 1) ∷ [])) each_charge
    ≡ Paid (record each_four { alloc = 5 }) ∷ Paid (record each_four { invoke = 5 }) ∷ Paid (record each_four { jump = 5 })
    ∷ Paid (record each_four { throw = 5 }) ∷ []
paid_at_threshold = refl

-- above it the run is stopped, with what was added; what comes after isn't added
stopped_above : map (λ charge. paid all_five each_four ((charge, 2) ∷ (charges.Throw, 7) ∷ [])) each_charge
    ≡ Exceeds charges.Alloc (record each_four { alloc = 6 }) ∷ Exceeds charges.Invoke (record each_four { invoke = 6 })
    ∷ Exceeds charges.Jump (record each_four { jump = 6 }) ∷ Exceeds charges.Throw (record each_four { throw = 6 }) ∷ []
stopped_above = refl

-- ---- exceptions

abbrev no_state : State
no_state = record {
  heap = record { objects = []; used = 0 };
  statics = [];
  initialised = [];
  literals = [];
  frames = [];
  costs = each_four;
  exceeded = None;
}

abbrev new_instance : Object
new_instance = Instance (codes "X") (values.Ref 0 ∷ values.Ref 0 ∷ [])

-- an exception that an instruction raises has two fields, which are null, and 32 bytes
raised : raise [] (limited_to 32) no_state (codes "X")
    ≡ Ended (outcomes.Threw (codes "X") messages.Null) (record no_state { heap = record { objects = new_instance ∷ []; used = 32 } })
unfolding unwound
raised = refl

no_room_to_raise : raise [] (limited_to 31) no_state (codes "X") ≡ Ended (outcomes.HeapFull 0 32) no_state
no_room_to_raise = refl

-- its first field is the message
messages_are : map (message_of (Text (codes "m") ∷ Text (codes "c") ∷ Instance (codes "X") (values.Ref 1 ∷ values.Ref 2 ∷ []) ∷ new_instance ∷ [])) (3 ∷ 4 ∷ [])
    ≡ messages.Text (codes "m") ∷ messages.Null ∷ []
messages_are = refl

-- ---- returns

abbrev frame_of : Name → Frame
frame_of name = record { method = record { class = codes "A"; name = name; desc = codes "()V" }; number = 3; locals = []; operands = values.Int (pos 1) ∷ []; paid = true }

-- the caller goes on at its next instruction, with the result on top
resumed_with_result : resumed (frame_of (codes "f")) (Some (values.Int (pos 2))) (frame_of (codes "g"))
    ≡ record (frame_of (codes "g")) { number = 4; operands = values.Int (pos 2) ∷ values.Int (pos 1) ∷ []; paid = false }
resumed_with_result = refl

resumed_without : resumed (frame_of (codes "f")) None (frame_of (codes "g")) ≡ record (frame_of (codes "g")) { number = 4; paid = false }
resumed_without = refl

-- after an initialiser the caller's instruction is still to be done, and is paid
resumed_after_initialiser : resumed (frame_of (codes "<clinit>")) None (frame_of (codes "g")) ≡ frame_of (codes "g")
resumed_after_initialiser = refl

-- ---- subclasses

-- A below B, which has the interface I; I has the interface J
abbrev some_classes : Program
some_classes =
    record (class_with []) { superclass = Some (codes "B") }
    ∷ record (class_with []) { name = codes "B"; interfaces = codes "I" ∷ [] }
    ∷ record (class_with []) { name = codes "I"; interfaces = codes "J" ∷ [] }
    ∷ []

above_a : map (is_subclass some_classes (codes "A")) (codes "A" ∷ codes "B" ∷ codes "I" ∷ codes "J" ∷ codes "java/lang/Object" ∷ codes "K" ∷ [])
    ≡ true ∷ true ∷ true ∷ true ∷ true ∷ false ∷ []
unfolding is_subclass ancestors_of
above_a = refl

below_b : map (λ class. is_subclass some_classes class (codes "B")) (codes "A" ∷ codes "B" ∷ codes "I" ∷ codes "java/lang/Object" ∷ [])
    ≡ true ∷ true ∷ false ∷ false ∷ []
unfolding is_subclass ancestors_of
below_b = refl

-- ---- the greatest depth

abbrev how : Initialised → Option Outcome
how (Ready s) = None
how (Waits s) = None
how (Fails outcome s) = Some outcome

deepest : how (with_frames (record no_state { frames = frame_of (codes "f") ∷ [] }) (replicate 1023 (frame_of (codes "<clinit>")))) ≡ None
deepest = refl

too_deep : how (with_frames (record no_state { frames = frame_of (codes "f") ∷ [] }) (replicate 1024 (frame_of (codes "<clinit>")))) ≡ Some outcomes.TooDeep
too_deep = refl

-- ---- what follows an effect, an initialisation and a return

-- the second object is an exception with the first as its message
abbrev with_message : State
with_message = record no_state {
  heap = record { objects = Text (codes "m") ∷ Instance (codes "X") (values.Ref 1 ∷ values.Ref 0 ∷ []) ∷ []; used = 0 };
}

throws_with_message : unwound [] (limited_to 32) with_message (codes "X") 2 [] ≡ Ended (outcomes.Threw (codes "X") (messages.Text (codes "m"))) with_message
unfolding unwound
throws_with_message = refl

no_part : StraightPart
no_part = record { locals = []; operands = []; heap = record { objects = []; used = 0 }; statics = []; literals = [] }

goes_to : settle [] (limited_to 32) no_state (frame_of (codes "f")) [] no_part (To 9)
    ≡ Went (record no_state { frames = record (frame_of (codes "f")) { number = 9; operands = []; paid = false } ∷ [] })
unfolding no_part
goes_to = refl

results : map bytes_in (IsArray (codes "[B") elements.Byte (negsuc 0 ∷ []) ∷ IsArray (codes "[Z") elements.Boolean [] ∷ NoArray ∷ [])
    ≡ outcomes.OkBytes (255 ∷ []) ∷ outcomes.Link ∷ outcomes.Link ∷ []
results = refl

no_result : map (result_outcome (record { objects = []; used = 0 })) (None ∷ Some (values.Int (pos 0)) ∷ []) ≡ outcomes.Link ∷ outcomes.Link ∷ []
no_result = refl

waits : done [] (limited_to 32) (frame_of (codes "f")) [] Nop (Waits no_state) ≡ Went no_state
waits = refl

waits_then_fails : done [] (limited_to 32) (frame_of (codes "f")) [] Nop (Fails outcomes.TooDeep no_state) ≡ Ended outcomes.TooDeep no_state
waits_then_fails = refl

ready : done [] (limited_to 32) (frame_of (codes "f")) (frame_of (codes "g") ∷ []) Nop (Ready no_state)
    ≡ Went (record no_state { frames = record (frame_of (codes "f")) { number = 4; paid = false } ∷ frame_of (codes "g") ∷ [] })
unfolding effect
ready = refl

prepares : prepared [] (limited_to 32) (Some (codes "A")) no_state ≡ Ready (record no_state { initialised = codes "A" ∷ [] })
unfolding constants_of with_constants chain_of has_initialiser
prepares = refl

returns_above : returned no_state (frame_of (codes "f")) None (frame_of (codes "g") ∷ frame_of (codes "h") ∷ [])
    ≡ Went (record no_state { frames = record (frame_of (codes "g")) { number = 4; paid = false } ∷ frame_of (codes "h") ∷ [] })
returns_above = refl

throws : settle [] (limited_to 32) (record no_state { heap = record { objects = new_instance ∷ []; used = 32 } }) (frame_of (codes "f")) [] no_part (Throw 1)
    ≡ Ended (outcomes.Threw (codes "X") messages.Null) (record no_state { heap = record { objects = new_instance ∷ []; used = 32 } })
unfolding no_part unwound
throws = refl

leaves_with_message : leaves (limited_to 32) with_message (codes "X") 2 (frame_of (codes "<clinit>")) IllFormed
    ≡ Ended (outcomes.Init (codes "A") (codes "X") (messages.Text (codes "m"))) with_message
leaves_with_message = refl

no_array : reached no_part NoArray (λ class element contents. goes no_part Next) ≡ goes no_part Broken
no_array = refl

full : make (Some 47) (record no_part { heap = record { objects = []; used = 16 } }) [] 32 new_instance ≡ goes (record no_part { heap = record { objects = []; used = 16 } }) (Full 16 32)
unfolding no_part
full = refl

abbrev field_of : Name → Name → Option Constant → Field
field_of name desc constant = field_with 8 name desc constant

-- A below B, with fields of one name, and of the same texts
abbrev fields_twice : Program
fields_twice =
    record (class_with []) {
      superclass = Some (codes "B");
      fields =
          field_of (codes "i") (codes "I") (Some (Int (pos 7)))
          ∷ field_of (codes "i") (codes "J") (Some (Long (pos 5)))
          ∷ field_of (codes "k") (codes "I") None
          ∷ field_of (codes "l") (codes "J") None
          ∷ field_with 0 (codes "x") text_desc (Some (TextConstant (codes "no")))
          ∷ field_of (codes "s") text_desc (Some (TextConstant (codes "abcde")))
          ∷ field_of (codes "t") text_desc (Some (TextConstant (codes "f")))
          ∷ [];
    }
    ∷ record (class_with []) {
      name = codes "B";
      fields =
          field_of (codes "i") (codes "I") (Some (Int (pos 9))) ∷ field_of (codes "u") text_desc (Some (TextConstant (codes "f"))) ∷ [];
    }
    ∷ []

each_field : beginning fields_twice [] 72 ≡ Ok (record {
  statics = values.Int (pos 7) ∷ values.Long (pos 5) ∷ values.Int (pos 0) ∷ values.Long (pos 0) ∷ values.Ref 3 ∷ values.Ref 2 ∷ values.Int (pos 9) ∷ values.Ref 2 ∷ [];
  objects = input_array [] ∷ Text (codes "f") ∷ Text (codes "abcde") ∷ [];
  used = 72;
  initialised = codes "java/lang/Object" ∷ codes "B" ∷ codes "A" ∷ [];
  frames = codes "A" ∷ [];
})
unfolding begin constants_of with_constants code_of has_initialiser chain_of
each_field = refl

no_room_for_second : beginning fields_twice [] 71 ≡ Err (outcomes.HeapFull 40 32)
unfolding begin constants_of with_constants code_of has_initialiser chain_of
no_room_for_second = refl

input_object : input_array (255 ∷ []) ≡ Array (codes "[B") elements.Byte (negsuc 0 ∷ [])
input_object = refl

ended_before : turns_from [] all_five 3 (Ended outcomes.TooDeep no_state) ≡ Ends outcomes.TooDeep each_four
ended_before = refl

terms_are : metered_terms all_five ≡ record { limit = None; raised = raised_class; thresholds = Some all_five; stop = None }
terms_are = refl

initialisers : map (λ (m : Method). has_initialiser (class_with (m ∷ []) ∷ []) (codes "A")) (initialiser_with [] ∷ record (initialiser_with []) { flags = 1 } ∷ record (initialiser_with []) { desc = codes "(I)V" } ∷ record (initialiser_with []) { body = Abstract } ∷ [])
    ≡ true ∷ false ∷ false ∷ false ∷ []
unfolding has_initialiser
initialisers = refl

by_descriptor : map (λ (desc : Name). method_in (initialiser_with [] ∷ record (initialiser_with []) { desc = codes "(I)V"; flags = 1 } ∷ []) (codes "<clinit>") desc) (codes "(I)V" ∷ codes "(J)V" ∷ [])
    ≡ Some (record (initialiser_with []) { desc = codes "(I)V"; flags = 1 }) ∷ None ∷ []
by_descriptor = refl

no_room_begins_empty : begin [] (record { class = codes "A"; name = codes "f"; desc = codes "()V" }) (1 ∷ []) (limited_to 23)
    ≡ Ended (outcomes.HeapFull 0 24) (start_state [] (record { class = codes "A"; name = codes "f"; desc = codes "()V" }) (record { objects = []; used = 0 }))
unfolding begin
no_room_begins_empty = refl

-- ---- the object that stops a run

-- an object of the class X stops the run
abbrev stopped_by_x : Terms
stopped_by_x = record (limited_to 1000) { stop = Some (codes "X") }

-- each charge in turn has passed its threshold; the second object is of the class X, and the third of the class XY
abbrev with_exceeded : Option Charge → State
with_exceeded exceeded = record no_state {
  heap = record { objects = Text (codes "m") ∷ Instance (codes "X") (values.Ref 1 ∷ []) ∷ Instance (codes "XY") (values.Ref 1 ∷ []) ∷ []; used = 80 };
  frames = frame_of (codes "g") ∷ [];
  exceeded = exceeded;
}

abbrev each_exceeded : List State
each_exceeded = map (λ charge. with_exceeded (Some charge)) each_charge

abbrev each_stopped : List Outcome
each_stopped = outcomes.Stopped charges.Alloc ∷ outcomes.Stopped charges.Invoke ∷ outcomes.Stopped charges.Jump ∷ outcomes.Stopped charges.Throw ∷ []

stops : map (λ charge. stopped_by (Some charge) outcomes.TooDeep) each_charge ≡ each_stopped
stops = refl

no_charge_stops : stopped_by None outcomes.TooDeep ≡ outcomes.TooDeep
no_charge_stops = refl

ends_stopped : map (λ charge. ended_by (Some (codes "X")) (Some charge) (codes "X") outcomes.TooDeep) each_charge ≡ each_stopped
ends_stopped = refl

-- by objects of another class, where no charge has passed, and where no object stops the run
ends_otherwise : ended_by (Some (codes "X")) (Some charges.Jump) (codes "XY") outcomes.TooDeep ∷ ended_by (Some (codes "XY")) (Some charges.Jump) (codes "X") outcomes.TooDeep
    ∷ ended_by (Some (codes "X")) None (codes "X") outcomes.TooDeep ∷ ended_by None (Some charges.Jump) (codes "X") outcomes.TooDeep
    ∷ ended_by None (Some charges.Jump) [] outcomes.TooDeep ∷ [] ≡ replicate 5 outcomes.TooDeep
ends_otherwise = refl

ends_in_state : ends_with stopped_by_x (with_exceeded (Some charges.Jump)) (codes "X") outcomes.TooDeep ≡ Ended (outcomes.Stopped charges.Jump) (with_exceeded (Some charges.Jump))
ends_in_state = refl

ends_in_state_otherwise : ends_with stopped_by_x (with_exceeded (Some charges.Jump)) (codes "Y") outcomes.TooDeep ≡ Ended outcomes.TooDeep (with_exceeded (Some charges.Jump))
ends_in_state_otherwise = refl

how_ended : Answer → Option Outcome
how_ended (Went s) = None
how_ended (Ended outcome s) = Some outcome
how_ended IllFormed = None

-- from the last frame
leaves_last : map (λ s. unwound [] stopped_by_x s (codes "X") 2 []) each_exceeded
    ≡ Ended (outcomes.Stopped charges.Alloc) (with_exceeded (Some charges.Alloc)) ∷ Ended (outcomes.Stopped charges.Invoke) (with_exceeded (Some charges.Invoke))
    ∷ Ended (outcomes.Stopped charges.Jump) (with_exceeded (Some charges.Jump)) ∷ Ended (outcomes.Stopped charges.Throw) (with_exceeded (Some charges.Throw)) ∷ []
unfolding unwound
leaves_last = refl

-- from an initialiser's frame, which the frames below it don't see
leaves_initialiser : map (λ s. how_ended (unwound [] stopped_by_x s (codes "X") 2 (frame_of (codes "f") ∷ frame_of (codes "<clinit>") ∷ frame_of (codes "g") ∷ []))) each_exceeded
    ≡ map Some each_stopped
unfolding unwound how_ended code_of
leaves_initialiser = refl

leaves_by_charge : leaves stopped_by_x (with_exceeded (Some charges.Invoke)) (codes "X") 2 (frame_of (codes "<clinit>")) IllFormed
    ≡ Ended (outcomes.Stopped charges.Invoke) (with_exceeded (Some charges.Invoke))
leaves_by_charge = refl

goes_up_other_frames : leaves stopped_by_x (with_exceeded (Some charges.Invoke)) (codes "X") 2 (frame_of (codes "f")) IllFormed ≡ IllFormed
goes_up_other_frames = refl

-- an object of another class, no charge, and no object that stops: it is thrown, and fails an initialiser
abbrev thrown_by : Terms → Option Charge → Name → ℕ → List Frame → Option Outcome
thrown_by terms exceeded class exception frames = how_ended (unwound [] terms (with_exceeded exceeded) class exception frames)

thrown_otherwise : thrown_by stopped_by_x (Some charges.Jump) (codes "XY") 3 [] ∷ thrown_by stopped_by_x None (codes "X") 2 [] ∷ thrown_by (limited_to 1000) (Some charges.Jump) (codes "X") 2 [] ∷ []
    ≡ Some (outcomes.Threw (codes "XY") (messages.Text (codes "m"))) ∷ Some (outcomes.Threw (codes "X") (messages.Text (codes "m"))) ∷ Some (outcomes.Threw (codes "X") (messages.Text (codes "m"))) ∷ []
unfolding unwound how_ended
thrown_otherwise = refl

fails_otherwise : thrown_by stopped_by_x (Some charges.Jump) (codes "XY") 3 (frame_of (codes "<clinit>") ∷ [])
    ∷ thrown_by stopped_by_x None (codes "X") 2 (frame_of (codes "<clinit>") ∷ []) ∷ thrown_by (limited_to 1000) (Some charges.Jump) (codes "X") 2 (frame_of (codes "<clinit>") ∷ []) ∷ []
    ≡ Some (outcomes.Init (codes "A") (codes "XY") (messages.Text (codes "m"))) ∷ Some (outcomes.Init (codes "A") (codes "X") (messages.Text (codes "m")))
    ∷ Some (outcomes.Init (codes "A") (codes "X") (messages.Text (codes "m"))) ∷ []
unfolding unwound how_ended code_of
fails_otherwise = refl

-- the object's class is looked up in the heap
throws_by_number : map (λ (exception : ℕ). how_ended (throw [] stopped_by_x (with_exceeded (Some charges.Alloc)) exception)) (2 ∷ 3 ∷ [])
    ≡ Some (outcomes.Stopped charges.Alloc) ∷ Some (outcomes.Threw (codes "XY") (messages.Text (codes "m"))) ∷ []
unfolding unwound how_ended code_of
throws_by_number = refl

settles_by_number : map (λ (exception : ℕ). how_ended (settle [] stopped_by_x (with_exceeded (Some charges.Alloc)) (frame_of (codes "f")) [] no_part (Throw exception))) (2 ∷ 3 ∷ [])
    ≡ Some (outcomes.Stopped charges.Alloc) ∷ Some (outcomes.Threw (codes "XY") (messages.Text (codes "m"))) ∷ []
unfolding unwound how_ended code_of
settles_by_number = refl

-- its frames are those of the state
throws_through_initialiser : how_ended (throw [] (limited_to 1000) (record (with_exceeded None) { frames = frame_of (codes "f") ∷ frame_of (codes "<clinit>") ∷ [] }) 2)
    ≡ Some (outcomes.Init (codes "A") (codes "X") (messages.Text (codes "m")))
unfolding unwound how_ended code_of
throws_through_initialiser = refl

-- a handler of everything catches it too, at the instructions of its range
abbrev catching : Program
catching = class_with (verify_with (op aconst_null ∷ op pop ∷ op aconst_null ∷ op arraylength ∷ op pop ∷ []) (record { start = 1; end = 3; handler = 4; catches = None } ∷ []) ∷ []) ∷ []

abbrev verify_at : ℕ → Frame
verify_at number = record { method = entry; number = number; locals = Some (values.Ref 1) ∷ []; operands = values.Int (pos 1) ∷ []; paid = true }

abbrev stopped_at : ℕ → Answer
stopped_at number = unwound catching stopped_by_x (with_exceeded (Some charges.Throw)) (codes "X") 2 (verify_at number ∷ frame_of (codes "g") ∷ [])

abbrev stop_caught : Answer
stop_caught = Went (record (with_exceeded (Some charges.Throw)) {
  frames = record (verify_at 4) { operands = values.Ref 2 ∷ []; paid = false } ∷ frame_of (codes "g") ∷ [];
})

catches_stop : map stopped_at (0 ∷ 1 ∷ 2 ∷ 3 ∷ [])
    ≡ Ended (outcomes.Stopped charges.Throw) (with_exceeded (Some charges.Throw)) ∷ stop_caught ∷ stop_caught
    ∷ Ended (outcomes.Stopped charges.Throw) (with_exceeded (Some charges.Throw)) ∷ []
unfolding unwound code_of instruction_of simple
catches_stop = refl

-- in a caller, too
caller_catches_stop : unwound catching stopped_by_x (with_exceeded (Some charges.Throw)) (codes "X") 2 (frame_of (codes "f") ∷ verify_at 2 ∷ frame_of (codes "g") ∷ []) ≡ stop_caught
unfolding unwound code_of instruction_of simple
caller_catches_stop = refl

-- ---- what is computed, stored and returned

abbrev two_operands : StraightPart
two_operands = record no_part {
  locals = Some (values.Int (pos 1)) ∷ [];
  operands = values.Int (pos 2) ∷ values.Int (pos 3) ∷ [];
  heap = record { objects = new_instance ∷ new_instance ∷ []; used = 64 };
}

computes : computed two_operands (values.Ref 4 ∷ []) (Ok (negsuc 6)) ≡ record { part = record two_operands { operands = values.Int (negsuc 6) ∷ values.Ref 4 ∷ [] }; flow = Next }
computes = refl

-- what is raised leaves everything as it was
computes_none : map (λ raised. computed two_operands [] (Err raised)) (raises.Arithmetic ∷ raises.NegativeArraySize ∷ [])
    ≡ record { part = two_operands; flow = Raise raises.Arithmetic } ∷ record { part = two_operands; flow = Raise raises.NegativeArraySize } ∷ []
computes_none = refl

puts : put two_operands (values.Int (pos 3) ∷ []) 2 (Text []) None
    ≡ record { part = record two_operands { operands = values.Int (pos 3) ∷ []; heap = record { objects = new_instance ∷ Text [] ∷ []; used = 64 } }; flow = Next }
puts = refl

puts_none : map (λ raised. put two_operands [] 2 (Text []) (Some raised)) (raises.ArrayStore ∷ raises.Arithmetic ∷ [])
    ≡ record { part = two_operands; flow = Raise raises.ArrayStore } ∷ record { part = two_operands; flow = Raise raises.Arithmetic } ∷ []
puts_none = refl

-- the index is asked first
stores_outside : map (store_found two_operands [] 2 (Text []) None) (None ∷ Some raises.ArrayStore ∷ [])
    ≡ record { part = two_operands; flow = Raise raises.ArrayIndexOutOfBounds } ∷ record { part = two_operands; flow = Raise raises.ArrayIndexOutOfBounds } ∷ []
stores_outside = refl

stores_within : map (store_found two_operands [] 2 (Text []) (Some (pos 0))) (None ∷ Some raises.ArrayStore ∷ [])
    ≡ record { part = record two_operands { operands = []; heap = record { objects = new_instance ∷ Text [] ∷ []; used = 64 } }; flow = Next }
    ∷ record { part = two_operands; flow = Raise raises.ArrayStore } ∷ []
stores_within = refl

number_refused_by_none : map (store_raises [] (limited_to 32) [] (codes "[B")) (values.Int (pos 5) ∷ values.Long (pos 5) ∷ []) ≡ None ∷ None ∷ []
number_refused_by_none = refl

-- the first computes below the top
subtracts : compute_two two_operands Subtract (values.Int (pos 2) ∷ values.Int (pos 3) ∷ values.Ref 4 ∷ [])
    ≡ Some (record { part = record two_operands { operands = values.Int (pos 1) ∷ values.Ref 4 ∷ [] }; flow = Next })
unfolding int_wrap
subtracts = refl

computes_ints_alone : map (compute_two two_operands Add) ([] ∷ (values.Int (pos 2) ∷ []) ∷ (values.Int (pos 2) ∷ values.Long (pos 3) ∷ []) ∷ (values.Ref 2 ∷ values.Int (pos 3) ∷ []) ∷ [])
    ≡ None ∷ None ∷ None ∷ None ∷ []
computes_ints_alone = refl

abbrev how_back : Option Effect → Option Flow
how_back None = None
how_back (Some e) = Some e.flow

-- nothing is returned, whatever operands are left
returns_nothing : map (λ operands. how_back (return_top two_operands None operands)) ([] ∷ (values.Int (pos 2) ∷ values.Ref 3 ∷ []) ∷ []) ≡ Some (Back None) ∷ Some (Back None) ∷ []
returns_nothing = refl

returns_top : map (λ operands. how_back (return_top two_operands (Some kinds.Int) operands)) (
    [] ∷ (values.Int (pos 2) ∷ []) ∷ (values.Int (pos 2) ∷ values.Int (pos 3) ∷ []) ∷ (values.Long (pos 2) ∷ values.Int (pos 3) ∷ []) ∷ (values.Ref 2 ∷ []) ∷ [])
    ≡ None ∷ Some (Back (Some (values.Int (pos 2)))) ∷ Some (Back (Some (values.Int (pos 2)))) ∷ None ∷ None ∷ []
returns_top = refl

returns_keep_heap : map (λ i. effect [] (limited_to 8) i two_operands) (Return None ∷ Return (Some kinds.Int) ∷ Return (Some kinds.Ref) ∷ [])
    ≡ Some (record { part = two_operands; flow = Back None }) ∷ Some (record { part = two_operands; flow = Back (Some (values.Int (pos 2))) }) ∷ None ∷ []
unfolding effect
returns_keep_heap = refl
