-- Exceptions that go up frames, and methods that return, by plain values.
use Rattle.std.proofs.Common.{◌≡◌, ℕ, ◌<◌, true, false, List, [], ◌∷◌, map, Option, Some, None, refl, arith, codes, pos, negsuc}
use Rattle.std.specs.Option.{option_map}
use Rattle.dj_names.specs.declared.descriptor.Ty.{Ty}
use Rattle.dj_names.specs.declared.run.Element.TheVariants as elements
use Rattle.dj_names.specs.declared.run.Message.TheVariants as messages
use Rattle.dj_names.specs.declared.run.Outcome.TheVariants as outcomes
use Rattle.dj_names.specs.declared.run.Value.{Value}
use Rattle.dj_names.specs.declared.run.Value.TheVariants as values
use Rattle.dj_names.specs.trusted.Heaps.{Heap, Instance, Array, Text}
use Rattle.dj_names.specs.Heaps.{heap_map}
use Rattle.dj_names.specs.trusted.Types.{Name, class_type, array_type}
use Rattle.dj_model.specs.trusted.Types.{initialiser_name, no_parameters}
use Rattle.dj_model.specs.trusted.Instructions.{Nop, AClass}
use Rattle.dj_model.specs.trusted.Program.{Program, Class, Method, Runs, Code, Range, code_of}
use Rattle.dj_model.specs.trusted.Linking.{most_classes, chain_of, interfaces_from, interfaces_above, is_subclass, is_subtype}
use Rattle.dj_model.specs.trusted.State.{State}
use Rattle.dj_model.specs.trusted.Charging.{new_account}
use Rattle.dj_model.specs.trusted.Step.{Went, Ended, unwound}
use Rattle.dj_stack.specs.Frames.{StackFrame}
use Rattle.dj_numbering.specs.Members.{all_methods}
use Rattle.dj_image.specs.Sources.{Source, class_of_source}
use Rattle.dj_image.specs.Imaged.{Imaged, program_of, typed_of}
use Rattle.dj_current_method.specs.Activations.{declared_at}
use Rattle.dj_unwinding.specs.declared.returning.Returned.TheVariants as returns
use Rattle.dj_unwinding.specs.declared.unwinding.Unwound.TheVariants as unwinds
use Rattle.dj_unwinding.specs.Results.{value_outcome, contents_at, HasElements}
use Rattle.dj_unwinding.specs.Resuming.{HasRoom, Resumes}
use Rattle.dj_unwinding.specs.Returns.{HasRoomBelow, top_returned, returned_reported, IsReturned}
use Rattle.dj_unwinding.specs.Unwinding.{ranges_at, is_handling, IsClassNumber, class_name_at, unwound_reported, frames_unwound, IsUnwound, IsKnown}

-- ---- classes T, U below it and V; and A, with an initialiser and a method whose instructions 0 and 1 have handlers for T and for all

abbrev method : Name → Code → Method
method name code = record { flags = 8; name = name; desc = no_parameters; body = Runs code }

abbrev plain : Code
plain = record { max_stack = 1; max_locals = 0; instructions = Nop ∷ Nop ∷ Nop ∷ []; ranges = []; frames = Some [] }

abbrev row : ℕ → Option Name → Range
row handler name = record { start = 0; end = 2; handler = handler; catches = option_map (λ (n : Name). AClass (class_type n)) name }

abbrev t_row : Range
t_row = row 3 (Some (codes "T"))

abbrev any_row : Range
any_row = row 4 None

abbrev guarded : Code
guarded = record { max_stack = 1; max_locals = 0; instructions = Nop ∷ Nop ∷ Nop ∷ Nop ∷ Nop ∷ []; ranges = t_row ∷ any_row ∷ []; frames = Some [] }

abbrev class_with : Name → Option Name → List Method → Class
class_with name superclass methods = record { name = name; flags = 33; superclass = superclass; interfaces = []; unnamed_fields = 0; fields = []; methods = methods }

abbrev source_of : Class → Source
source_of c = record { class = c; pool = []; codes = map (λ (m : Method). None) c.methods; values = [] }

abbrev image : Imaged
image = record {
  sources = source_of (class_with (codes "A") None (method initialiser_name plain ∷ method (codes "m") guarded ∷ []))
      ∷ source_of (class_with (codes "T") None []) ∷ source_of (class_with (codes "U") (Some (codes "T")) []) ∷ source_of (class_with (codes "V") None []) ∷ [];
  prefix = [];
  arrays = array_type (class_type (codes "T")) ∷ [];
  texts = [];
}

abbrev program : Program
program = program_of image

abbrev t : Ty
t = class_type (codes "T")

abbrev u : Ty
u = class_type (codes "U")

abbrev v : Ty
v = class_type (codes "V")

-- ---- a heap of a text and an exception with this text, an array of bytes, one of chars, and an exception without a text

abbrev heap : Heap ℕ
heap = record {
  objects = Text 9 (104 ∷ []) ∷ Instance 1 (1 ∷ 0 ∷ []) ∷ Array 8 elements.Byte (negsuc 0 ∷ pos 5 ∷ []) ∷ Array 8 elements.Char (pos 5 ∷ []) ∷ Instance 1 (0 ∷ 0 ∷ []) ∷ [];
  used = 120;
}

returned_values : map (value_outcome heap) (Some (values.Ref 0) ∷ Some (values.Ref 3) ∷ Some (values.Ref 4) ∷ Some (values.Ref 1) ∷ Some (values.Ref 2) ∷ Some (values.Ref 6) ∷ Some (values.Int (pos 0)) ∷ None ∷ [])
    ≡ outcomes.OkNull ∷ outcomes.OkBytes (255 ∷ 5 ∷ []) ∷ outcomes.Link ∷ outcomes.Link ∷ outcomes.Link ∷ outcomes.Link ∷ outcomes.Link ∷ outcomes.Link ∷ []
returned_values = refl

elements_there : HasElements (record { heap = heap; limit = 200 }) 3 elements.Byte
elements_there = record { class = 8; contents = negsuc 0 ∷ pos 5 ∷ []; there = refl }

no_bytes : HasElements (record { heap = heap; limit = 200 }) 4 elements.Byte → ⊥
no_bytes has = let e : Some (Array 8 elements.Char (pos 5 ∷ [])) ≡ Some (Array has.class elements.Byte has.contents) = has.there in absurd cc

no_elements : map (contents_at (record { heap = heap; limit = 200 })) (0 ∷ 1 ∷ 4 ∷ 9 ∷ []) ≡ [] ∷ [] ∷ (pos 5 ∷ []) ∷ [] ∷ []
no_elements = refl

-- ---- rows

rows_reported : ranges_at image 1 ≡ t_row ∷ any_row ∷ []
unfolding declared_at all_methods class_of_source code_of
rows_reported = refl

-- from the start on, and no longer at the end
held : map (λ number. is_handling program [] t number (record t_row { start = 1 })) (0 ∷ 1 ∷ 2 ∷ 3 ∷ []) ≡ false ∷ true ∷ false ∷ false ∷ []
unfolding most_classes chain_of interfaces_from interfaces_above is_subclass is_subtype class_of_source
held = refl

-- the class itself and one below it, and no other; without a type each
caught_types : map (λ class. is_handling program [] class 0 t_row) (t ∷ u ∷ v ∷ []) ≡ true ∷ true ∷ false ∷ []
unfolding most_classes chain_of interfaces_from interfaces_above is_subclass is_subtype class_of_source
caught_types = refl

caught_all : map (λ class. is_handling program [] class 0 any_row) (t ∷ u ∷ v ∷ []) ≡ true ∷ true ∷ true ∷ []
caught_all = refl

-- ---- numbers of classes

class_number : IsClassNumber (typed_of image) 3
unfolding class_of_source
class_number = record { within = omega arith; plain = refl }

no_array_number : IsClassNumber (typed_of image) 4 → ⊥
unfolding class_of_source
no_array_number is = let e : 1 ≡ 0 = is.plain in omega (arith, e)

no_number : IsClassNumber (typed_of image) 5 → ⊥
unfolding class_of_source
no_number is = let within : 5 < 5 = is.within in omega (arith, within)

names_reported : map (class_name_at program) (0 ∷ 3 ∷ 4 ∷ []) ≡ codes "A" ∷ codes "V" ∷ [] ∷ []
unfolding class_of_source
names_reported = refl

known : IsKnown image (unwinds.Init 3)
known = omega arith

not_known : IsKnown image (unwinds.Init 4) → ⊥
not_known is = omega (arith, is)

-- ---- frames

abbrev frame : ℕ → ℕ → List Value → StackFrame
frame m number operands = record { method = m; number = number; locals = []; operands = operands; room = 2 }

abbrev initialiser : StackFrame
initialiser = frame 0 1 []

abbrev busy : ℕ → StackFrame
busy number = frame 1 number (values.Int (pos 6) ∷ [])

abbrev types : ℕ → Ty
types n = t

abbrev s : State
s = record {
  heap = heap_map types heap;
  statics = [];
  initialised = [];
  literals = [];
  frames = [];
  account = new_account;
  answers = [];
}

-- the first row is taken, not the last one that catches; its operands are the exception alone
first_row : frames_unwound image s u 2 (busy 1 ∷ initialiser ∷ []) ≡ unwound_reported image s u 2 (frame 1 3 (values.Ref 2 ∷ []) ∷ initialiser ∷ []) unwinds.Caught
unfolding unwound most_classes chain_of interfaces_from interfaces_above is_subclass is_subtype class_of_source declared_at all_methods code_of
first_row = refl

last_row : frames_unwound image s v 2 (busy 1 ∷ []) ≡ unwound_reported image s v 2 (frame 1 4 (values.Ref 2 ∷ []) ∷ []) unwinds.Caught
unfolding unwound most_classes chain_of interfaces_from interfaces_above is_subclass is_subtype class_of_source declared_at all_methods code_of
last_row = refl

-- it goes by a frame without a handler to one with it
goes_down : frames_unwound image s t 2 (busy 2 ∷ busy 0 ∷ []) ≡ unwound_reported image s t 2 (frame 1 3 (values.Ref 2 ∷ []) ∷ []) unwinds.Caught
unfolding unwound most_classes chain_of interfaces_from interfaces_above is_subclass is_subtype class_of_source declared_at all_methods code_of
goes_down = refl

-- but by no initialiser, even where there is a handler below it
stops_there : frames_unwound image s t 2 (busy 2 ∷ initialiser ∷ busy 0 ∷ []) ≡ Ended (outcomes.Init (codes "A") (codes "T") (messages.Text (104 ∷ []))) s
unfolding unwound most_classes chain_of interfaces_from interfaces_above is_subclass is_subtype class_of_source declared_at all_methods code_of
stops_there = refl

reported_of_initialiser : unwound_reported image s t 2 [] (unwinds.Init 0) ≡ Ended (outcomes.Init (codes "A") (codes "T") (messages.Text (104 ∷ []))) s
unfolding class_of_source
reported_of_initialiser = refl

leaves_all : frames_unwound image s t 5 (busy 2 ∷ busy 3 ∷ []) ≡ Ended (outcomes.Threw (codes "T") messages.Null) s
unfolding unwound most_classes chain_of interfaces_from interfaces_above is_subclass is_subtype class_of_source declared_at all_methods code_of
leaves_all = refl

not_caught : IsUnwound image t 5 (busy 2 ∷ []) [] unwinds.Caught → ⊥
unfolding unwound most_classes chain_of interfaces_from interfaces_above is_subclass is_subtype class_of_source declared_at all_methods code_of
not_caught is = let e : Ended (outcomes.Threw (codes "T") messages.Null) s ≡ Went s = is s in absurd cc

-- ---- returns

-- a caller goes on at the next instruction, with the result
pushed : top_returned program s (busy 2 ∷ busy 0 ∷ initialiser ∷ []) (Some (values.Ref 5))
    ≡ returned_reported program s (frame 1 1 (values.Ref 5 ∷ values.Int (pos 6) ∷ []) ∷ initialiser ∷ []) (Some (values.Ref 5)) returns.Back
unfolding class_of_source declared_at all_methods
pushed = refl

no_result : top_returned program s (busy 2 ∷ busy 0 ∷ []) None ≡ returned_reported program s (busy 1 ∷ []) None returns.Back
unfolding class_of_source declared_at all_methods
no_result = refl

-- that of an initialiser does its instruction
same_instruction : top_returned program s (initialiser ∷ busy 0 ∷ []) None ≡ returned_reported program s (busy 0 ∷ []) None returns.Back
unfolding class_of_source declared_at all_methods
same_instruction = refl

last_one : top_returned program s (busy 2 ∷ []) (Some (values.Ref 3)) ≡ Ended (outcomes.OkBytes (255 ∷ 5 ∷ [])) s
last_one = refl

last_reported : returned_reported program s [] (Some (values.Ref 3)) returns.Last ≡ Ended (outcomes.OkBytes (255 ∷ 5 ∷ [])) s
last_reported = refl

not_last : IsReturned program (busy 2 ∷ busy 0 ∷ []) (busy 2 ∷ busy 0 ∷ []) None returns.Last → ⊥
not_last is = let e = is s in absurd cc

-- ---- room

has_room : HasRoomBelow program (busy 2 ∷ busy 0 ∷ []) (Some (values.Ref 5))
has_room e = omega arith

has_no_room : HasRoomBelow program (busy 2 ∷ frame 1 0 (values.Ref 1 ∷ values.Ref 2 ∷ []) ∷ []) (Some (values.Ref 5)) → ⊥
unfolding class_of_source declared_at all_methods
has_no_room room = let few : 2 < 2 = room refl in omega (arith, few)

none_needs_no_room : HasRoom (frame 1 0 (values.Ref 1 ∷ values.Ref 2 ∷ []) ∷ []) None
none_needs_no_room = tt

resumes : Resumes (busy 0 ∷ []) (frame 1 1 (values.Ref 5 ∷ values.Int (pos 6) ∷ []) ∷ []) (Some (values.Ref 5))
resumes = record { frames = record { count = refl; method = refl; room = refl; below = refl }; number = refl; locals = refl; operands = refl }

not_at_the_same : Resumes (busy 0 ∷ []) (busy 0 ∷ []) None → ⊥
not_at_the_same is = let e : 0 ≡ 1 = is.number in omega (arith, e)

not_without_result : Resumes (busy 0 ∷ []) (busy 1 ∷ []) (Some (values.Ref 5)) → ⊥
not_without_result is = let e : values.Int (pos 6) ∷ [] ≡ values.Ref 5 ∷ values.Int (pos 6) ∷ [] = is.operands in absurd cc
