-- Steps over frames that stand above others, arrays of every element, and initialisations after others, computed.
use Rattle.std.proofs.Common.{◌≡◌, true, false, pos, negsuc, List, [], ◌∷◌, map, Option, Some, None, refl}
use Rattle.std.specs.Prelude.{codes}
use Rattle.std.specs.Int.{int_wrap}
use Rattle.dj_names.specs.declared.descriptor.Kind.TheVariants as kinds
use Rattle.dj_names.specs.declared.run.Value.{Value}
use Rattle.dj_names.specs.declared.run.Value.TheVariants as values
use Rattle.dj_names.specs.declared.run.Element.{Element}
use Rattle.dj_names.specs.declared.run.Element.TheVariants as elements
use Rattle.dj_names.specs.declared.run.Charge.TheVariants as charges
use Rattle.dj_names.specs.declared.run.Message.TheVariants as messages
use Rattle.dj_names.specs.declared.run.Costs.{Costs}
use Rattle.dj_names.specs.declared.run.Outcome.TheVariants as outcomes
use Rattle.dj_straight.specs.trusted.Objects.{Object, Instance, Array, Text}
use Rattle.dj_straight.specs.trusted.Instructions.{Instruction, Nop, NewArray, LoadElement, StoreElement, Bytes, Chars, Shorts, Ints, Longs}
use Rattle.dj_straight.specs.trusted.Program.{Name, Program, Text as TextConstant}
use Rattle.dj_straight.specs.trusted.State.{Frame, State}
use Rattle.dj_straight.specs.trusted.Effects.{StraightPart, Flow, Next, To, Back, Broken, Effect, effect, array_at, Null, NoArray, IsArray, value_number}
use Rattle.dj_straight.specs.trusted.Initialisation.{Initialised, Ready, Waits, Fails, initialise, initialiser_frames, constants_of, with_constants}
use Rattle.dj_straight.specs.trusted.Step.{Went, Ended, settle, returned, done, raise, class_in, unwound}
use Rattle.dj_straight.specs.trusted.Charges.{own_amounts}
use Rattle.dj_straight.specs.trusted.Metered.{Ends, turns_from, with_paid}
use Rattle.dj_straight.specs.trusted.FrameKinds.{Of, NoEntry, made_if}
use Rattle.dj_straight.specs.SmallRuns.{class_with, limited_to, field_with, text_desc, initialiser_with, bytes_at_most}
use Rattle.dj_straight.specs.trusted.Program.{code_of, chain_of, has_initialiser}

abbrev some_costs : Costs
some_costs = record { alloc = 4; invoke = 3; jump = 2; throw = 1 }

-- with 16 used bytes, and with something in every other part
abbrev some_state : State
some_state = record {
  heap = record { objects = Text [] ∷ []; used = 16 };
  statics = record { class = codes "A"; name = codes "x"; desc = codes "I"; value = values.Int (pos 6) } ∷ [];
  initialised = codes "B" ∷ [];
  literals = record { units = []; object = 1 } ∷ [];
  frames = [];
  costs = some_costs;
  exceeded = None;
}

abbrev frame_of : Name → Frame
frame_of name = record {
  method = record { class = codes "A"; name = name; desc = codes "()V" };
  number = 3;
  locals = Some (values.Int (pos 8)) ∷ [];
  operands = values.Int (pos 1) ∷ [];
  paid = true;
}

abbrev f : Frame
f = frame_of (codes "f")

abbrev below : List Frame
below = frame_of (codes "g") ∷ frame_of (codes "h") ∷ []

-- the frame's part of that state
abbrev its_part : StraightPart
its_part = record { locals = f.locals; operands = f.operands; heap = some_state.heap; statics = some_state.statics; literals = some_state.literals }

-- ---- frames below

jumps : settle [] (limited_to 64) some_state f below its_part (To 9)
    ≡ Went (record some_state { frames = record f { number = 9; paid = false } ∷ below })
jumps = refl

goes_on : settle [] (limited_to 64) some_state f below its_part Next ≡ Went (record some_state { frames = record f { number = 4; paid = false } ∷ below })
goes_on = refl

-- the caller has the result on its operands, and its caller waits
gives_back : settle [] (limited_to 64) some_state f below its_part (Back (Some (values.Int (pos 2))))
    ≡ Went (record some_state {
      frames = record (frame_of (codes "g")) { number = 4; operands = values.Int (pos 2) ∷ values.Int (pos 1) ∷ []; paid = false } ∷ frame_of (codes "h") ∷ [];
    })
gives_back = refl

returns_to_caller : returned some_state f (Some (values.Long (pos 2))) below
    ≡ Went (record some_state {
      frames = record (frame_of (codes "g")) { number = 4; operands = values.Long (pos 2) ∷ values.Int (pos 1) ∷ []; paid = false } ∷ frame_of (codes "h") ∷ [];
    })
returns_to_caller = refl

-- the top frame alone is paid
pays_top : with_paid (record f { paid = false } ∷ record f { paid = false } ∷ []) ≡ f ∷ record f { paid = false } ∷ []
pays_top = refl

-- ---- an end, whatever it is, with its state

fails_so : map (λ outcome. done [] (limited_to 64) f below Nop (Fails outcome some_state)) (outcomes.HeapFull 1 2 ∷ outcomes.TooDeep ∷ [])
    ≡ Ended (outcomes.HeapFull 1 2) some_state ∷ Ended outcomes.TooDeep some_state ∷ []
fails_so = refl

ended_so : map (λ outcome. turns_from [] (bytes_at_most 5) 3 (Ended outcome some_state)) (outcomes.HeapFull 1 2 ∷ outcomes.OkNull ∷ [])
    ≡ Ends (outcomes.HeapFull 1 2) some_costs ∷ Ends outcomes.OkNull some_costs ∷ []
ended_so = refl

-- what is used already counts
raises_full : raise [] (limited_to 47) some_state (codes "X") ≡ Ended (outcomes.HeapFull 16 32) some_state
raises_full = refl

raises_just : raise [] (limited_to 48) some_state (codes "X")
    ≡ Ended (outcomes.Threw (codes "X") messages.Null)
    (record some_state { heap = record { objects = Text [] ∷ Instance (codes "X") (values.Ref 0 ∷ values.Ref 0 ∷ []) ∷ []; used = 48 } })
unfolding unwound
raises_just = refl

-- an instruction sees its frame's locals and operands, and the heap, the static fields and the literals of the state
sees_all : done [] (limited_to 64) f below Nop (Ready some_state) ≡ Went (record some_state { frames = record f { number = 4; paid = false } ∷ below })
unfolding effect
sees_all = refl

-- ---- objects

found : map (array_at (Text (codes "t") ∷ Instance (codes "X") [] ∷ Array (codes "[C") elements.Char (pos 5 ∷ []) ∷ [])) (0 ∷ 1 ∷ 2 ∷ 3 ∷ 4 ∷ [])
    ≡ Null ∷ NoArray ∷ NoArray ∷ IsArray (codes "[C") elements.Char (pos 5 ∷ []) ∷ NoArray ∷ []
found = refl

classes : map class_in (Some (Instance (codes "X") []) ∷ Some (Text (codes "t")) ∷ Some (Array (codes "[B") elements.Byte []) ∷ None ∷ [])
    ≡ codes "X" ∷ [] ∷ [] ∷ [] ∷ []
classes = refl

numbers : map value_number (values.Int (negsuc 4) ∷ values.Long (pos 9) ∷ values.Ref 3 ∷ []) ≡ negsuc 4 ∷ pos 9 ∷ pos 3 ∷ []
numbers = refl

-- ---- arrays of every element

-- an array of two elements is object 1; a store of 98432, which is 65536 and 32768 and 128
abbrev before : Name → Element → Value → StraightPart
before class element v = record {
  locals = [];
  operands = v ∷ values.Int (pos 1) ∷ values.Ref 1 ∷ [];
  heap = record { objects = Array class element (pos 5 ∷ pos 6 ∷ []) ∷ []; used = 24 };
  statics = [];
  literals = [];
}

abbrev seen : Option Effect → Option (List Object × List Value × Flow)
seen None = None
seen (Some e) = Some (e.part.heap.objects, e.part.operands, e.flow)

stores_each : map (λ i. seen (effect [] (limited_to 64) i (before (codes "[J") elements.Long (values.Long (pos 98432))))) (StoreElement Longs ∷ StoreElement Ints ∷ [])
    ≡ Some (Array (codes "[J") elements.Long (pos 5 ∷ pos 98432 ∷ []) ∷ [], [], Next) ∷ None ∷ []
unfolding effect int_wrap
stores_each = refl

stores_char : seen (effect [] (limited_to 64) (StoreElement Chars) (before (codes "[C") elements.Char (values.Int (pos 98432))))
    ≡ Some (Array (codes "[C") elements.Char (pos 5 ∷ pos 32896 ∷ []) ∷ [], [], Next)
unfolding effect int_wrap
stores_char = refl

stores_short : seen (effect [] (limited_to 64) (StoreElement Shorts) (before (codes "[S") elements.Short (values.Int (pos 98432))))
    ≡ Some (Array (codes "[S") elements.Short (pos 5 ∷ negsuc 32639 ∷ []) ∷ [], [], Next)
unfolding effect int_wrap
stores_short = refl

stores_int : seen (effect [] (limited_to 64) (StoreElement Ints) (before (codes "[I") elements.Int (values.Int (pos 98432))))
    ≡ Some (Array (codes "[I") elements.Int (pos 5 ∷ pos 98432 ∷ []) ∷ [], [], Next)
unfolding effect int_wrap
stores_int = refl

stores_boolean : seen (effect [] (limited_to 64) (StoreElement Bytes) (before (codes "[Z") elements.Boolean (values.Int (pos 98433))))
    ≡ Some (Array (codes "[Z") elements.Boolean (pos 5 ∷ negsuc 126 ∷ []) ∷ [], [], Next)
unfolding effect int_wrap
stores_boolean = refl

-- a reference to an array of another element, or to no array, is of a class that its use doesn't allow, whatever the index
abbrev other_arrays : List StraightPart
other_arrays =
    before (codes "[C") elements.Char (values.Int (pos 7))
    ∷ record (before (codes "[C") elements.Char (values.Int (pos 7))) { heap = record { objects = Text [] ∷ []; used = 16 } }
    ∷ record (before (codes "[C") elements.Char (values.Int (pos 7))) { operands = values.Int (pos 7) ∷ values.Int (pos 9) ∷ values.Ref 1 ∷ [] }
    ∷ []

abbrev flow_of : Option Effect → Option Flow
flow_of None = None
flow_of (Some e) = Some e.flow

stores_to_other : map (λ p. flow_of (effect [] (limited_to 64) (StoreElement Bytes) p)) other_arrays ≡ Some Broken ∷ Some Broken ∷ Some Broken ∷ []
unfolding effect
stores_to_other = refl

loads_long : seen (effect [] (limited_to 64) (LoadElement Longs) (record (before (codes "[J") elements.Long (values.Int (pos 7))) { operands = values.Int (pos 1) ∷ values.Ref 1 ∷ [] }))
    ≡ Some (Array (codes "[J") elements.Long (pos 5 ∷ pos 6 ∷ []) ∷ [], values.Long (pos 6) ∷ [], Next)
unfolding effect
loads_long = refl

abbrev length_three : StraightPart
length_three = record { locals = []; operands = values.Int (pos 3) ∷ values.Ref 0 ∷ []; heap = record { objects = []; used = 0 }; statics = []; literals = [] }

abbrev each_new : List Instruction
each_new =
    NewArray (codes "[Z") elements.Boolean ∷ NewArray (codes "[B") elements.Byte ∷ NewArray (codes "[C") elements.Char ∷ NewArray (codes "[S") elements.Short
    ∷ NewArray (codes "[I") elements.Int ∷ NewArray (codes "[J") elements.Long ∷ NewArray (codes "[LA;") elements.Ref ∷ []

abbrev zeros : Name → Element → Option (List Object × List Value × Flow)
zeros class element = Some (Array class element (pos 0 ∷ pos 0 ∷ pos 0 ∷ []) ∷ [], values.Ref 1 ∷ values.Ref 0 ∷ [], Next)

makes_each : map (λ i. seen (effect [] (limited_to 64) i length_three)) each_new
    ≡ zeros (codes "[Z") elements.Boolean ∷ zeros (codes "[B") elements.Byte ∷ zeros (codes "[C") elements.Char ∷ zeros (codes "[S") elements.Short
    ∷ zeros (codes "[I") elements.Int ∷ zeros (codes "[J") elements.Long ∷ zeros (codes "[LA;") elements.Ref ∷ []
unfolding effect
makes_each = refl

charges_each : map (λ i. own_amounts [] (Some i) (values.Int (pos 3) ∷ [])) each_new
    ≡ map (λ n. (charges.Alloc, n) ∷ []) (24 ∷ 24 ∷ 24 ∷ 24 ∷ 32 ∷ 40 ∷ 32 ∷ [])
charges_each = refl

-- what an instruction makes that isn't initialised yet is a reference
made : map made_if (true ∷ false ∷ []) ≡ Of (Some kinds.Ref) ∷ NoEntry ∷ []
made = refl

-- ---- initialisations after others

-- A below B
abbrev a_below_b : Program
a_below_b =
    record (class_with (initialiser_with [] ∷ [])) { superclass = Some (codes "B") }
    ∷ record (class_with (initialiser_with [] ∷ [])) { name = codes "B"; superclass = None }
    ∷ []

abbrev initialised_in : Initialised → List Name
initialised_in (Ready s) = s.initialised
initialised_in (Waits s) = s.initialised
initialised_in (Fails outcome s) = s.initialised

abbrev methods_in : Initialised → List Name
methods_in (Ready s) = []
methods_in (Waits s) = map (λ (x : Frame). x.method.class) s.frames
methods_in (Fails outcome s) = []

-- B is initialised, so A alone is
after_superclass : initialised_in (initialise a_below_b (limited_to 64) (codes "A") some_state) ≡ codes "B" ∷ codes "A" ∷ []
unfolding constants_of with_constants chain_of has_initialiser code_of
after_superclass = refl

runs_alone : methods_in (initialise a_below_b (limited_to 64) (codes "A") some_state) ≡ codes "A" ∷ []
unfolding constants_of with_constants chain_of has_initialiser code_of
runs_alone = refl

-- both are, and the initialiser of the superclass runs first
both_run : methods_in (initialise a_below_b (limited_to 64) (codes "A") (record some_state { initialised = codes "C" ∷ [] })) ≡ codes "B" ∷ codes "A" ∷ []
unfolding constants_of with_constants chain_of has_initialiser code_of
both_run = refl

again : initialise a_below_b (limited_to 64) (codes "B") some_state ≡ Ready some_state
unfolding constants_of with_constants chain_of has_initialiser code_of
again = refl

-- an initialiser's first instruction isn't paid
not_paid : map (λ (x : Frame). x.paid) (initialiser_frames a_below_b (codes "A" ∷ codes "B" ∷ [])) ≡ false ∷ false ∷ []
unfolding has_initialiser code_of
not_paid = refl

-- a text that doesn't fit ends the run where it stands
text_too_large : with_constants (limited_to 31) (codes "A") (field_with 8 (codes "x") text_desc (Some (TextConstant (codes "t"))) ∷ []) some_state
    ≡ Fails (outcomes.HeapFull 16 24) some_state
unfolding with_constants
text_too_large = refl
