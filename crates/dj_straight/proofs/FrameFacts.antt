-- What frames declare, what instructions leave, and what flows into what, each written by hand (JVMS 4.7.4 and 4.10.1).
use Rattle.std.proofs.Common.{◌≡◌, ℕ, ◌<◌, true, false, pos, List, [], ◌∷◌, map, replicate, Option, Some, None, codes, refl, ap, length, arith}
use Rattle.dj_names.specs.declared.descriptor.Kind.{Kind}
use Rattle.dj_names.specs.declared.descriptor.Kind.TheVariants as kinds
use Rattle.dj_names.specs.declared.run.Value.TheVariants as values
use Rattle.dj_names.specs.declared.run.Element.TheVariants as elements
use Rattle.dj_straight.specs.trusted.Program.{Code, Range}
use Rattle.dj_straight.specs.trusted.Instructions.{Instruction, Nop, Push, Load, Store, LoadElement, StoreElement, Move, Compute, Return, ArrayLength, NewArray, Other, Pop, Dup, Add, Bytes, Longs, ends, targets, makes_uninitialised}
use Rattle.dj_straight.specs.Instructions.{throws, asks_program, is_straight}
use Rattle.dj_straight.specs.trusted.StackMaps.{VerificationType, Top, Integer, Float, Double, Long, Null, UninitializedThis, Object, Uninitialized, FrameForm, Same, Stack1, Chop, Append, Full, StackMapFrame}
use Rattle.std.specs.Prelude.{⊤}
use Rattle.dj_straight.specs.trusted.FrameKinds.{Signature, Kinds, kind_slots, depth, Of, NoEntry, entry_of, entries_of, stack_of, Entries, form_entries, padded, fitting, Placed, Read, Faulty, NoMap, frames_after, frames_of, parameter_entries, placed_at}
use Rattle.dj_straight.specs.trusted.Shape.{same_result, after, LocalsFlow, FlowsInto, FlowsTo, FlowsToEach, IsFrameOr, StateBefore, IsHandlerFrame, LocalsFlowTo, Holds}
use Rattle.dj_names.specs.declared.run.Raised.TheVariants as raises
use Rattle.dj_straight.specs.trusted.Effects.{StraightPart, Flow, Next, To, Raise, Throw, Back, Broken, Full as HeapFull, effect}
use Rattle.dj_straight.specs.Sound.{LocalsHave, HasKinds, LeavesKinds, IsSoundFlow, HasSoundEffect}
use Rattle.dj_straight.specs.SmallRuns.{limited_to}
use Rattle.dj_straight.proofs.Shapes.{one_state}

-- ---- types

-- three local variables, three operands
abbrev pub code_with : List Instruction → List Range → List StackMapFrame → Code
code_with instructions ranges frames = record { max_stack = 3; max_locals = 3; instructions = instructions; ranges = ranges; frames = Some frames }

abbrev pub two_nops : Code
two_nops = code_with (Nop ∷ Nop ∷ []) [] []

abbrev pub any_object : VerificationType
any_object = Object (codes "A")

entries : map (entry_of two_nops) (Top ∷ Integer ∷ Float ∷ Double ∷ Long ∷ Null ∷ UninitializedThis ∷ any_object ∷ Uninitialized 0 ∷ Uninitialized 2 ∷ [])
    ≡ Of None ∷ Of (Some kinds.Int) ∷ NoEntry ∷ NoEntry ∷ Of (Some kinds.Long) ∷ Of (Some kinds.Ref) ∷ Of (Some kinds.Ref) ∷ Of (Some kinds.Ref) ∷ NoEntry ∷ NoEntry ∷ []
entries = refl

-- a long is one entry; one type that has no entry spoils all
entries_in_order : map (entries_of two_nops) ([] ∷ (Top ∷ Long ∷ Integer ∷ Null ∷ []) ∷ (Float ∷ Integer ∷ []) ∷ (Integer ∷ Double ∷ []) ∷ (Integer ∷ Uninitialized 1 ∷ Null ∷ []) ∷ [])
    ≡ Some [] ∷ Some (None ∷ Some kinds.Long ∷ Some kinds.Int ∷ Some kinds.Ref ∷ []) ∷ None ∷ None ∷ None ∷ []
entries_in_order = refl

-- no operand is Top
operands_have_kinds : map stack_of ([] ∷ (Some kinds.Int ∷ Some kinds.Long ∷ Some kinds.Ref ∷ []) ∷ (None ∷ Some kinds.Int ∷ []) ∷ (Some kinds.Int ∷ None ∷ []) ∷ [])
    ≡ Some [] ∷ Some (kinds.Int ∷ kinds.Long ∷ kinds.Ref ∷ []) ∷ None ∷ None ∷ []
operands_have_kinds = refl

-- ---- forms

abbrev three_entries : List (Option Kind)
three_entries = Some kinds.Ref ∷ Some kinds.Long ∷ None ∷ []

abbrev reported : List (Option Kind) → List (Option Kind) → Option Entries
reported locals stack = Some (record { locals = locals; stack = stack })

short_forms : map (form_entries two_nops three_entries) (Same ∷ Stack1 Integer ∷ Stack1 Long ∷ Stack1 Top ∷ Stack1 Float ∷ [])
    ≡ reported three_entries [] ∷ reported three_entries (Some kinds.Int ∷ []) ∷ reported three_entries (Some kinds.Long ∷ []) ∷ reported three_entries (None ∷ []) ∷ None ∷ []
short_forms = refl

-- the last ones go, a long as one
chopped : map (form_entries two_nops three_entries) (Chop 0 ∷ Chop 1 ∷ Chop 2 ∷ Chop 3 ∷ Chop 4 ∷ [])
    ≡ reported three_entries [] ∷ reported (Some kinds.Ref ∷ Some kinds.Long ∷ []) [] ∷ reported (Some kinds.Ref ∷ []) [] ∷ reported [] [] ∷ None ∷ []
chopped = refl

chopped_none : form_entries two_nops [] (Chop 1) ≡ None
chopped_none = refl

appended : map (form_entries two_nops three_entries) (Append (Integer ∷ Null ∷ []) ∷ Append (Integer ∷ Float ∷ []) ∷ [])
    ≡ reported (Some kinds.Ref ∷ Some kinds.Long ∷ None ∷ Some kinds.Int ∷ Some kinds.Ref ∷ []) [] ∷ None ∷ []
appended = refl

full : map (form_entries two_nops three_entries) (Full (Integer ∷ Top ∷ []) (Null ∷ Long ∷ []) ∷ Full [] [] ∷ Full (Float ∷ []) [] ∷ Full [] (Double ∷ []) ∷ [])
    ≡ reported (Some kinds.Int ∷ None ∷ []) (Some kinds.Ref ∷ Some kinds.Long ∷ []) ∷ reported [] [] ∷ None ∷ None ∷ []
full = refl

-- ---- slots

two_longs : kind_slots (Some kinds.Long ∷ Some kinds.Long ∷ None ∷ Some kinds.Int ∷ Some kinds.Ref ∷ [])
    ≡ Some kinds.Long ∷ None ∷ Some kinds.Long ∷ None ∷ None ∷ Some kinds.Int ∷ Some kinds.Ref ∷ []
two_longs = refl

padding : map (padded 3) ([] ∷ (Some kinds.Int ∷ None ∷ []) ∷ (Some kinds.Int ∷ None ∷ Some kinds.Ref ∷ []) ∷ [])
    ≡ (None ∷ None ∷ None ∷ []) ∷ (Some kinds.Int ∷ None ∷ None ∷ []) ∷ (Some kinds.Int ∷ None ∷ Some kinds.Ref ∷ []) ∷ []
padding = refl

depths : map depth ([] ∷ (kinds.Int ∷ []) ∷ (kinds.Ref ∷ kinds.Long ∷ kinds.Int ∷ kinds.Long ∷ []) ∷ []) ≡ 0 ∷ 1 ∷ 6 ∷ []
depths = refl

-- ---- what fits

abbrev pub kinds_of : List (Option Kind) → List Kind → Kinds
kinds_of locals stack = record { locals = locals; stack = stack }

-- as many as there may be; the last operand is the top
fits : fitting two_nops (Some kinds.Long ∷ Some kinds.Int ∷ []) (Some (kinds.Ref ∷ kinds.Long ∷ []))
    ≡ Some (kinds_of (Some kinds.Long ∷ None ∷ Some kinds.Int ∷ []) (kinds.Long ∷ kinds.Ref ∷ []))
fits = refl

fits_padded : fitting two_nops (Some kinds.Ref ∷ []) (Some (kinds.Int ∷ kinds.Int ∷ kinds.Ref ∷ []))
    ≡ Some (kinds_of (Some kinds.Ref ∷ None ∷ None ∷ []) (kinds.Ref ∷ kinds.Int ∷ kinds.Int ∷ []))
fits_padded = refl

-- one slot and one operand too many, where there are as many entries as there may be, and a long may count as two
too_many : map (λ (e : List (Option Kind) × List Kind). fitting two_nops e.0 (Some e.1))
    ((Some kinds.Int ∷ Some kinds.Ref ∷ Some kinds.Long ∷ [], []) ∷ (Some kinds.Long ∷ Some kinds.Long ∷ [], []) ∷ (None ∷ None ∷ None ∷ None ∷ [], [])
    ∷ ([], kinds.Int ∷ kinds.Ref ∷ kinds.Long ∷ []) ∷ ([], kinds.Long ∷ kinds.Long ∷ []) ∷ ([], kinds.Int ∷ kinds.Int ∷ kinds.Int ∷ kinds.Ref ∷ []) ∷ [])
    ≡ None ∷ None ∷ None ∷ None ∷ None ∷ None ∷ []
too_many = refl

no_operands_fit : fitting two_nops [] None ≡ None
no_operands_fit = refl

-- the numbers of local variables and of operands aren't mixed up
room_apart : map (λ (e : List (Option Kind) × List Kind). fitting (record two_nops { max_locals = 1; max_stack = 2 }) e.0 (Some e.1))
    ((Some kinds.Int ∷ [], kinds.Ref ∷ kinds.Int ∷ []) ∷ (Some kinds.Int ∷ Some kinds.Int ∷ [], []) ∷ [])
    ≡ Some (kinds_of (Some kinds.Int ∷ []) (kinds.Int ∷ kinds.Ref ∷ [])) ∷ None ∷ []
room_apart = refl

-- ---- frames one after the other

abbrev pub at : ℕ → FrameForm → StackMapFrame
at number form = record { at = number; form = form }

abbrev pub placed : ℕ → List (Option Kind) → List Kind → Placed
placed number locals stack = record { at = number; kinds = kinds_of locals stack }

-- each starts from the one before: after an operand and after Full too
four_in_a_row : frames_after two_nops (Some kinds.Ref ∷ []) (at 2 (Append (Long ∷ [])) ∷ at 3 (Stack1 Integer) ∷ at 5 (Chop 1) ∷ at 9 (Append (Integer ∷ Null ∷ [])) ∷ [])
    ≡ Read (placed 2 (Some kinds.Ref ∷ Some kinds.Long ∷ None ∷ []) []
    ∷ placed 3 (Some kinds.Ref ∷ Some kinds.Long ∷ None ∷ []) (kinds.Int ∷ [])
    ∷ placed 5 (Some kinds.Ref ∷ None ∷ None ∷ []) []
    ∷ placed 9 (Some kinds.Ref ∷ Some kinds.Int ∷ Some kinds.Ref ∷ []) [] ∷ [])
unfolding frames_after
four_in_a_row = refl

after_full : frames_after two_nops (Some kinds.Ref ∷ []) (at 1 (Full (Integer ∷ Top ∷ []) (Null ∷ Integer ∷ [])) ∷ at 2 Same ∷ at 3 (Append (Integer ∷ [])) ∷ at 4 (Chop 2) ∷ [])
    ≡ Read (placed 1 (Some kinds.Int ∷ None ∷ None ∷ []) (kinds.Int ∷ kinds.Ref ∷ [])
    ∷ placed 2 (Some kinds.Int ∷ None ∷ None ∷ []) []
    ∷ placed 3 (Some kinds.Int ∷ None ∷ Some kinds.Int ∷ []) []
    ∷ placed 4 (Some kinds.Int ∷ None ∷ None ∷ []) [] ∷ [])
unfolding frames_after
after_full = refl

no_frames : frames_after two_nops (Some kinds.Ref ∷ []) [] ≡ Read []
unfolding frames_after
no_frames = refl

-- the number of the first that has no kinds: by its type, by its form, by its operands, by its local variables
first_faulty : map (frames_after two_nops (Some kinds.Ref ∷ [])) (
    (at 4 Same ∷ at 5 (Append (Float ∷ [])) ∷ at 6 (Stack1 Double) ∷ [])
    ∷ (at 4 Same ∷ at 6 (Chop 2) ∷ at 7 (Append (Float ∷ [])) ∷ [])
    ∷ (at 7 (Stack1 Top) ∷ at 8 (Chop 2) ∷ [])
    ∷ (at 3 (Append (Long ∷ [])) ∷ at 8 (Append (Integer ∷ [])) ∷ at 9 Same ∷ [])
    ∷ (at 3 Same ∷ at 4 Same ∷ at 9 (Stack1 Float) ∷ [])
    ∷ (at 1 (Full [] (Top ∷ Integer ∷ [])) ∷ [])
    ∷ (at 2 (Full [] (Long ∷ Long ∷ [])) ∷ at 3 Same ∷ []) ∷ [])
    ≡ Faulty 5 ∷ Faulty 6 ∷ Faulty 7 ∷ Faulty 8 ∷ Faulty 9 ∷ Faulty 1 ∷ Faulty 2 ∷ []
unfolding frames_after
first_faulty = refl

-- ---- the first frame starts from the parameters

abbrev long_and_reference : Signature
long_and_reference = record { parameters = kinds.Long ∷ kinds.Ref ∷ []; result = None }

parameters_are_entries : parameter_entries (kinds.Long ∷ kinds.Ref ∷ kinds.Int ∷ []) ≡ Some kinds.Long ∷ Some kinds.Ref ∷ Some kinds.Int ∷ []
parameters_are_entries = refl

first_from_parameters : map (λ (form : FrameForm). frames_of long_and_reference (code_with (Nop ∷ []) [] (at 0 form ∷ at 6 Same ∷ []))) (Same ∷ Chop 1 ∷ Chop 2 ∷ Chop 3 ∷ Append (Integer ∷ []) ∷ [])
    ≡ Read (placed 0 (Some kinds.Long ∷ None ∷ Some kinds.Ref ∷ []) [] ∷ placed 6 (Some kinds.Long ∷ None ∷ Some kinds.Ref ∷ []) [] ∷ [])
    ∷ Read (placed 0 (Some kinds.Long ∷ None ∷ None ∷ []) [] ∷ placed 6 (Some kinds.Long ∷ None ∷ None ∷ []) [] ∷ [])
    ∷ Read (placed 0 (None ∷ None ∷ None ∷ []) [] ∷ placed 6 (None ∷ None ∷ None ∷ []) [] ∷ [])
    ∷ Faulty 0 ∷ Faulty 0 ∷ []
unfolding frames_after
first_from_parameters = refl

no_map : frames_of long_and_reference (record two_nops { frames = None }) ≡ NoMap
no_map = refl

empty_map : frames_of long_and_reference two_nops ≡ Read []
unfolding frames_after
empty_map = refl

-- ---- the frame at an instruction

places : map (placed_at (placed 2 (Some kinds.Int ∷ []) [] ∷ placed 5 [] (kinds.Ref ∷ []) ∷ [])) (0 ∷ 2 ∷ 3 ∷ 5 ∷ 6 ∷ [])
    ≡ None ∷ Some (kinds_of (Some kinds.Int ∷ []) []) ∷ None ∷ Some (kinds_of [] (kinds.Ref ∷ [])) ∷ None ∷ []
places = refl

-- ---- results

same_results : map (λ (e : Option Kind × Option Kind). same_result e.0 e.1)
    ((None, None) ∷ (None, Some kinds.Int) ∷ (None, Some kinds.Long) ∷ (None, Some kinds.Ref)
    ∷ (Some kinds.Int, None) ∷ (Some kinds.Int, Some kinds.Int) ∷ (Some kinds.Int, Some kinds.Long) ∷ (Some kinds.Int, Some kinds.Ref)
    ∷ (Some kinds.Long, None) ∷ (Some kinds.Long, Some kinds.Int) ∷ (Some kinds.Long, Some kinds.Long) ∷ (Some kinds.Long, Some kinds.Ref)
    ∷ (Some kinds.Ref, None) ∷ (Some kinds.Ref, Some kinds.Int) ∷ (Some kinds.Ref, Some kinds.Long) ∷ (Some kinds.Ref, Some kinds.Ref) ∷ [])
    ≡ true ∷ false ∷ false ∷ false ∷ false ∷ true ∷ false ∷ false ∷ false ∷ false ∷ true ∷ false ∷ false ∷ false ∷ false ∷ true ∷ []
same_results = refl

abbrev results : List Signature
results = map (λ (result : Option Kind). record { parameters = kinds.Ref ∷ []; result = result }) (None ∷ Some kinds.Int ∷ Some kinds.Long ∷ Some kinds.Ref ∷ [])

-- operands may be left
returns_nothing : map (λ signature. after signature two_nops (Return None) (kinds_of [] (kinds.Int ∷ []))) results
    ≡ Some (kinds_of [] (kinds.Int ∷ [])) ∷ None ∷ None ∷ None ∷ []
unfolding after
returns_nothing = refl

returns_int : map (λ signature. after signature two_nops (Return (Some kinds.Int)) (kinds_of [] (kinds.Int ∷ kinds.Ref ∷ []))) results
    ≡ None ∷ Some (kinds_of [] (kinds.Ref ∷ [])) ∷ None ∷ None ∷ []
unfolding after
returns_int = refl

returns_long : map (λ signature. after signature two_nops (Return (Some kinds.Long)) (kinds_of [] (kinds.Long ∷ []))) results
    ≡ None ∷ None ∷ Some (kinds_of [] []) ∷ None ∷ []
unfolding after
returns_long = refl

returns_reference : map (λ signature. after signature two_nops (Return (Some kinds.Ref)) (kinds_of [] (kinds.Ref ∷ kinds.Int ∷ []))) results
    ≡ None ∷ None ∷ None ∷ Some (kinds_of [] (kinds.Int ∷ [])) ∷ []
unfolding after
returns_reference = refl

-- the result has to be there, on top
returns_none_there : map (λ stack. after (record { parameters = []; result = Some kinds.Ref }) two_nops (Return (Some kinds.Ref)) (kinds_of [] stack)) ([] ∷ (kinds.Int ∷ kinds.Ref ∷ []) ∷ [])
    ≡ None ∷ None ∷ []
unfolding after
returns_none_there = refl

-- ---- what instructions leave

abbrev pub reference_in : Signature
reference_in = record { parameters = kinds.Ref ∷ []; result = None }

abbrev leaves : Kinds → List Instruction → List (Option Kinds)
leaves k instructions = map (λ i. after reference_in two_nops i k) instructions

-- a reference, a long and no operand
abbrev locals_full : List (Option Kind)
locals_full = Some kinds.Ref ∷ Some kinds.Long ∷ None ∷ []

pushes : leaves (kinds_of locals_full (kinds.Int ∷ [])) (Nop ∷ Push (values.Int (pos 7)) ∷ Push (values.Ref 0) ∷ Push (values.Long (pos 7)) ∷ Load kinds.Ref 0 ∷ Load kinds.Long 1 ∷ [])
    ≡ Some (kinds_of locals_full (kinds.Int ∷ [])) ∷ Some (kinds_of locals_full (kinds.Int ∷ kinds.Int ∷ [])) ∷ Some (kinds_of locals_full (kinds.Ref ∷ kinds.Int ∷ []))
    ∷ Some (kinds_of locals_full (kinds.Long ∷ kinds.Int ∷ [])) ∷ Some (kinds_of locals_full (kinds.Ref ∷ kinds.Int ∷ []))
    ∷ Some (kinds_of locals_full (kinds.Long ∷ kinds.Int ∷ [])) ∷ []
unfolding after
pushes = refl

no_room_for_two : leaves (kinds_of locals_full (kinds.Int ∷ kinds.Int ∷ [])) (Push (values.Int (pos 7)) ∷ Push (values.Long (pos 7)) ∷ Load kinds.Ref 0 ∷ Load kinds.Long 1 ∷ Move Dup ∷ [])
    ≡ Some (kinds_of locals_full (kinds.Int ∷ kinds.Int ∷ kinds.Int ∷ [])) ∷ None ∷ Some (kinds_of locals_full (kinds.Ref ∷ kinds.Int ∷ kinds.Int ∷ [])) ∷ None
    ∷ Some (kinds_of locals_full (kinds.Int ∷ kinds.Int ∷ kinds.Int ∷ [])) ∷ []
unfolding after
no_room_for_two = refl

no_room_for_one : leaves (kinds_of locals_full (kinds.Int ∷ kinds.Long ∷ [])) (Nop ∷ Push (values.Int (pos 7)) ∷ Load kinds.Ref 0 ∷ Move Dup ∷ Move Pop ∷ [])
    ≡ Some (kinds_of locals_full (kinds.Int ∷ kinds.Long ∷ [])) ∷ None ∷ None ∷ None ∷ Some (kinds_of locals_full (kinds.Long ∷ [])) ∷ []
unfolding after
no_room_for_one = refl

-- another kind, the second slot of a long, and a slot past the end
loads_none : leaves (kinds_of locals_full []) (Load kinds.Int 0 ∷ Load kinds.Long 0 ∷ Load kinds.Ref 1 ∷ Load kinds.Long 2 ∷ Load kinds.Int 2 ∷ Load kinds.Ref 3 ∷ [])
    ≡ None ∷ None ∷ None ∷ None ∷ None ∷ None ∷ []
unfolding after
loads_none = refl

stores_int : leaves (kinds_of locals_full (kinds.Int ∷ kinds.Ref ∷ [])) (Store kinds.Int 0 ∷ Store kinds.Int 1 ∷ Store kinds.Int 2 ∷ Store kinds.Int 3 ∷ Store kinds.Ref 0 ∷ Store kinds.Long 0 ∷ [])
    ≡ Some (kinds_of (Some kinds.Int ∷ Some kinds.Long ∷ None ∷ []) (kinds.Ref ∷ [])) ∷ Some (kinds_of (Some kinds.Ref ∷ Some kinds.Int ∷ None ∷ []) (kinds.Ref ∷ []))
    ∷ Some (kinds_of (Some kinds.Ref ∷ None ∷ Some kinds.Int ∷ []) (kinds.Ref ∷ [])) ∷ None ∷ None ∷ None ∷ []
unfolding after
stores_int = refl

stores_long : leaves (kinds_of (Some kinds.Ref ∷ Some kinds.Int ∷ Some kinds.Ref ∷ []) (kinds.Long ∷ [])) (Store kinds.Long 0 ∷ Store kinds.Long 1 ∷ Store kinds.Long 2 ∷ [])
    ≡ Some (kinds_of (Some kinds.Long ∷ None ∷ Some kinds.Ref ∷ []) []) ∷ Some (kinds_of (Some kinds.Ref ∷ Some kinds.Long ∷ None ∷ []) []) ∷ None ∷ []
unfolding after
stores_long = refl

-- the second slot of a long is taken by a long
long_over_long : leaves (kinds_of (Some kinds.Long ∷ None ∷ None ∷ []) (kinds.Long ∷ [])) (Store kinds.Long 0 ∷ Store kinds.Long 1 ∷ [])
    ≡ Some (kinds_of (Some kinds.Long ∷ None ∷ None ∷ []) []) ∷ Some (kinds_of (None ∷ Some kinds.Long ∷ None ∷ []) []) ∷ []
unfolding after
long_over_long = refl

stores_none : leaves (kinds_of locals_full []) (Store kinds.Int 0 ∷ Store kinds.Long 0 ∷ Move Pop ∷ Move Dup ∷ []) ≡ None ∷ None ∷ None ∷ None ∷ []
unfolding after
stores_none = refl

-- pop and dup take no long
moves_long : map (λ i. after reference_in (record two_nops { max_stack = 9 }) i (kinds_of [] (kinds.Long ∷ []))) (Move Pop ∷ Move Dup ∷ []) ≡ None ∷ None ∷ []
unfolding after
moves_long = refl

moves : leaves (kinds_of [] (kinds.Ref ∷ kinds.Int ∷ [])) (Move Pop ∷ Move Dup ∷ [])
    ≡ Some (kinds_of [] (kinds.Int ∷ [])) ∷ Some (kinds_of [] (kinds.Ref ∷ kinds.Ref ∷ kinds.Int ∷ [])) ∷ []
unfolding after
moves = refl

abbrev new_bytes : Instruction
new_bytes = NewArray (codes "[B") elements.Byte

-- the index is the top, and the array below it
on_int_and_reference : leaves (kinds_of [] (kinds.Int ∷ kinds.Ref ∷ [])) (LoadElement Bytes ∷ LoadElement Longs ∷ Compute Add ∷ ArrayLength ∷ new_bytes ∷ StoreElement Bytes ∷ [])
    ≡ Some (kinds_of [] (kinds.Int ∷ [])) ∷ Some (kinds_of [] (kinds.Long ∷ [])) ∷ None ∷ None ∷ Some (kinds_of [] (kinds.Ref ∷ kinds.Ref ∷ [])) ∷ None ∷ []
unfolding after
on_int_and_reference = refl

on_reference_and_int : leaves (kinds_of [] (kinds.Ref ∷ kinds.Int ∷ [])) (LoadElement Bytes ∷ Compute Add ∷ ArrayLength ∷ new_bytes ∷ [])
    ≡ None ∷ None ∷ Some (kinds_of [] (kinds.Int ∷ kinds.Int ∷ [])) ∷ None ∷ []
unfolding after
on_reference_and_int = refl

on_ints : leaves (kinds_of [] (kinds.Int ∷ kinds.Int ∷ kinds.Ref ∷ [])) (Compute Add ∷ StoreElement Bytes ∷ StoreElement Longs ∷ LoadElement Bytes ∷ [])
    ≡ Some (kinds_of [] (kinds.Int ∷ kinds.Ref ∷ [])) ∷ Some (kinds_of [] []) ∷ None ∷ None ∷ []
unfolding after
on_ints = refl

on_long : leaves (kinds_of [] (kinds.Long ∷ kinds.Int ∷ kinds.Ref ∷ [])) (StoreElement Longs ∷ StoreElement Bytes ∷ Compute Add ∷ ArrayLength ∷ new_bytes ∷ [])
    ≡ Some (kinds_of [] []) ∷ None ∷ None ∷ None ∷ None ∷ []
unfolding after
on_long = refl

-- one int is missing; an opcode that doesn't run; an element that doesn't fit any more
on_one_int : leaves (kinds_of [] (kinds.Int ∷ [])) (Compute Add ∷ LoadElement Bytes ∷ StoreElement Bytes ∷ ArrayLength ∷ Other 0 ∷ [])
    ≡ None ∷ None ∷ None ∷ None ∷ None ∷ []
unfolding after
on_one_int = refl

no_room_for_element : after reference_in (record two_nops { max_stack = 1 }) (LoadElement Longs) (kinds_of [] (kinds.Int ∷ kinds.Ref ∷ [])) ≡ None
unfolding after
no_room_for_element = refl

-- ---- flows

abbrev flow : List (Option Kind) → List (Option Kind) → Type 0
flow left into = LocalsFlow left into

flows_alike : flow (Some kinds.Ref ∷ None ∷ Some kinds.Int ∷ []) (Some kinds.Ref ∷ None ∷ Some kinds.Int ∷ [])
flows_alike = (refl, (refl, tt))

flows_to_less : flow (Some kinds.Ref ∷ Some kinds.Long ∷ None ∷ []) (None ∷ Some kinds.Long ∷ None ∷ [])
flows_to_less = (refl, tt)

flows_to_shorter : flow (Some kinds.Ref ∷ Some kinds.Int ∷ []) (Some kinds.Ref ∷ [])
flows_to_shorter = (refl, tt)

flows_to_nothing : flow [] (None ∷ None ∷ [])
flows_to_nothing = tt

lacks_kind : flow (None ∷ []) (Some kinds.Int ∷ []) → ⊥
lacks_kind h = let e : None ≡ Some kinds.Int = h.0 in absurd cc

lacks_slot : flow (Some kinds.Int ∷ []) (None ∷ Some kinds.Int ∷ []) → ⊥
lacks_slot h = h

has_other_kind : flow (Some kinds.Ref ∷ []) (Some kinds.Int ∷ []) → ⊥
has_other_kind h = let e : Some kinds.Ref ≡ Some kinds.Int = h.0 in absurd cc

later_lacks : flow (Some kinds.Ref ∷ Some kinds.Ref ∷ None ∷ []) (Some kinds.Ref ∷ None ∷ Some kinds.Ref ∷ []) → ⊥
later_lacks h = let e : None ≡ Some kinds.Ref = h.1.0 in absurd cc

-- the operands are the same, all of them
into_same : FlowsInto (kinds_of (Some kinds.Ref ∷ Some kinds.Int ∷ []) (kinds.Int ∷ kinds.Ref ∷ [])) (kinds_of (None ∷ Some kinds.Int ∷ []) (kinds.Int ∷ kinds.Ref ∷ []))
into_same = ((refl, tt), refl)

into_fewer : FlowsInto (kinds_of [] (kinds.Int ∷ [])) (kinds_of [] []) → ⊥
into_fewer h = let e : kinds.Int ∷ [] ≡ [] = h.1 in absurd cc

into_more : FlowsInto (kinds_of [] (kinds.Int ∷ [])) (kinds_of [] (kinds.Int ∷ kinds.Int ∷ [])) → ⊥
into_more h = let e : kinds.Int ∷ [] ≡ kinds.Int ∷ kinds.Int ∷ [] = h.1 in absurd cc

into_other_order : FlowsInto (kinds_of [] (kinds.Int ∷ kinds.Ref ∷ [])) (kinds_of [] (kinds.Ref ∷ kinds.Int ∷ [])) → ⊥
into_other_order h = let e : kinds.Int ∷ kinds.Ref ∷ [] ≡ kinds.Ref ∷ kinds.Int ∷ [] = h.1 in absurd cc

into_more_locals : FlowsInto (kinds_of (None ∷ []) []) (kinds_of (Some kinds.Int ∷ []) []) → ⊥
into_more_locals h = lacks_kind h.0

to_no_frame : FlowsTo (kinds_of [] (kinds.Int ∷ [])) None
to_no_frame = tt

to_frame : FlowsTo (kinds_of (Some kinds.Int ∷ []) (kinds.Int ∷ [])) (Some (kinds_of (None ∷ []) (kinds.Int ∷ [])))
to_frame = (tt, refl)

to_other_frame : FlowsTo (kinds_of [] (kinds.Int ∷ [])) (Some (kinds_of [] [])) → ⊥
to_other_frame h = into_fewer h

-- the operands count for nothing
locals_to_frame : LocalsFlowTo (kinds_of (Some kinds.Int ∷ []) (kinds.Int ∷ [])) (Some (kinds_of (None ∷ []) (kinds.Ref ∷ [])))
locals_to_frame = tt

locals_to_no_frame : LocalsFlowTo (kinds_of [] []) None
locals_to_no_frame = tt

locals_to_other : LocalsFlowTo (kinds_of (None ∷ []) []) (Some (kinds_of (Some kinds.Int ∷ []) [])) → ⊥
locals_to_other h = lacks_kind h

-- one reference
at_handler : IsHandlerFrame (Some (kinds_of (Some kinds.Int ∷ []) (kinds.Ref ∷ [])))
at_handler = refl

no_frame_at_handler : IsHandlerFrame None → ⊥
no_frame_at_handler h = h

no_operand_at_handler : IsHandlerFrame (Some (kinds_of [] [])) → ⊥
no_operand_at_handler h = let e : [] ≡ kinds.Ref ∷ [] = h in absurd cc

int_at_handler : IsHandlerFrame (Some (kinds_of [] (kinds.Int ∷ []))) → ⊥
int_at_handler h = let e : kinds.Int ∷ [] ≡ kinds.Ref ∷ [] = h in absurd cc

two_at_handler : IsHandlerFrame (Some (kinds_of [] (kinds.Ref ∷ kinds.Ref ∷ []))) → ⊥
two_at_handler h = let e : kinds.Ref ∷ kinds.Ref ∷ [] ≡ kinds.Ref ∷ [] = h in absurd cc

-- a frame declares the kinds, whatever else would hold
says : IsFrameOr (Some (kinds_of [] [])) (kinds_of [] []) ⊥
says = refl

says_other : IsFrameOr (Some (kinds_of [] [])) (kinds_of [] (kinds.Int ∷ [])) ⊤ → ⊥
says_other h = let e : kinds.Int ∷ [] ≡ [] = ap (λ (k : Kinds). k.stack) h in absurd cc

otherwise : IsFrameOr None (kinds_of [] []) ⊤
otherwise = tt

not_otherwise : IsFrameOr None (kinds_of [] []) ⊥ → ⊥
not_otherwise h = h

-- ---- instructions, one of each

abbrev each_instruction : List Instruction
each_instruction =
    Nop ∷ Push (values.Int (pos 5)) ∷ Load kinds.Int 0 ∷ Store kinds.Ref 1 ∷ LoadElement Bytes ∷ StoreElement Bytes ∷ Move Pop ∷ Move Dup ∷ Compute Add
    ∷ Return None ∷ Return (Some kinds.Int) ∷ Return (Some kinds.Ref) ∷ ArrayLength ∷ new_bytes ∷ Other 191 ∷ []

only_returns_end : map ends each_instruction
    ≡ false ∷ false ∷ false ∷ false ∷ false ∷ false ∷ false ∷ false ∷ false ∷ true ∷ true ∷ true ∷ false ∷ false ∷ false ∷ []
only_returns_end = refl

none_jumps : map targets each_instruction ≡ [] ∷ [] ∷ [] ∷ [] ∷ [] ∷ [] ∷ [] ∷ [] ∷ [] ∷ [] ∷ [] ∷ [] ∷ [] ∷ [] ∷ [] ∷ []
none_jumps = refl

none_throws : map throws each_instruction ≡ replicate 15 false
none_throws = refl

none_makes_uninitialised : map makes_uninitialised each_instruction ≡ replicate 15 false
none_makes_uninitialised = refl

none_asks_program : map asks_program each_instruction ≡ replicate 15 false
none_asks_program = refl

all_straight : map is_straight each_instruction ≡ replicate 15 true
all_straight = refl

-- ---- values of kinds

have_kinds : LocalsHave (Some (values.Ref 1) ∷ None ∷ Some (values.Long (pos 5)) ∷ Some (values.Int (pos 5)) ∷ []) (Some kinds.Ref ∷ None ∷ Some kinds.Long ∷ None ∷ [])
have_kinds = (refl, (refl, tt))

has_no_value : LocalsHave (None ∷ []) (Some kinds.Int ∷ []) → ⊥
has_no_value h = h

value_of_other_kind : LocalsHave (Some (values.Int (pos 5)) ∷ Some (values.Int (pos 5)) ∷ []) (Some kinds.Int ∷ Some kinds.Ref ∷ []) → ⊥
value_of_other_kind h = let e : kinds.Int ≡ kinds.Ref = h.1.0 in absurd cc

fewer_values : LocalsHave [] (None ∷ []) → ⊥
fewer_values h = h

more_values : LocalsHave (None ∷ []) [] → ⊥
more_values h = h

-- the top first
operands_have : HasKinds [] (values.Int (pos 5) ∷ values.Ref 0 ∷ []) (kinds_of [] (kinds.Int ∷ kinds.Ref ∷ []))
operands_have = record { locals = tt; operands = refl }

operands_turned : HasKinds [] (values.Int (pos 5) ∷ values.Ref 0 ∷ []) (kinds_of [] (kinds.Ref ∷ kinds.Int ∷ [])) → ⊥
operands_turned h = let e : kinds.Int ∷ kinds.Ref ∷ [] ≡ kinds.Ref ∷ kinds.Int ∷ [] = h.operands in absurd cc

more_operands : HasKinds [] (values.Int (pos 5) ∷ []) (kinds_of [] []) → ⊥
more_operands h = let e : kinds.Int ∷ [] ≡ [] = h.operands in absurd cc

no_value_for_kind : HasKinds (None ∷ []) [] (kinds_of (Some kinds.Int ∷ []) []) → ⊥
no_value_for_kind h = h.locals

-- ---- what may follow an instruction

abbrev some_part : StraightPart
some_part = record {
  locals = Some (values.Ref 1) ∷ None ∷ Some (values.Int (pos 5)) ∷ [];
  operands = values.Int (pos 7) ∷ [];
  heap = record { objects = []; used = 0 };
  statics = [];
  literals = [];
}

abbrev its_kinds : Kinds
its_kinds = kinds_of (Some kinds.Ref ∷ None ∷ Some kinds.Int ∷ []) (kinds.Int ∷ [])

abbrev int_out : Signature
int_out = record { parameters = []; result = Some kinds.Int }

abbrev Follows : Instruction → Kinds → Flow → Type 0
Follows i left flow = IsSoundFlow int_out two_nops i left some_part flow

its_kinds_left : LeavesKinds two_nops its_kinds some_part
its_kinds_left = (record { locals = (refl, (refl, tt)); operands = refl }, refl)

next_follows : Follows Nop its_kinds Next
next_follows = (its_kinds_left, refl)

-- the run doesn't go on after a return
none_follows_return : Follows (Return None) its_kinds Next → ⊥
none_follows_return h = let e : true ≡ false = h.1 in absurd cc

-- the operands, and the local variables, are of other kinds; there are fewer local variables than the code has
other_operands : Follows Nop (record its_kinds { stack = [] }) Next → ⊥
other_operands h = let e : kinds.Int ∷ [] ≡ [] = h.0.0.operands in absurd cc

other_locals : Follows Nop (record its_kinds { locals = Some kinds.Ref ∷ Some kinds.Int ∷ None ∷ [] }) Next → ⊥
other_locals h = let bad : ⊥ = h.0.0.locals.1 in bad

other_count : IsSoundFlow int_out (record two_nops { max_locals = 4 }) Nop its_kinds some_part Next → ⊥
other_count h = let e : length some_part.locals ≡ 4 = h.0.1 in absurd (omega arith)

-- none jumps, and none throws an object
none_goes_to : (i : Instruction) (number : ℕ) → Follows i its_kinds (To number) → ⊥
none_goes_to i number h = let below : h.1.0 < 0 = h.1.1 in absurd (omega arith)

none_throws_object : (i : Instruction) (exception : ℕ) → Follows i its_kinds (Throw exception) → ⊥
none_throws_object i exception h = let e : false ≡ true = h in absurd cc

-- only a return returns, whatever it leaves, and a value of the result's kind
return_follows : Follows (Return (Some kinds.Int)) (kinds_of [] []) (Back (Some (values.Int (pos 7))))
return_follows = (refl, refl)

void_follows : IsSoundFlow (record int_out { result = None }) two_nops (Return None) its_kinds some_part (Back None)
void_follows = (refl, refl)

other_kind_returned : Follows (Return (Some kinds.Int)) its_kinds (Back (Some (values.Ref 7))) → ⊥
other_kind_returned h = let e : Some kinds.Ref ≡ Some kinds.Int = h.1 in absurd cc

nothing_returned : Follows (Return (Some kinds.Int)) its_kinds (Back None) → ⊥
nothing_returned h = let e : None ≡ Some kinds.Int = h.1 in absurd cc

none_returns : Follows Nop its_kinds (Back None) → ⊥
none_returns h = let e : false ≡ true = h.0 in absurd cc

-- any may raise, and end the run
raise_follows : Follows Nop (kinds_of [] []) (Raise raises.NullPointer)
raise_follows = tt

broken_follows : Follows Nop (kinds_of [] []) Broken
broken_follows = tt

full_follows : Follows Nop (kinds_of [] []) (HeapFull 8 9)
full_follows = tt

-- an effect has to be there
nop_has_effect : HasSoundEffect [] (limited_to 8) int_out two_nops Nop its_kinds some_part
unfolding effect
nop_has_effect = (_, refl, next_follows)

other_has_none : HasSoundEffect [] (limited_to 8) int_out two_nops (Other 191) its_kinds some_part → ⊥
unfolding effect
other_has_none h = let e : None ≡ Some h.0 = h.1 in absurd cc

-- a jump leaves the kinds that its target finds
jump_leaves_kinds : (i : Instruction) (left : Kinds) (number : ℕ) → Follows i left (To number) → LeavesKinds two_nops left some_part
jump_leaves_kinds i left number h = h.0

-- ---- what stands before an instruction

abbrev reference_alone : Kinds
reference_alone = kinds_of (Some kinds.Ref ∷ None ∷ None ∷ []) []

before_first : StateBefore reference_in two_nops [] 0 reference_alone
before_first = refl

not_before_first : StateBefore reference_in two_nops [] 0 (record reference_alone { stack = kinds.Int ∷ [] }) → ⊥
not_before_first h = let e : kinds.Int ∷ [] ≡ [] = ap (λ (k : Kinds). k.stack) h in absurd cc

before_second : StateBefore reference_in two_nops [] 1 reference_alone
unfolding after
before_second = (_, Nop, before_first, refl, refl, refl)

not_before_second : StateBefore reference_in two_nops [] 1 (record reference_alone { stack = kinds.Int ∷ [] }) → ⊥
not_before_second h =
    let same : reference_alone ≡ record reference_alone { stack = kinds.Int ∷ [] } = one_state reference_in two_nops [] 1 _ _ before_second h in
    let e : [] ≡ kinds.Int ∷ [] = ap (λ (k : Kinds). k.stack) same in
    absurd cc

none_before_third : (k : Kinds) → StateBefore reference_in (code_with (Nop ∷ Return None ∷ Nop ∷ []) [] []) [] 2 k → ⊥
none_before_third k h =
    let instructions : Some (Return None) ≡ Some h.1 = h.3 in
    let instruction : Return None ≡ h.1 = cc in
    let both : true ≡ false = rw (← instruction) at h.4 in
    absurd cc

-- a frame declares it, also before the first instruction and after a return
before_framed : StateBefore reference_in (code_with (Return None ∷ Nop ∷ []) [] []) (placed 1 [] (kinds.Int ∷ []) ∷ []) 1 (kinds_of [] (kinds.Int ∷ []))
before_framed = refl

not_before_framed : StateBefore reference_in two_nops (placed 1 [] (kinds.Int ∷ []) ∷ []) 1 reference_alone → ⊥
not_before_framed h = let e : [] ≡ kinds.Int ∷ [] = ap (λ (k : Kinds). k.stack) h in absurd cc

before_first_framed : StateBefore reference_in two_nops (placed 0 [] [] ∷ []) 0 (kinds_of [] [])
before_first_framed = refl

not_before_first_framed : StateBefore reference_in two_nops (placed 0 [] [] ∷ []) 0 reference_alone → ⊥
not_before_first_framed h = let e : Some kinds.Ref ∷ None ∷ None ∷ [] ≡ [] = ap (λ (k : Kinds). k.locals) h in absurd cc

-- ---- jumps

abbrev two_placed : List Placed
two_placed = placed 1 [] (kinds.Int ∷ []) ∷ placed 4 (Some kinds.Ref ∷ None ∷ []) (kinds.Int ∷ []) ∷ []

-- each target has a frame, into which what is left flows
flows_to_both : FlowsToEach (kinds_of (Some kinds.Ref ∷ Some kinds.Int ∷ []) (kinds.Int ∷ [])) two_placed (4 ∷ 1 ∷ [])
flows_to_both = (((refl, tt), refl), ((tt, refl), tt))

flows_to_none : FlowsToEach (kinds_of [] []) [] []
flows_to_none = tt

-- the first or the second target has no frame, or one into which it doesn't flow
no_frame_first : FlowsToEach (kinds_of [] (kinds.Int ∷ [])) two_placed (2 ∷ 1 ∷ []) → ⊥
no_frame_first h = h.0

no_frame_second : FlowsToEach (kinds_of [] (kinds.Int ∷ [])) two_placed (1 ∷ 2 ∷ []) → ⊥
no_frame_second h = h.1.0

other_operands_second : FlowsToEach (kinds_of [] []) (placed 1 [] [] ∷ placed 2 [] (kinds.Int ∷ []) ∷ []) (1 ∷ 2 ∷ []) → ⊥
other_operands_second h = let e : [] ≡ kinds.Int ∷ [] = h.1.0.1 in absurd cc

lacks_local : FlowsToEach (kinds_of (None ∷ None ∷ []) (kinds.Int ∷ [])) two_placed (4 ∷ []) → ⊥
lacks_local h = let e : None ≡ Some kinds.Ref = h.0.0.0 in absurd cc

-- an instruction flows to all its targets
jumps_to_each : (signature : Signature) (code : Code) (p : List Placed) (number : ℕ) (h : Holds signature code p number)
    → FlowsToEach h.left p (targets h.instruction)
jumps_to_each signature code p number h = h.jumps
