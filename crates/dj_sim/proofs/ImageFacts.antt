-- Images of frames and states, and what holds of frames, by plain values.
use Rattle.std.proofs.Common.{◌≡◌, ℕ, zero, suc, ◌≤◌, Bool, true, false, pos, List, [], ◌∷◌, map, length, Some, None, codes, refl, ap, inl, inr, arith}
use Rattle.std.proofs.lemmas.Option.{none-some}
use Rattle.dj_names.specs.declared.descriptor.Base.TheVariants as bases
use Rattle.dj_names.specs.declared.descriptor.Of.{Of}
use Rattle.dj_names.specs.declared.descriptor.Of.TheVariants as ofs
use Rattle.dj_names.specs.declared.descriptor.Ty.{Ty}
use Rattle.dj_names.specs.declared.run.Element.TheVariants as elements
use Rattle.dj_names.specs.declared.run.Message.TheVariants as messages
use Rattle.dj_names.specs.declared.run.Outcome.{Outcome}
use Rattle.dj_names.specs.declared.run.Outcome.TheVariants as outcomes
use Rattle.dj_names.specs.declared.run.Value.{Value}
use Rattle.dj_names.specs.declared.run.Value.TheVariants as values
use Rattle.dj_names.specs.trusted.Heaps.{Object, Instance, Array, class_of}
use Rattle.dj_names.specs.trusted.Library.{object}
use Rattle.dj_names.specs.trusted.Types.{Name, class_type, base_array}
use Rattle.dj_names.specs.Types.{in_sandbox}
use Rattle.dj_model.specs.trusted.Types.{Declared}
use Rattle.dj_model.specs.trusted.Instructions.{Instruction, Push, NewArray, Move, Pop, Goto, Throw}
use Rattle.dj_model.specs.trusted.Program.{Program, code_of, initialiser_of}
use Rattle.dj_model.specs.trusted.Linking.{most_classes, chain_of, interfaces_above, interfaces_from, is_subclass, is_subtype}
use Rattle.dj_model.specs.trusted.State.{Frame, State, To, Goes}
use Rattle.dj_model.specs.trusted.Charging.{Fine, new_account}
use Rattle.dj_model.specs.trusted.Effects.{effect}
use Rattle.dj_model.specs.trusted.Initialisation.{mark, Fails}
use Rattle.dj_model.specs.trusted.Step.{Went, Ended}
use Rattle.dj_model.specs.trusted.Runs.{Ran, Going, Finished, NoStep, steps}
use Rattle.dj_model.specs.Charging.{Amount}
use Rattle.dj_model.specs.Effects.{one_jump, bytes}
use Rattle.dj_model.specs.Libraries.{metered_program}
use Rattle.dj_model.specs.Runs.{Underway}
use Rattle.dj_model.specs.SmallRuns.{entry, verify_of, verify_with, catch_all, class_with, a_with, lang_name, costs, usual}
use Rattle.dj_groups.specs.Groups.{Group, groups_of, start}
use Rattle.dj_sim.specs.Paying.{copy, push_element, record_jump, record_array, record_throw, check_catch, Paying, none, arrived, jump as pays_jump, invocation, array, throw, allocation}
use Rattle.dj_sim.specs.Simulation.{groups_in, part_at, place_in, frame_image, flags_image, state_image, AreWaitingPaid, AreActing, AreBelowObject, AreHandlersWithin, JumpsAmong, HasEffect, IsLeft, EndsWithin, with_stop, AreOriginal, PaidImage, answer_image, initialised_image}
use Rattle.dj_sim.specs.Waiting.{AnswerWaits, RunWaits}

-- iconst_1, newarray byte, pop, goto 0; the pop is the handler of the two before it
abbrev loops : Program
loops = a_with (verify_with (Push (values.Int (pos 1)) ∷ NewArray (base_array bases.Byte) elements.Byte ∷ Move Pop ∷ Goto 0 ∷ []) (catch_all 0 2 2 ∷ []) ∷ []) ∷ []

abbrev groups : List Group
groups = groups_in loops (code_of loops entry)

-- ---- places

parts : map (part_at groups) (0 ∷ 1 ∷ 2 ∷ 3 ∷ 4 ∷ [])
    ≡ [] ∷ (copy ∷ push_element elements.Byte ∷ record_array ∷ []) ∷ (copy ∷ check_catch ∷ record_throw ∷ []) ∷ (record_jump ∷ []) ∷ [] ∷ []
unfolding groups_of code_of
parts = refl

unpaid_places : map (place_in groups false) (0 ∷ 1 ∷ 2 ∷ 3 ∷ 4 ∷ []) ≡ 0 ∷ 1 ∷ 5 ∷ 9 ∷ 11 ∷ []
unfolding groups_of start code_of
unpaid_places = refl

paid_places : map (place_in groups true) (0 ∷ 1 ∷ 2 ∷ 3 ∷ 4 ∷ []) ≡ 0 ∷ 4 ∷ 8 ∷ 10 ∷ 11 ∷ []
unfolding groups_of start code_of
paid_places = refl

-- where there is no code each number is its own
no_places : map (place_in (groups_in loops None) true) (0 ∷ 3 ∷ []) ≡ 0 ∷ 3 ∷ []
unfolding start
no_places = refl

-- ---- frames

abbrev frame_at : ℕ → Bool → Frame Declared
frame_at number paid = record { method = entry; number = number; locals = Some (values.Ref 1) ∷ []; operands = values.Ref 2 ∷ []; paid = paid }

abbrev handler_image : Frame Declared
handler_image = record { method = verify_of (codes "sandbox/A"); number = 8; locals = Some (values.Ref 1) ∷ []; operands = values.Ref 2 ∷ []; paid = false }

paid_image : frame_image loops (frame_at 2 true) ≡ handler_image
unfolding groups_of start code_of
paid_image = refl

-- one that isn't paid begins with what is inserted
unpaid_image : frame_image loops (frame_at 2 false) ≡ handler_image → ⊥
unfolding groups_of start code_of
unpaid_image e = absurd (let no : 5 ≡ 8 = ap (λ (f : Frame Declared). f.number) e in omega (arith, no))

-- ---- states

abbrev two_classes : Program
two_classes = a_with [] ∷ class_with (lang_name (codes "Object")) [] [] ∷ []

untouched_flags : flags_image two_classes false (true ∷ false ∷ []) ≡ false ∷ false ∷ true ∷ false ∷ []
untouched_flags = refl

touched_flags : flags_image two_classes true (false ∷ false ∷ []) ≡ true ∷ false ∷ false ∷ true ∷ []
unfolding mark
touched_flags = refl

flags_differ : flags_image two_classes true (false ∷ false ∷ []) ≡ flags_image two_classes false (false ∷ false ∷ []) → ⊥
unfolding mark
flags_differ e = absurd cc

abbrev objects : Name → List (Object Ty)
objects name = Instance (class_type name) (7 ∷ []) ∷ Array (base_array bases.Byte) elements.Byte (pos 1 ∷ []) ∷ []

abbrev state_with : List (Frame Declared) → State
state_with frames = record {
  heap = record { objects = objects (codes "A"); used = 48 };
  statics = 5 ∷ [];
  initialised = true ∷ [];
  literals = [];
  frames = frames;
  account = new_account;
  answers = [];
}

image_of_state : state_image loops false (state_with (frame_at 2 true ∷ [])) ≡ record (state_with (handler_image ∷ [])) {
  heap = record { objects = objects (codes "sandbox/A"); used = 48 };
  initialised = false ∷ false ∷ true ∷ [];
}
unfolding groups_of start code_of
image_of_state = refl

first_class : List (Object Ty) → Of
first_class [] = ofs.Base bases.Byte
first_class (o ∷ others) = (class_of o).of

-- the classes have their other names
not_the_state : (state_image loops false (state_with [])).heap.objects ≡ objects (codes "A") → ⊥
unfolding first_class
not_the_state e = absurd (let no : ofs.Class (codes "sandbox/A") ≡ ofs.Class (codes "A") = ap first_class e in cc)

abbrev ended : Name → Outcome
ended name = outcomes.Threw name messages.Null

image_of_end : answer_image loops false (Ended (ended (codes "A")) (state_with [])) ≡ Ended (ended (codes "sandbox/A")) (state_image loops false (state_with []))
image_of_end = refl

image_of_fault : initialised_image loops false (Fails (ended (codes "A")) (state_with [])) ≡ Fails (ended (codes "sandbox/A")) (state_image loops false (state_with []))
image_of_fault = refl

-- ---- frames that wait

abbrev initialiser_frame : Frame Declared
initialiser_frame = record (frame_at 0 false) { method = initialiser_of (codes "A") }

waits_paid : AreWaitingPaid (frame_at 0 false ∷ frame_at 0 true ∷ [])
waits_paid = (λ plain. refl, (λ plain. refl, tt))

waits_unpaid : AreWaitingPaid (frame_at 0 true ∷ frame_at 0 false ∷ []) → ⊥
waits_unpaid k = absurd (let no : false ≡ true = k.0 refl in cc)

-- below an initialiser's
waits_below : AreWaitingPaid (initialiser_frame ∷ frame_at 0 false ∷ [])
waits_below = (λ plain. absurd (let no : true ≡ false = plain in cc), (λ plain. refl, tt))

acts_paid : AreActing (frame_at 0 true ∷ [])
acts_paid = (refl, (λ plain. refl, tt))

acts_unpaid : AreActing (frame_at 0 false ∷ []) → ⊥
acts_unpaid k = absurd (let no : false ≡ true = k.0 in cc)

answer_waits_unpaid : AnswerWaits (Went (state_with (frame_at 0 true ∷ frame_at 0 false ∷ []))) → ⊥
answer_waits_unpaid k = waits_unpaid k

run_waits_unpaid : RunWaits (Underway (state_with (frame_at 0 true ∷ frame_at 0 false ∷ []))) → ⊥
run_waits_unpaid k = waits_unpaid k

are_original : AreOriginal (handler_image ∷ [])
are_original = ((entry, refl), tt)

not_original : AreOriginal (frame_at 0 true ∷ []) → ⊥
not_original ((m, e), rest) = absurd (let no : codes "A" ≡ in_sandbox m.class = ap (λ (d : Declared). d.class) e in cc)

-- ---- objects and handlers

objects_below : AreBelowObject (metered_program []) (Instance object [] ∷ Array (base_array bases.Byte) elements.Byte [] ∷ [])
unfolding metered_program is_subtype is_subclass chain_of most_classes interfaces_above interfaces_from
objects_below = (refl, (refl, tt))

-- a class that isn't there
object_elsewhere : AreBelowObject (metered_program []) (Instance (class_type (codes "A")) [] ∷ []) → ⊥
unfolding metered_program is_subtype is_subclass chain_of most_classes interfaces_above interfaces_from
object_elsewhere k = absurd (let no : false ≡ true = k.0 in cc)

-- a handler past the end
handler_outside : AreHandlersWithin (a_with (verify_with (Goto 0 ∷ []) (catch_all 0 1 9 ∷ []) ∷ []) ∷ []) → ⊥
unfolding code_of
handler_outside k = absurd (omega (arith, k entry _ 9 refl refl))

-- ---- effects and ends

jumps_there : JumpsAmong (Goto 3) (Goes (To 3))
jumps_there = inl refl

jumps_elsewhere : JumpsAmong (Goto 3) (Goes (To 4)) → ⊥
jumps_elsewhere (inl e) = absurd (omega (arith, e))
jumps_elsewhere (inr k) = k

-- without an operand nothing is thrown
has_none : HasEffect loops usual (record (frame_at 0 true) { operands = [] }) Throw (state_with []) → ⊥
unfolding effect
has_none h = absurd (none-some _ h.has)

-- a run that goes on doesn't end in no steps
ends_later : (s left : State) (outcome : Outcome) → EndsWithin loops usual 0 (Went s) outcome left → ⊥
unfolding steps
ends_later s left outcome (zero, l, t, e, same) = absurd (let no : Going s ≡ Finished outcome t 0 = e in cc)
ends_later s left outcome (suc n, l, t, e, same) = absurd (omega (arith, l))

stop_takes : (with_stop (state_with [])).heap.used ≡ 64
stop_takes = refl

-- the object that stops the run has its bytes
not_left : IsLeft (with_stop (state_with [])) (state_with []) → ⊥
not_left k = absurd (omega (arith, k.1))

-- ---- payments

jumps_in : Ran → ℕ
jumps_in (Going s) = s.account.costs.jump
jumps_in (Finished outcome s n) = 0
jumps_in NoStep = 0

-- a charge isn't added in no steps
paid_later : PaidImage loops loops usual 0 true (state_with (frame_at 3 false ∷ [])) (frame_at 3 false) [] (Fine (record { costs = costs 0 0 1 0; exceeded = None })) → ⊥
unfolding steps jumps_in
paid_later (now, e) = absurd (let no : 0 ≡ 1 = ap jumps_in e in omega (arith, no))

pays_array : Paying (copy ∷ push_element elements.Byte ∷ record_array ∷ []) (values.Int (pos 3) ∷ []) (bytes 24)
pays_array = array elements.Byte (pos 3) [] [] [] (none (values.Int (pos 3) ∷ []))

as_many : (is : List Instruction) (operands : List Value) (amounts : List Amount) → Paying is operands amounts → length amounts ≤ length is
as_many is operands amounts (none _) = omega arith
as_many is operands amounts (arrived rest x _ p) = omega (arith, as_many rest (values.Ref x ∷ []) amounts p)
as_many is operands amounts (pays_jump rest _ more p) = omega (arith, as_many rest operands more p)
as_many is operands amounts (invocation rest _ more p) = omega (arith, as_many rest operands more p)
as_many is operands amounts (array element z below rest more p) = omega (arith, as_many rest operands more p)
as_many is operands amounts (throw rest _ more p) = omega (arith, as_many rest operands more p)
as_many is operands amounts (allocation n rest _ more p) = omega (arith, as_many rest operands more p)

-- nothing inserted pays nothing
pays_nothing : Paying [] [] one_jump → ⊥
pays_nothing p = absurd (omega (arith, as_many [] [] one_jump p))
