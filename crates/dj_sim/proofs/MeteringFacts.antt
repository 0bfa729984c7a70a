-- Who counts, limits, classes below Object and whole runs, by plain values.
use Rattle.std.proofs.Common.{◌≡◌, ℕ, zero, true, false, List, [], ◌∷◌, map, Option, Some, None, codes, refl, inl, inr, arith}
use Rattle.std.specs.Prelude.{IsSome}
use Rattle.std.specs.List.{list_all}
use Rattle.std.proofs.lemmas.Option.{none-some}
use Rattle.std.specs.Int.{int_wrap}
use Rattle.std.specs.Fmt.{digits}
use Rattle.dj_names.specs.declared.run.Charge.TheVariants as charges
use Rattle.dj_names.specs.declared.run.Costs.{Costs}
use Rattle.dj_names.specs.declared.run.Outcome.{Outcome}
use Rattle.dj_names.specs.declared.run.Outcome.TheVariants as outcomes
use Rattle.dj_names.specs.declared.run.Raised.{Raised}
use Rattle.dj_names.specs.declared.run.Raised.TheVariants as raises
use Rattle.dj_names.specs.declared.run.Thresholds.{Thresholds}
use Rattle.dj_names.specs.trusted.Heaps.{Instance}
use Rattle.dj_names.specs.trusted.Types.{class_type}
use Rattle.dj_names.specs.trusted.Values.{raised_class}
use Rattle.dj_names.specs.Types.{in_sandbox, sandbox_prefix}
use Rattle.dj_model.specs.trusted.Types.{object_name}
use Rattle.dj_model.specs.Types.{declared_map}
use Rattle.dj_model.specs.trusted.Opcodes.{instruction_of, simple}
use Rattle.dj_model.specs.trusted.Program.{Class, class_at, code_of, has_initialiser}
use Rattle.dj_model.specs.trusted.Linking.{most_classes, chain, chain_of, is_among, interfaces_from, interfaces_above, is_subclass, is_subtype, field_order, resolve_method, resolve_field, select, special_method, field_count, place_of, static_place}
use Rattle.dj_model.specs.trusted.Numbers.{compute, convert}
use Rattle.dj_model.specs.trusted.Values.{moved, on_values}
use Rattle.dj_model.specs.trusted.Arrays.{load_element, store_element, array_length, make_array}
use Rattle.dj_model.specs.trusted.Charging.{charge_one}
use Rattle.dj_model.specs.trusted.Natives.{answer, host_answer}
use Rattle.dj_model.specs.trusted.Performing.{perform, native}
use Rattle.dj_model.specs.trusted.Members.{with_literal, invoke}
use Rattle.dj_model.specs.trusted.State.{State, Uncounted}
use Rattle.dj_model.specs.trusted.Effects.{effect, used_class}
use Rattle.dj_model.specs.trusted.Initialisation.{is_initialised, mark, with_constants, constants_of, initialise}
use Rattle.dj_model.specs.trusted.Step.{Went, Ended, IllFormed, unwound, settle, step}
use Rattle.dj_model.specs.trusted.Runs.{Report, Going, NoStep, empty_heap, start_state, begin, steps, plain_run}
use Rattle.dj_model.specs.Charging.{charge_all}
use Rattle.dj_model.specs.Effects.{pays}
use Rattle.dj_model.specs.Libraries.{metered_program}
use Rattle.dj_model.specs.Runs.{Underway, amounts, turn, turns, metered_run}
use Rattle.dj_model.specs.SmallRuns.{entry, verify_with, class_with, a_with, at_most, usual, costs, stopped_class, again_class}
use Rattle.dj_model.proofs.SoundFrames.{all_at}
use Rattle.dj_names.specs.declared.descriptor.Kind.TheVariants as kinds
use Rattle.dj_model.specs.trusted.Instructions.{Load, Return}
use Rattle.dj_groups.specs.Groups.{groups_of, start, cut}
use Rattle.dj_groups.specs.Rewritten.{in_groups, rewritten_code, rewritten}
use Rattle.dj_sim.specs.Simulation.{plain_terms}
use Rattle.dj_sim.specs.Counting.{terms_with, IsThrown, CountsAs}
use Rattle.dj_sim.specs.Limits.{IsFull, AnswerFull, AnswerAbove, IsLimited, RanFull, RanAbove, RanLimited}
use Rattle.dj_sim.specs.Objects.{HasBase, AnswerBelow, RunBelow}
use Rattle.dj_sim.specs.Metering.{acts_from, acts, Stands, RunFollows, IsNotSpent, IsNotFull}
use Rattle.dj_sim.proofs.Facts.{library_has_object}

abbrev nothing_yet : State
nothing_yet = start_state [] entry empty_heap []

-- ---- who counts

not_thrown : IsThrown [] [] (terms_with None Uncounted) nothing_yet IllFormed (Went nothing_yet) → ⊥
not_thrown th = absurd (let no : Went nothing_yet ≡ Ended (outcomes.Stopped th.charge) th.end = th.ends in cc)

counts_otherwise : CountsAs [] [] (terms_with None Uncounted) nothing_yet IllFormed (Went nothing_yet) → ⊥
counts_otherwise (inl e) = absurd cc
counts_otherwise (inr th) = not_thrown th

-- ---- limits

full : IsFull 100 (outcomes.HeapFull 80 24)
full = omega arith

not_full : IsFull 100 (outcomes.HeapFull 80 16) → ⊥
not_full l = absurd (omega (arith, l))

other_end : IsFull 0 outcomes.OkNull → ⊥
other_end k = k

-- a run that goes on isn't full, and one without objects isn't above any limit
goes_full : AnswerFull 0 (Went nothing_yet) → ⊥
goes_full k = k

nothing_above : AnswerAbove 0 (Went nothing_yet) → ⊥
nothing_above l = absurd (omega (arith, l))

not_limited : IsLimited 0 IllFormed (Went nothing_yet) → ⊥
not_limited (inl e) = absurd cc
not_limited (inr k) = k.0

run_goes_full : RanFull 0 (Going nothing_yet) → ⊥
run_goes_full k = k

run_nothing_above : RanAbove 0 (Going nothing_yet) → ⊥
run_nothing_above l = absurd (omega (arith, l))

run_not_limited : RanLimited 0 NoStep (Going nothing_yet) → ⊥
run_not_limited (inl e) = absurd cc
run_not_limited (inr k) = k.0

-- ---- classes below Object

-- an object of a class that isn't there
abbrev one_object : State
one_object = record nothing_yet { heap = record { objects = Instance (class_type (codes "A")) [] ∷ []; used = 16 } }

answer_elsewhere : AnswerBelow [] (Went one_object) → ⊥
unfolding is_subtype is_subclass chain_of most_classes interfaces_above interfaces_from
answer_elsewhere k = absurd (let no : false ≡ true = k.0 in cc)

run_elsewhere : RunBelow [] (Underway one_object) → ⊥
unfolding is_subtype is_subclass chain_of most_classes interfaces_above interfaces_from
run_elsewhere k = absurd (let no : false ≡ true = k.0 in cc)

all_below : list_all (λ (c : Class). is_among (chain (metered_program []) c.name) (object_name [])) (metered_program []) ≡ true
unfolding metered_program chain_of most_classes
all_below = refl

raised_there : (raised : Raised) → IsSome (class_at (metered_program []) (raised_class raised))
unfolding metered_program
raised_there raises.Arithmetic = refl
raised_there raises.ArrayIndexOutOfBounds = refl
raised_there raises.ArrayStore = refl
raised_there raises.ClassCast = refl
raised_there raises.NegativeArraySize = refl
raised_there raises.NullPointer = refl
raised_there raises.StringIndexOutOfBounds = refl

-- the library's classes are such
library_has_base : HasBase (metered_program [])
unfolding metered_program
library_has_base = record {
  object = library_has_object;
  below = λ c there. all_at (λ (c : Class). is_among (chain (metered_program []) c.name) (object_name [])) (metered_program []) c all_below there;
  raised = raised_there;
  string = refl;
}

no_base : HasBase [] → ⊥
no_base base = absurd (none-some base.object.object base.object.there)

-- a class with nothing above it
abbrev lone_class : Class
lone_class = record (class_with (codes "A") [] []) { superclass = None }

lone_beside : HasBase (lone_class ∷ metered_program []) → ⊥
unfolding metered_program chain_of most_classes
lone_beside base = absurd (let no : false ≡ true = base.below lone_class (zero, omega arith, refl) in cc)

-- ---- whole runs

abbrev short_class : Class
short_class = a_with (verify_with (Load kinds.Ref 0 ∷ Return (Some kinds.Ref) ∷ []) [] ∷ [])

-- each instruction takes a turn that pays and one that acts
acts_of_turns : map (acts (metered_program (short_class ∷ [])) entry (1 ∷ []) usual) (0 ∷ 1 ∷ 2 ∷ 3 ∷ 4 ∷ 9 ∷ []) ≡ 0 ∷ 0 ∷ 1 ∷ 1 ∷ 2 ∷ 2 ∷ []
unfolding int_wrap digits instruction_of simple code_of has_initialiser most_classes chain_of interfaces_from interfaces_above is_subclass is_subtype field_order resolve_method resolve_field select special_method field_count place_of static_place metered_program compute convert moved on_values load_element store_element array_length make_array charge_one charge_all answer host_answer perform native with_literal invoke effect pays used_class is_initialised mark with_constants constants_of initialise unwound settle step begin amounts turn turns metered_run steps plain_run acts_from rewritten rewritten_code in_groups groups_of start cut
acts_of_turns = refl

abbrev plainly : List Class → Thresholds → Option Report
plainly classes most = plain_run (rewritten (metered_program classes)) sandbox_prefix (plain_terms most) (declared_map in_sandbox entry) [] [] 100

abbrev ends_so : Outcome → Costs → ℕ → Option Report
ends_so outcome c n = Some (record { outcome = outcome; costs = c; steps = n; taken = 0 })

-- as the metered run of the same classes; the object that stops the run is caught and thrown again at each handler
stopped_plainly : plainly (stopped_class ∷ []) (at_most 67108864 1000000 2 1000000) ≡ ends_so (outcomes.Stopped charges.Jump) (costs 0 1 3 0) 11
unfolding int_wrap digits instruction_of simple code_of has_initialiser most_classes chain_of interfaces_from interfaces_above is_subclass is_subtype field_order resolve_method resolve_field select special_method field_count place_of static_place metered_program compute convert moved on_values load_element store_element array_length make_array charge_one charge_all answer host_answer perform native with_literal invoke effect pays used_class is_initialised mark with_constants constants_of initialise unwound settle step begin amounts turn turns metered_run steps plain_run acts_from rewritten rewritten_code in_groups groups_of start cut
stopped_plainly = refl

-- a handler charges however the run gets there
thrown_plainly : plainly (again_class ∷ []) (at_most 67108864 1000000 1000000 5) ≡ ends_so (outcomes.Stopped charges.Throw) (costs 0 0 0 6) 34
unfolding int_wrap digits instruction_of simple code_of has_initialiser most_classes chain_of interfaces_from interfaces_above is_subclass is_subtype field_order resolve_method resolve_field select special_method field_count place_of static_place metered_program compute convert moved on_values load_element store_element array_length make_array charge_one charge_all answer host_answer perform native with_literal invoke effect pays used_class is_initialised mark with_constants constants_of initialise unwound settle step begin amounts turn turns metered_run steps plain_run acts_from rewritten rewritten_code in_groups groups_of start cut
thrown_plainly = refl

not_stands : Stands [] usual (record nothing_yet { frames = [] }) → ⊥
not_stands stands = stands.standing

-- fourteen turns without an act would be too many steps
too_many_turns : (s : State) → RunFollows [] usual entry [] 14 0 (Underway s) → ⊥
too_many_turns s (touched, j, turned, stepped, at, stands) = absurd (omega (arith, turned, stepped))

spent : IsNotSpent (outcomes.OutOfSteps 5) → ⊥
spent k = k

not_spent : IsNotSpent outcomes.OkNull
not_spent = tt

no_room : IsNotFull (outcomes.HeapFull 80 24) → ⊥
no_room k = k

some_room : IsNotFull (outcomes.OutOfSteps 5)
some_room = tt
