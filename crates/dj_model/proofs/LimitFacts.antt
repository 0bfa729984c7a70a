-- Whole runs at the limits: the heap's bytes, the frames, and the handlers that are arrived at.
use Rattle.std.proofs.Common.{◌≡◌, ℕ, false, List, [], ◌∷◌, ◌++◌, map, length, replicate, Option, Some, None, codes, refl, pos}
use Rattle.dj_names.specs.declared.descriptor.Ty.{Ty}
use Rattle.dj_names.specs.declared.run.Charge.TheVariants as charges
use Rattle.dj_names.specs.declared.run.Outcome.{Outcome}
use Rattle.dj_names.specs.declared.run.Outcome.TheVariants as outcomes
use Rattle.dj_names.specs.trusted.Types.{Name, class_type, array_type}
use Rattle.dj_names.specs.Types.{sandbox_prefix, in_sandbox}
use Rattle.dj_names.specs.trusted.Library.{string, builder, char, int}
use Rattle.dj_model.specs.trusted.Instructions.{Instruction, AText}
use Rattle.dj_model.specs.trusted.Program.{Program, Class, Method, Constant, Text, code_of, has_initialiser, Long}
use Rattle.dj_model.specs.trusted.State.{State, Uncounted, Accounted}
use Rattle.dj_model.specs.SmallRuns.{op, constant, jump, class, field, method, construct, entry, verify_of, verify_with, initialiser_with, class_with, a_with, field_with, catch_all, catch, costs, at_most, usual, lang_name}
use Rattle.std.specs.Int.{int_wrap}
use Rattle.std.specs.Fmt.{digits}
use Rattle.dj_model.specs.trusted.Opcodes.{instruction_of, simple}
use Rattle.dj_model.specs.trusted.Linking.{most_classes, chain_of, interfaces_from, interfaces_above, is_subclass, is_subtype, field_order, resolve_method, resolve_field, select, special_method, field_count, place_of, static_place}
use Rattle.dj_model.specs.Libraries.{metered_program, raw_program, sandbox_program}
use Rattle.dj_model.specs.trusted.Numbers.{compute, convert}
use Rattle.dj_model.specs.trusted.Values.{moved, on_values}
use Rattle.dj_model.specs.trusted.Arrays.{load_element, store_element, array_length, make_array}
use Rattle.dj_model.specs.trusted.Charging.{charge_one}
use Rattle.dj_model.specs.Charging.{charge_all}
use Rattle.dj_model.specs.trusted.Natives.{answer, host_answer}
use Rattle.dj_model.specs.trusted.Performing.{perform, native}
use Rattle.dj_model.specs.trusted.Members.{with_literal, invoke}
use Rattle.dj_model.specs.trusted.Effects.{effect, used_class}
use Rattle.dj_model.specs.Effects.{pays}
use Rattle.dj_model.specs.trusted.Initialisation.{Initialised, Ready, Waits, Fails, is_initialised, mark, with_constants, constants_of, initialise, with_constant}
use Rattle.dj_model.specs.trusted.Step.{unwound, settle, step}
use Rattle.dj_model.specs.trusted.Runs.{Report, empty_heap, start_state, begin, steps, plain_run}
use Rattle.dj_model.specs.Runs.{Run, RunEnds, metered_terms, amounts, turn, turns, metered_run}
use Rattle.dj_ops.specs.Mnemonics.{nop, aconst_null, iconst_4, aload_0, pop, dup, goto, areturn, return, getstatic, invokevirtual, invokestatic, new, arraylength}

-- a plain run of verify with this many bytes of heap, of which the input takes 24
abbrev limited : ℕ → List Class → Option Report
limited limit classes = plain_run (raw_program classes) [] (record { limit = Some limit; counting = Uncounted }) entry (1 ∷ 2 ∷ []) [] 100

abbrev ran : Outcome → ℕ → Option Report
ran outcome n = Some (record { outcome = outcome; costs = costs 0 0 0 0; steps = n; taken = 0 })

abbrev both_bytes : Outcome
both_bytes = outcomes.OkBytes (1 ∷ 2 ∷ [])

-- ---- texts of static fields

abbrev texts_class : Name → List Method → Class
texts_class name methods =
    class_with name (field_with 24 (codes "s") string (Some (Text (codes "abcde"))) ∷ field_with 24 (codes "t") string (Some (Text (codes "abcde"))) ∷ field_with 24 (codes "u") string (Some (Text (codes "x"))) ∷ []) methods

-- K is initialised on the way, with a text of 32 bytes, the same again, and one of 24
abbrev with_texts : ℕ → Option Report
with_texts limit = limited limit (a_with (verify_with (field getstatic (class_type (codes "K")) (codes "u") string ∷ op pop ∷ op aload_0 ∷ op areturn ∷ []) [] ∷ []) ∷ texts_class (codes "K") [] ∷ [])

texts_fit : map with_texts (80 ∷ 79 ∷ 56 ∷ 55 ∷ 24 ∷ [])
    ≡ ran both_bytes 4 ∷ ran (outcomes.HeapFull 56 24) 1 ∷ ran (outcomes.HeapFull 56 24) 1 ∷ ran (outcomes.HeapFull 24 32) 1 ∷ ran (outcomes.HeapFull 24 32) 1 ∷ []
unfolding int_wrap digits instruction_of simple code_of has_initialiser most_classes chain_of interfaces_from interfaces_above is_subclass is_subtype field_order resolve_method resolve_field select special_method field_count place_of static_place metered_program raw_program sandbox_program compute convert moved on_values load_element store_element array_length make_array charge_one charge_all answer host_answer perform native with_literal invoke effect pays used_class is_initialised mark with_constants constants_of initialise unwound settle step begin amounts turn turns metered_run steps plain_run
texts_fit = refl

-- the class of the entry is initialised before the first step
abbrev begins_with_texts : ℕ → Option Report
begins_with_texts limit = limited limit (texts_class (codes "A") (verify_with (op aload_0 ∷ op areturn ∷ []) [] ∷ []) ∷ [])

first_texts_fit : map begins_with_texts (80 ∷ 79 ∷ 56 ∷ 55 ∷ 24 ∷ 23 ∷ [])
    ≡ ran both_bytes 2 ∷ ran (outcomes.HeapFull 56 24) 0 ∷ ran (outcomes.HeapFull 56 24) 0 ∷ ran (outcomes.HeapFull 24 32) 0 ∷ ran (outcomes.HeapFull 24 32) 0 ∷ ran (outcomes.HeapFull 0 24) 0 ∷ []
unfolding int_wrap digits instruction_of simple code_of has_initialiser most_classes chain_of interfaces_from interfaces_above is_subclass is_subtype field_order resolve_method resolve_field select special_method field_count place_of static_place metered_program raw_program sandbox_program compute convert moved on_values load_element store_element array_length make_array charge_one charge_all answer host_answer perform native with_literal invoke effect pays used_class is_initialised mark with_constants constants_of initialise unwound settle step begin amounts turn turns metered_run steps plain_run
first_texts_fit = refl

-- ---- objects that native methods make

abbrev limited_code : List Instruction → ℕ → Option Report
limited_code instructions limit = limited limit (a_with (verify_with (instructions ++ op pop ∷ op aload_0 ∷ op areturn ∷ []) [] ∷ []) ∷ [])

abbrev value_text : List Instruction
value_text = op iconst_4 ∷ method invokestatic string (codes "valueOf") (int ∷ []) (Some string) ∷ []

abbrev text_chars : List Instruction
text_chars = constant (AText (codes "abcde")) ∷ method invokevirtual string (codes "toCharArray") [] (Some (array_type char)) ∷ []

abbrev built_text : List Instruction
built_text = class new builder ∷ op dup ∷ construct builder [] ∷ op iconst_4 ∷ method invokevirtual builder (codes "append") (int ∷ []) (Some builder) ∷ []

natives_fit : map (limited_code value_text) (48 ∷ 47 ∷ []) ∷ map (limited_code text_chars) (88 ∷ 87 ∷ []) ∷ map (limited_code built_text) (72 ∷ 71 ∷ []) ∷ []
    ≡ (ran both_bytes 5 ∷ ran (outcomes.HeapFull 24 24) 2 ∷ []) ∷ (ran both_bytes 5 ∷ ran (outcomes.HeapFull 56 32) 2 ∷ []) ∷ (ran both_bytes 8 ∷ ran (outcomes.HeapFull 48 24) 5 ∷ []) ∷ []
unfolding int_wrap digits instruction_of simple code_of has_initialiser most_classes chain_of interfaces_from interfaces_above is_subclass is_subtype field_order resolve_method resolve_field select special_method field_count place_of static_place metered_program raw_program sandbox_program compute convert moved on_values load_element store_element array_length make_array charge_one charge_all answer host_answer perform native with_literal invoke effect pays used_class is_initialised mark with_constants constants_of initialise unwound settle step begin amounts turn turns metered_run steps plain_run
natives_fit = refl

-- beside the accounter a native method's charge comes before its object, and stays where that doesn't fit
abbrev s_string : Ty
s_string = class_type (in_sandbox (lang_name (codes "String")))

abbrev s_class : Class
s_class = record (class_with (in_sandbox (codes "A")) [] (verify_with (op iconst_4 ∷ method invokestatic s_string (codes "valueOf") (int ∷ []) (Some s_string) ∷ op pop ∷ op aload_0 ∷ op areturn ∷ []) [] ∷ []))
    { superclass = Some (in_sandbox (lang_name (codes "Object"))) }

abbrev accounted : ℕ → ℕ → Option Report
accounted alloc limit =
    plain_run (sandbox_program (s_class ∷ [])) sandbox_prefix (record { limit = Some limit; counting = Accounted (at_most alloc 9 9 9) }) (verify_of (in_sandbox (codes "A"))) (1 ∷ 2 ∷ []) [] 100

abbrev charged : Outcome → ℕ → Option Report
charged outcome n = Some (record { outcome = outcome; costs = costs 24 0 0 0; steps = n; taken = 0 })

charged_before : accounted 24 48 ∷ accounted 24 47 ∷ accounted 23 48 ∷ accounted 23 47 ∷ accounted 23 40 ∷ accounted 23 39 ∷ []
    ≡ charged both_bytes 5 ∷ charged (outcomes.HeapFull 24 24) 2 ∷ charged (outcomes.Stopped charges.Alloc) 2 ∷ charged (outcomes.Stopped charges.Alloc) 2 ∷ charged (outcomes.Stopped charges.Alloc) 2 ∷ charged (outcomes.HeapFull 24 16) 2 ∷ []
unfolding int_wrap digits instruction_of simple code_of has_initialiser most_classes chain_of interfaces_from interfaces_above is_subclass is_subtype field_order resolve_method resolve_field select special_method field_count place_of static_place metered_program raw_program sandbox_program compute convert moved on_values load_element store_element array_length make_array charge_one charge_all answer host_answer perform native with_literal invoke effect pays used_class is_initialised mark with_constants constants_of initialise unwound settle step begin amounts turn turns metered_run steps plain_run
charged_before = refl

-- ---- frames of initialisers

-- T, and U below it, each with an initialiser, and V without one
abbrev with_initialisers : Program
with_initialisers = metered_program (class_with (codes "T") [] (initialiser_with (op return ∷ []) ∷ [])
    ∷ record (class_with (codes "U") [] (initialiser_with (op return ∷ []) ∷ [])) { superclass = Some (codes "T") }
    ∷ class_with (codes "V") [] [] ∷ [])

-- this many frames, and no class initialised
abbrev with_frames : ℕ → State
with_frames n = record (start_state with_initialisers entry empty_heap []) { frames = replicate n (record { method = entry; number = 0; locals = []; operands = []; paid = false }) }

-- how many frames there are then, and whether the run has ended
abbrev frames_then : Initialised → Option Outcome × ℕ
frames_then (Ready s) = (None, length s.frames)
frames_then (Waits s) = (None, length s.frames)
frames_then (Fails outcome s) = (Some outcome, length s.frames)

abbrev initialising : Name → ℕ → Option Outcome × ℕ
initialising name n = frames_then (initialise with_initialisers [] (metered_terms usual) name (with_frames n))

-- an initialiser's frame may be the 1,024th, and no later one; U's initialiser stands below T's
last_frames : map (initialising (codes "T")) (1022 ∷ 1023 ∷ 1024 ∷ []) ∷ map (initialising (codes "U")) (1021 ∷ 1022 ∷ 1023 ∷ []) ∷ map (initialising (codes "V")) (1023 ∷ 1024 ∷ []) ∷ []
    ≡ ((None, 1023) ∷ (None, 1024) ∷ (Some outcomes.TooDeep, 1024) ∷ []) ∷ ((None, 1023) ∷ (None, 1024) ∷ (Some outcomes.TooDeep, 1023) ∷ []) ∷ ((None, 1023) ∷ (None, 1024) ∷ []) ∷ []
unfolding code_of has_initialiser most_classes chain_of metered_program is_initialised mark with_constants constants_of initialise
last_frames = refl

-- ---- arrivals at handlers

-- two ranges with handlers of their own, 5 and 8
abbrev two_handlers : List Instruction → Run
two_handlers first = metered_run (metered_program (a_with (verify_with
    (first ++ op pop ∷ op aload_0 ∷ op areturn ∷ op pop ∷ op aconst_null ∷ op areturn ∷ op pop ∷ op aload_0 ∷ op areturn ∷ []) (catch (lang_name (codes "Error")) 0 2 5 ∷ catch_all 0 2 8 ∷ []) ∷ []) ∷ [])) entry (1 ∷ 2 ∷ []) usual 100

arrivals : two_handlers (op aconst_null ∷ op arraylength ∷ []) ∷ two_handlers (op aconst_null ∷ jump goto 8 ∷ []) ∷ two_handlers (op aconst_null ∷ jump goto 5 ∷ []) ∷ two_handlers (op aconst_null ∷ jump goto 6 ∷ []) ∷ two_handlers (op aconst_null ∷ jump goto 9 ∷ []) ∷ two_handlers (op aconst_null ∷ op nop ∷ []) ∷ []
    ≡ RunEnds both_bytes (costs 0 0 0 1) ∷ RunEnds both_bytes (costs 0 0 1 1) ∷ RunEnds outcomes.OkNull (costs 0 0 1 1) ∷ RunEnds outcomes.OkNull (costs 0 0 1 0) ∷ RunEnds both_bytes (costs 0 0 1 0) ∷ RunEnds both_bytes (costs 0 0 0 0) ∷ []
unfolding int_wrap digits instruction_of simple code_of has_initialiser most_classes chain_of interfaces_from interfaces_above is_subclass is_subtype field_order resolve_method resolve_field select special_method field_count place_of static_place metered_program raw_program sandbox_program compute convert moved on_values load_element store_element array_length make_array charge_one charge_all answer host_answer perform native with_literal invoke effect pays used_class is_initialised mark with_constants constants_of initialise unwound settle step begin amounts turn turns metered_run steps plain_run
arrivals = refl

-- ---- runs that are out of steps

abbrev after_steps : ℕ → Option Report
after_steps most =
    plain_run (sandbox_program (s_class ∷ [])) sandbox_prefix (record { limit = Some 100; counting = Accounted (at_most 99 9 9 9) }) (verify_of (in_sandbox (codes "A"))) (1 ∷ 2 ∷ []) [] most

abbrev out_of : ℕ → ℕ → Option Report
out_of n alloc = Some (record { outcome = outcomes.OutOfSteps n; costs = costs alloc 0 0 0; steps = n; taken = 0 })

-- the costs up to there are reported
costs_so_far : map after_steps (1 ∷ 3 ∷ []) ≡ out_of 1 0 ∷ out_of 3 24 ∷ []
unfolding int_wrap digits instruction_of simple code_of has_initialiser most_classes chain_of interfaces_from interfaces_above is_subclass is_subtype field_order resolve_method resolve_field select special_method field_count place_of static_place metered_program raw_program sandbox_program compute convert moved on_values load_element store_element array_length make_array charge_one charge_all answer host_answer perform native with_literal invoke effect pays used_class is_initialised mark with_constants constants_of initialise unwound settle step begin amounts turn turns metered_run steps plain_run
costs_so_far = refl

-- ---- constants of static fields

abbrev statics_then : Initialised → Option (List ℕ)
statics_then (Ready s) = Some s.statics
statics_then (Waits s) = None
statics_then (Fails outcome s) = None

-- a long keeps all of its 64 bits, and without a constant the field stays
long_constants : map (λ (c : Option Constant). statics_then (with_constant [] (metered_terms usual) (record (with_frames 0) { statics = 7 ∷ [] }) 0 c)) (Some (Long (pos 4294967305)) ∷ None ∷ [])
    ≡ Some (4294967305 ∷ []) ∷ Some (7 ∷ []) ∷ []
long_constants = refl
