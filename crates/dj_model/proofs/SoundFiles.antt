-- Sound programs of files whose code has longs, arrays, fields, calls, switches, texts and natives, one of which asks the host.
use Rattle.std.proofs.Common.{◌≡◌, ℕ, true, false, pos, List, [], ◌∷◌, Some, None, Option, codes, refl}
use Rattle.std.specs.Prelude.{IsSome, ◌⊎◌}
use Rattle.std.specs.Int.{int_wrap}
use Rattle.std.specs.Fmt.{digits}
use Rattle.dj_names.specs.declared.descriptor.Kind.TheVariants as kinds
use Rattle.dj_names.specs.declared.descriptor.Ty.{Ty}
use Rattle.dj_names.specs.declared.run.Outcome.TheVariants as outcomes
use Rattle.dj_names.specs.declared.run.Thresholds.{Thresholds}
use Rattle.dj_names.specs.trusted.Types.{class_type}
use Rattle.dj_names.specs.trusted.Library.{object, string, int, long}
use Rattle.dj_edge.specs.declared.host.HostAnswer.{HostAnswer}
use Rattle.dj_edge.specs.declared.host.HostAnswer.TheVariants as host
use Rattle.dj_ops.specs.declared.instruction.Instr.TheVariants as instrs
use Rattle.dj_ops.specs.declared.frames.VType.{VType}
use Rattle.dj_ops.specs.declared.frames.VType.TheVariants as types
use Rattle.dj_ops.specs.declared.frames.Form.{Form}
use Rattle.dj_ops.specs.declared.frames.Form.TheVariants as forms
use Rattle.dj_ops.specs.declared.frames.Frame.{Frame}
use Rattle.dj_model.specs.trusted.Instructions.{Instruction, Nothing, AText}
use Rattle.dj_model.specs.trusted.Opcodes.{instruction_of, simple}
use Rattle.dj_model.specs.trusted.Program.{Class, Method, Body, Abstract, Runs, Range, Long, code_of, has_initialiser}
use Rattle.dj_model.specs.trusted.Linking.{most_classes, chain_of, interfaces_from, interfaces_above, is_subclass, is_subtype, field_order, resolve_method, resolve_field, select, special_method, field_count, place_of, static_place}
use Rattle.dj_model.specs.Libraries.{metered_program, raw_program, sandbox_program}
use Rattle.dj_model.specs.NativeKinds.{native_signature}
use Rattle.dj_model.specs.trusted.Numbers.{compute, convert}
use Rattle.dj_model.specs.trusted.Values.{moved, on_values}
use Rattle.dj_model.specs.trusted.Arrays.{load_element, store_element, array_length, make_array}
use Rattle.dj_model.specs.trusted.Charging.{charge_one}
use Rattle.dj_model.specs.Charging.{charge_all}
use Rattle.dj_model.specs.trusted.Natives.{answer, host_answer}
use Rattle.dj_model.specs.trusted.Performing.{perform, native}
use Rattle.dj_model.specs.trusted.Members.{with_literal, invoke}
use Rattle.dj_model.specs.trusted.Effects.{effect, used_class}
use Rattle.dj_model.specs.Effects.{pays}
use Rattle.dj_model.specs.trusted.Initialisation.{is_initialised, mark, with_constants, constants_of, initialise}
use Rattle.dj_model.specs.trusted.Step.{unwound, settle, step}
use Rattle.dj_model.specs.trusted.Kinds.{frames_after}
use Rattle.dj_model.specs.trusted.Shape.{after, state_before}
use Rattle.dj_model.specs.Sound.{IsSound, is_linked}
use Rattle.dj_model.specs.Standing.{RunStands, IsEntry, Starves}
use Rattle.dj_model.specs.trusted.State.{Terms, Uncounted}
use Rattle.dj_model.specs.trusted.Runs.{Report, begin, steps, plain_run}
use Rattle.dj_model.specs.Runs.{RunEnds, amounts, turn, turns, metered_run}
use Rattle.dj_model.specs.SmallRuns.{op, constant, jump, newarray, class, field, method, interface_method, construct, a_class, a_type, method_with, plain_constructor, class_with, field_with, catch, byte_array, entry, costs, usual, lang_name}
use Rattle.dj_model.proofs.SoundPrograms.{sound_test, sound_from}
use Rattle.dj_model.proofs.SoundRuns.{metered_stands, plain_stands}
use Rattle.dj_model.proofs.QuietLibraries.{quiet_all, to_asks, metered_asks_nothing}
use Rattle.dj_ops.specs.Mnemonics.{aconst_null, iconst_1, iconst_2, lconst_1, iload_0, iload_1, aload_0, aload_2, istore_1, lstore_3, astore_2, pop, pop2, dup, iadd, ladd, ifne, goto, ireturn, areturn, return, getstatic, putstatic, getfield, putfield, invokevirtual, invokestatic, new, arraylength, athrow}

abbrev frame : ℕ → Form → Frame
frame at form = record { at = at; form = form }

abbrev body : List Instruction → List Range → List Frame → Body
body instructions ranges frames = Runs (record { max_stack = 6; max_locals = 6; instructions = instructions; ranges = ranges; frames = Some frames })

abbrev b_type : Ty
b_type = class_type (codes "B")

abbrev c_type : Ty
c_type = class_type (codes "C")

abbrev i_type : Ty
i_type = class_type (codes "I")

abbrev error : Ty
error = class_type (lang_name (codes "Error"))

abbrev reported : List VType
reported = types.Object 1 ∷ types.Integer ∷ types.Object 1 ∷ types.Long ∷ []

-- a text's length is kept in a field of a C, two calls give it, and their sum goes through k; 1 returns an array of two bytes, 2 does so after
-- another look at the input, and else an Error with a text or null is thrown, caught at 37, and the input returned
abbrev verify_code : List Instruction
verify_code =
    constant (AText (codes "ab")) ∷ method invokevirtual string (codes "length") [] (Some int) ∷ op istore_1
    ∷ class new c_type ∷ op dup ∷ construct c_type [] ∷ op astore_2 ∷ op aload_2 ∷ op iload_1 ∷ field putfield b_type (codes "f") int
    ∷ op lconst_1 ∷ field getstatic c_type (codes "n") long ∷ op ladd ∷ op lstore_3
    ∷ op aload_2 ∷ interface_method 1 i_type (codes "m") [] (Some int) ∷ op aload_2 ∷ method invokevirtual b_type (codes "m") [] (Some int) ∷ op iadd ∷ method invokestatic a_type (codes "k") (int ∷ []) (Some int)
    ∷ instruction_of (instrs.Table (pos 1) (pos 28) (pos 21 ∷ pos 24 ∷ [])) Nothing
    ∷ op iconst_2 ∷ newarray 8 ∷ op areturn
    ∷ op aload_0 ∷ op arraylength ∷ op istore_1 ∷ jump goto 21
    ∷ class new error ∷ op dup ∷ op iload_1 ∷ jump ifne 34 ∷ op aconst_null ∷ jump goto 35 ∷ constant (AText (codes "x")) ∷ construct error (string ∷ []) ∷ op athrow
    ∷ op pop ∷ op aload_0 ∷ op areturn ∷ []

abbrev verify_frames : List Frame
verify_frames =
    frame 21 (forms.Append (types.Integer ∷ types.Object 1 ∷ types.Long ∷ [])) ∷ frame 24 forms.Same ∷ frame 28 forms.Same
    ∷ frame 34 (forms.Full reported (types.Uninitialized 28 ∷ types.Uninitialized 28 ∷ []))
    ∷ frame 35 (forms.Full reported (types.Uninitialized 28 ∷ types.Uninitialized 28 ∷ types.Object 1 ∷ []))
    ∷ frame 37 (forms.Full (types.Object 1 ∷ []) (types.Object 1 ∷ [])) ∷ []

-- 7 gives 1, and every other int 2, which goes through a static field
abbrev k_method : Method
k_method = method_with 9 (codes "k") (int ∷ []) (Some int) (body
    (op iload_0 ∷ instruction_of (instrs.Lookup (pos 4) ((pos 7, pos 2) ∷ [])) Nothing ∷ op iconst_1 ∷ op ireturn ∷ op iconst_2 ∷ field putstatic a_type (codes "t") int ∷ field getstatic a_type (codes "t") int ∷ op ireturn ∷ [])
    [] (frame 2 forms.Same ∷ frame 4 forms.Same ∷ []))

abbrev verify_method : Method
verify_method = method_with 9 (codes "verify") (byte_array ∷ []) (Some byte_array) (body verify_code (catch (lang_name (codes "Error")) 28 37 37 ∷ []) verify_frames)

abbrev files : List Class
files =
    class_with a_class (field_with 8 (codes "t") int None ∷ []) (verify_method ∷ k_method ∷ [])
    ∷ class_with (codes "B") (field_with 0 (codes "f") int None ∷ []) (plain_constructor ∷ method_with 1 (codes "m") [] (Some int) (body (op aload_0 ∷ field getfield b_type (codes "f") int ∷ op ireturn ∷ []) [] []) ∷ [])
    ∷ record (class_with (codes "C") (field_with 8 (codes "n") long (Some (Long (pos 5))) ∷ []) (method_with 1 (codes "<init>") [] None (body (op aload_0 ∷ construct b_type [] ∷ op return ∷ []) [] []) ∷ []))
    { superclass = Some (codes "B"); interfaces = codes "I" ∷ [] }
    ∷ record (class_with (codes "I") [] (method_with 1025 (codes "m") [] (Some int) Abstract ∷ [])) { flags = 1537 } ∷ []

sound_files : sound_test (metered_program files) [] ≡ true
unfolding metered_program native_signature most_classes chain_of interfaces_from interfaces_above field_order resolve_method resolve_field is_linked instruction_of simple moved frames_after after state_before
sound_files = refl

sound_program : IsSound (metered_program files) []
sound_program = sound_from (metered_program files) [] sound_files

entry_is : IsEntry (metered_program files) entry
unfolding metered_program
entry_is = record {
  method = verify_method;
  there = refl;
  code = _;
  body = refl;
  signature = record { parameters = kinds.Ref ∷ []; result = Some kinds.Ref };
  described = refl;
  takes = refl;
}

-- whatever the input, the thresholds and the number of turns are
runs_on : (input : List ℕ) (most : Thresholds) (n : ℕ) → RunStands (metered_program files) (metered_run (metered_program files) entry input most n)
runs_on input most n =
    metered_stands (metered_program files) sound_program (metered_asks_nothing files (to_asks files (quiet_all files refl))) entry input most n entry_is

runs_once : metered_run (metered_program files) entry (1 ∷ []) usual 200 ≡ RunEnds (outcomes.OkBytes (0 ∷ 0 ∷ [])) (costs 48 7 3 0)
unfolding int_wrap digits instruction_of simple code_of has_initialiser most_classes chain_of interfaces_from interfaces_above is_subclass is_subtype field_order resolve_method resolve_field select special_method field_count place_of static_place metered_program raw_program sandbox_program compute convert moved on_values load_element store_element array_length make_array charge_one charge_all answer host_answer perform native with_literal invoke effect pays used_class is_initialised mark with_constants constants_of initialise unwound settle step begin amounts turn turns metered_run steps plain_run
runs_once = refl

-- ---- a sound program that asks the host for a word and for the time

abbrev asking_method : Method
asking_method = method_with 9 (codes "verify") (byte_array ∷ []) (Some byte_array) (body
    (op aload_0 ∷ method invokevirtual object (codes "hashCode") [] (Some int) ∷ op pop ∷ method invokestatic (class_type (lang_name (codes "System"))) (codes "nanoTime") [] (Some long) ∷ op pop2 ∷ op aload_0 ∷ op areturn ∷ []) [] [])

abbrev asking : List Class
asking = class_with a_class [] (asking_method ∷ []) ∷ []

sound_asking : sound_test (raw_program asking) [] ≡ true
unfolding raw_program native_signature most_classes chain_of interfaces_from interfaces_above field_order resolve_method resolve_field is_linked instruction_of simple moved frames_after after state_before
sound_asking = refl

asking_is_sound : IsSound (raw_program asking) []
asking_is_sound = sound_from (raw_program asking) [] sound_asking

-- of the deterministic library it isn't sound: there are no clocks
unsound_asking : sound_test (metered_program asking) [] ≡ false
unfolding metered_program native_signature most_classes chain_of interfaces_from interfaces_above field_order resolve_method resolve_field is_linked instruction_of simple moved frames_after after state_before
unsound_asking = refl

entry_of_asking : IsEntry (raw_program asking) entry
unfolding raw_program
entry_of_asking = record {
  method = asking_method;
  there = refl;
  code = _;
  body = refl;
  signature = record { parameters = kinds.Ref ∷ []; result = Some kinds.Ref };
  described = refl;
  takes = refl;
}

-- whatever the host answers, a plain run reports how it ended, or it comes to where an answer is missing
ends_or_starves : (terms : Terms) (input : List ℕ) (answers : List HostAnswer) (most : ℕ)
    → IsSome (plain_run (raw_program asking) [] terms entry input answers most) ⊎ Starves (raw_program asking) [] terms entry input answers most
ends_or_starves terms input answers most = plain_stands (raw_program asking) [] asking_is_sound terms entry input answers most entry_of_asking

abbrev asked : List HostAnswer → Option Report
asked answers = plain_run (raw_program asking) [] (record { limit = None; counting = Uncounted }) entry (1 ∷ []) answers 100

answers_taken : asked (host.Word (pos 7) ∷ host.Nanos (pos 9) ∷ host.Word (pos 1) ∷ []) ∷ asked (host.Word (pos 7) ∷ []) ∷ asked [] ∷ asked (host.Nanos (pos 9) ∷ host.Word (pos 7) ∷ []) ∷ []
    ≡ Some (record { outcome = outcomes.OkBytes (1 ∷ []); costs = costs 0 0 0 0; steps = 7; taken = 2 }) ∷ None ∷ None ∷ None ∷ []
unfolding int_wrap digits instruction_of simple code_of has_initialiser most_classes chain_of interfaces_from interfaces_above is_subclass is_subtype field_order resolve_method resolve_field select special_method field_count place_of static_place metered_program raw_program sandbox_program compute convert moved on_values load_element store_element array_length make_array charge_one charge_all answer host_answer perform native with_literal invoke effect pays used_class is_initialised mark with_constants constants_of initialise unwound settle step begin amounts turn turns metered_run steps plain_run
answers_taken = refl
