-- Whole runs: each exception, each reference of a wrong class, calls, fields, initialisers and handlers.
use Rattle.std.proofs.Common.{◌≡◌, pos, negsuc, ℕ, List, [], ◌∷◌, ◌++◌, Some, None, codes, refl}
use Rattle.std.specs.Int.{int_wrap}
use Rattle.std.specs.Fmt.{digits}
use Rattle.dj_names.specs.declared.descriptor.Base.TheVariants as bases
use Rattle.dj_names.specs.declared.descriptor.Ty.{Ty}
use Rattle.dj_names.specs.declared.run.Message.TheVariants as messages
use Rattle.dj_names.specs.declared.run.Outcome.{Outcome}
use Rattle.dj_names.specs.declared.run.Outcome.TheVariants as outcomes
use Rattle.dj_names.specs.trusted.Types.{Name, class_type, base_array}
use Rattle.dj_names.specs.trusted.Library.{object, string, boolean, char, int, long}
use Rattle.dj_model.specs.trusted.Instructions.{Instruction, ALong, AText}
use Rattle.dj_model.specs.trusted.Opcodes.{instruction_of, simple}
use Rattle.dj_model.specs.trusted.Program.{Class, Method, code_of, has_initialiser}
use Rattle.dj_model.specs.trusted.Linking.{most_classes, chain_of, interfaces_from, interfaces_above, is_subclass, is_subtype, field_order, resolve_method, resolve_field, select, special_method, field_count, place_of, static_place}
use Rattle.dj_model.specs.Libraries.{metered_program, raw_program, sandbox_program}
use Rattle.dj_model.specs.trusted.Numbers.{compute, convert}
use Rattle.dj_model.specs.trusted.Values.{moved, on_values}
use Rattle.dj_model.specs.trusted.Arrays.{load_element, store_element, array_length, make_array}
use Rattle.dj_model.specs.trusted.Charging.{charge_one}
use Rattle.dj_model.specs.Charging.{charge_all}
use Rattle.dj_model.specs.trusted.Natives.{answer, host_answer}
use Rattle.dj_model.specs.trusted.Performing.{perform, native}
use Rattle.dj_model.specs.trusted.Members.{with_literal, invoke}
use Rattle.dj_model.specs.trusted.Effects.{effect, used_class}
use Rattle.dj_model.specs.Effects.{pays}
use Rattle.dj_model.specs.trusted.Initialisation.{is_initialised, mark, with_constants, constants_of, initialise}
use Rattle.dj_model.specs.trusted.Step.{unwound, settle, step}
use Rattle.dj_model.specs.trusted.Runs.{begin, steps, plain_run}
use Rattle.dj_model.specs.Runs.{Run, RunEnds, Stuck, amounts, turn, turns, metered_run}
use Rattle.dj_model.specs.SmallRuns.{op, push, constant, newarray, class, field, method, interface_method, construct, byte_array, entry, verify_with, plain_constructor, class_with, a_with, field_with, costs, usual, lang_name, throws_plainly}
use Rattle.dj_ops.specs.Mnemonics.{aconst_null, iconst_m1, iconst_0, iconst_1, iconst_2, iconst_3, iconst_4, iconst_5, lconst_0, lconst_1, bipush, sipush, aload_0, iaload, laload, aaload, baload, caload, saload, iastore, lastore, aastore, bastore, castore, sastore, pop, pop2, dup, idiv, ldiv, irem, lrem, ishr, l2i, areturn, getstatic, putstatic, getfield, putfield, invokevirtual, new, anewarray, arraylength, athrow, checkcast, instanceof}

-- how the run of A's verify ends, after a hundred turns at most
abbrev runs : List Class → List ℕ → Run
runs classes input = metered_run (metered_program classes) entry input usual 100

-- verify is this code, beside other methods and classes
abbrev of_code : List Instruction → Run
of_code instructions = runs (a_with (verify_with instructions [] ∷ []) ∷ []) (1 ∷ 2 ∷ [])

abbrev with_methods : List Method → List Class → List Instruction → Run
with_methods methods classes instructions = runs (a_with (verify_with instructions [] ∷ methods) ∷ classes) (1 ∷ 2 ∷ [])

-- an int's low byte is returned
abbrev byte_of : List Instruction → List Instruction
byte_of instructions = op iconst_1 ∷ newarray 8 ∷ op dup ∷ op iconst_0 ∷ instructions ++ op bastore ∷ op areturn ∷ []

abbrev free : Outcome → Run
free outcome = RunEnds outcome (costs 0 0 0 0)

abbrev raised : Name → Run
raised name = free (throws_plainly name)

abbrev null_pointer : Name
null_pointer = codes "NullPointerException"

abbrev outside : Name
outside = codes "ArrayIndexOutOfBoundsException"

abbrev outside_text : Name
outside_text = codes "StringIndexOutOfBoundsException"

-- null is asked before the index
null_loads : of_code (op aconst_null ∷ op iconst_m1 ∷ op iaload ∷ op pop ∷ op aload_0 ∷ op areturn ∷ []) ∷ of_code (op aconst_null ∷ op iconst_m1 ∷ op laload ∷ op pop2 ∷ op aload_0 ∷ op areturn ∷ []) ∷ of_code (op aconst_null ∷ op iconst_m1 ∷ op aaload ∷ op pop ∷ op aload_0 ∷ op areturn ∷ []) ∷ of_code (op aconst_null ∷ op iconst_m1 ∷ op baload ∷ op pop ∷ op aload_0 ∷ op areturn ∷ []) ∷ of_code (op aconst_null ∷ op iconst_m1 ∷ op caload ∷ op pop ∷ op aload_0 ∷ op areturn ∷ []) ∷ of_code (op aconst_null ∷ op iconst_m1 ∷ op saload ∷ op pop ∷ op aload_0 ∷ op areturn ∷ []) ∷ []
    ≡ raised null_pointer ∷ raised null_pointer ∷ raised null_pointer ∷ raised null_pointer ∷ raised null_pointer ∷ raised null_pointer ∷ []
unfolding int_wrap digits instruction_of simple code_of has_initialiser most_classes chain_of interfaces_from interfaces_above is_subclass is_subtype field_order resolve_method resolve_field select special_method field_count place_of static_place metered_program raw_program sandbox_program compute convert moved on_values load_element store_element array_length make_array charge_one charge_all answer host_answer perform native with_literal invoke effect pays used_class is_initialised mark with_constants constants_of initialise unwound settle step begin amounts turn turns metered_run steps plain_run
null_loads = refl

null_stores : of_code (op aconst_null ∷ op iconst_m1 ∷ op iconst_0 ∷ op iastore ∷ op aload_0 ∷ op areturn ∷ []) ∷ of_code (op aconst_null ∷ op iconst_m1 ∷ op lconst_0 ∷ op lastore ∷ op aload_0 ∷ op areturn ∷ []) ∷ of_code (op aconst_null ∷ op iconst_m1 ∷ op aconst_null ∷ op aastore ∷ op aload_0 ∷ op areturn ∷ []) ∷ of_code (op aconst_null ∷ op iconst_m1 ∷ op iconst_0 ∷ op bastore ∷ op aload_0 ∷ op areturn ∷ []) ∷ of_code (op aconst_null ∷ op iconst_m1 ∷ op iconst_0 ∷ op castore ∷ op aload_0 ∷ op areturn ∷ []) ∷ of_code (op aconst_null ∷ op iconst_m1 ∷ op iconst_0 ∷ op sastore ∷ op aload_0 ∷ op areturn ∷ []) ∷ []
    ≡ raised null_pointer ∷ raised null_pointer ∷ raised null_pointer ∷ raised null_pointer ∷ raised null_pointer ∷ raised null_pointer ∷ []
unfolding int_wrap digits instruction_of simple code_of has_initialiser most_classes chain_of interfaces_from interfaces_above is_subclass is_subtype field_order resolve_method resolve_field select special_method field_count place_of static_place metered_program raw_program sandbox_program compute convert moved on_values load_element store_element array_length make_array charge_one charge_all answer host_answer perform native with_literal invoke effect pays used_class is_initialised mark with_constants constants_of initialise unwound settle step begin amounts turn turns metered_run steps plain_run
null_stores = refl

null_receivers : of_code (op aconst_null ∷ op arraylength ∷ op pop ∷ op aload_0 ∷ op areturn ∷ []) ∷ of_code (op aconst_null ∷ op athrow ∷ []) ∷ of_code (op aconst_null ∷ method invokevirtual object (codes "hashCode") ([]) (Some int) ∷ op pop ∷ op aload_0 ∷ op areturn ∷ []) ∷ of_code (op aconst_null ∷ construct object [] ∷ op aload_0 ∷ op areturn ∷ []) ∷ of_code (op aconst_null ∷ op iconst_0 ∷ interface_method 2 (class_type (lang_name (codes "CharSequence"))) (codes "charAt") (int ∷ []) (Some char) ∷ op pop ∷ op aload_0 ∷ op areturn ∷ []) ∷ []
    ≡ raised null_pointer ∷ RunEnds (throws_plainly null_pointer) (costs 0 0 0 1) ∷ RunEnds (throws_plainly null_pointer) (costs 0 1 0 0) ∷ RunEnds (throws_plainly null_pointer) (costs 0 1 0 0) ∷ RunEnds (throws_plainly null_pointer) (costs 0 1 0 0) ∷ []
unfolding int_wrap digits instruction_of simple code_of has_initialiser most_classes chain_of interfaces_from interfaces_above is_subclass is_subtype field_order resolve_method resolve_field select special_method field_count place_of static_place metered_program raw_program sandbox_program compute convert moved on_values load_element store_element array_length make_array charge_one charge_all answer host_answer perform native with_literal invoke effect pays used_class is_initialised mark with_constants constants_of initialise unwound settle step begin amounts turn turns metered_run steps plain_run
null_receivers = refl

outside_arrays : of_code (op iconst_2 ∷ newarray 10 ∷ op iconst_2 ∷ op iaload ∷ op pop ∷ op aload_0 ∷ op areturn ∷ []) ∷ of_code (op iconst_2 ∷ newarray 10 ∷ op iconst_m1 ∷ op iaload ∷ op pop ∷ op aload_0 ∷ op areturn ∷ []) ∷ of_code (op iconst_2 ∷ newarray 10 ∷ op iconst_2 ∷ op iconst_0 ∷ op iastore ∷ op aload_0 ∷ op areturn ∷ []) ∷ of_code (op iconst_2 ∷ newarray 10 ∷ op iconst_m1 ∷ op iconst_0 ∷ op iastore ∷ op aload_0 ∷ op areturn ∷ []) ∷ of_code (op iconst_2 ∷ newarray 11 ∷ op iconst_2 ∷ op laload ∷ op pop2 ∷ op aload_0 ∷ op areturn ∷ []) ∷ of_code (op iconst_2 ∷ newarray 11 ∷ op iconst_m1 ∷ op laload ∷ op pop2 ∷ op aload_0 ∷ op areturn ∷ []) ∷ of_code (op iconst_2 ∷ newarray 11 ∷ op iconst_2 ∷ op lconst_0 ∷ op lastore ∷ op aload_0 ∷ op areturn ∷ []) ∷ of_code (op iconst_2 ∷ newarray 11 ∷ op iconst_m1 ∷ op lconst_0 ∷ op lastore ∷ op aload_0 ∷ op areturn ∷ []) ∷ of_code (op iconst_2 ∷ newarray 8 ∷ op iconst_2 ∷ op baload ∷ op pop ∷ op aload_0 ∷ op areturn ∷ []) ∷ of_code (op iconst_2 ∷ newarray 8 ∷ op iconst_m1 ∷ op baload ∷ op pop ∷ op aload_0 ∷ op areturn ∷ []) ∷ of_code (op iconst_2 ∷ newarray 8 ∷ op iconst_2 ∷ op iconst_0 ∷ op bastore ∷ op aload_0 ∷ op areturn ∷ []) ∷ of_code (op iconst_2 ∷ newarray 8 ∷ op iconst_m1 ∷ op iconst_0 ∷ op bastore ∷ op aload_0 ∷ op areturn ∷ []) ∷ of_code (op iconst_2 ∷ newarray 4 ∷ op iconst_2 ∷ op baload ∷ op pop ∷ op aload_0 ∷ op areturn ∷ []) ∷ of_code (op iconst_2 ∷ newarray 4 ∷ op iconst_m1 ∷ op baload ∷ op pop ∷ op aload_0 ∷ op areturn ∷ []) ∷ of_code (op iconst_2 ∷ newarray 4 ∷ op iconst_2 ∷ op iconst_0 ∷ op bastore ∷ op aload_0 ∷ op areturn ∷ []) ∷ of_code (op iconst_2 ∷ newarray 4 ∷ op iconst_m1 ∷ op iconst_0 ∷ op bastore ∷ op aload_0 ∷ op areturn ∷ []) ∷ of_code (op iconst_2 ∷ newarray 5 ∷ op iconst_2 ∷ op caload ∷ op pop ∷ op aload_0 ∷ op areturn ∷ []) ∷ of_code (op iconst_2 ∷ newarray 5 ∷ op iconst_m1 ∷ op caload ∷ op pop ∷ op aload_0 ∷ op areturn ∷ []) ∷ of_code (op iconst_2 ∷ newarray 5 ∷ op iconst_2 ∷ op iconst_0 ∷ op castore ∷ op aload_0 ∷ op areturn ∷ []) ∷ of_code (op iconst_2 ∷ newarray 5 ∷ op iconst_m1 ∷ op iconst_0 ∷ op castore ∷ op aload_0 ∷ op areturn ∷ []) ∷ of_code (op iconst_2 ∷ newarray 9 ∷ op iconst_2 ∷ op saload ∷ op pop ∷ op aload_0 ∷ op areturn ∷ []) ∷ of_code (op iconst_2 ∷ newarray 9 ∷ op iconst_m1 ∷ op saload ∷ op pop ∷ op aload_0 ∷ op areturn ∷ []) ∷ of_code (op iconst_2 ∷ newarray 9 ∷ op iconst_2 ∷ op iconst_0 ∷ op sastore ∷ op aload_0 ∷ op areturn ∷ []) ∷ of_code (op iconst_2 ∷ newarray 9 ∷ op iconst_m1 ∷ op iconst_0 ∷ op sastore ∷ op aload_0 ∷ op areturn ∷ []) ∷ []
    ≡ RunEnds (throws_plainly outside) (costs 24 0 0 0) ∷ RunEnds (throws_plainly outside) (costs 24 0 0 0) ∷ RunEnds (throws_plainly outside) (costs 24 0 0 0) ∷ RunEnds (throws_plainly outside) (costs 24 0 0 0) ∷ RunEnds (throws_plainly outside) (costs 32 0 0 0) ∷ RunEnds (throws_plainly outside) (costs 32 0 0 0) ∷ RunEnds (throws_plainly outside) (costs 32 0 0 0) ∷ RunEnds (throws_plainly outside) (costs 32 0 0 0) ∷ RunEnds (throws_plainly outside) (costs 24 0 0 0) ∷ RunEnds (throws_plainly outside) (costs 24 0 0 0) ∷ RunEnds (throws_plainly outside) (costs 24 0 0 0) ∷ RunEnds (throws_plainly outside) (costs 24 0 0 0) ∷ RunEnds (throws_plainly outside) (costs 24 0 0 0) ∷ RunEnds (throws_plainly outside) (costs 24 0 0 0) ∷ RunEnds (throws_plainly outside) (costs 24 0 0 0) ∷ RunEnds (throws_plainly outside) (costs 24 0 0 0) ∷ RunEnds (throws_plainly outside) (costs 24 0 0 0) ∷ RunEnds (throws_plainly outside) (costs 24 0 0 0) ∷ RunEnds (throws_plainly outside) (costs 24 0 0 0) ∷ RunEnds (throws_plainly outside) (costs 24 0 0 0) ∷ RunEnds (throws_plainly outside) (costs 24 0 0 0) ∷ RunEnds (throws_plainly outside) (costs 24 0 0 0) ∷ RunEnds (throws_plainly outside) (costs 24 0 0 0) ∷ RunEnds (throws_plainly outside) (costs 24 0 0 0) ∷ []
unfolding int_wrap digits instruction_of simple code_of has_initialiser most_classes chain_of interfaces_from interfaces_above is_subclass is_subtype field_order resolve_method resolve_field select special_method field_count place_of static_place metered_program raw_program sandbox_program compute convert moved on_values load_element store_element array_length make_array charge_one charge_all answer host_answer perform native with_literal invoke effect pays used_class is_initialised mark with_constants constants_of initialise unwound settle step begin amounts turn turns metered_run steps plain_run
outside_arrays = refl

-- an array of another element is asked before the index
wrong_loads : of_code (op iconst_2 ∷ newarray 10 ∷ op iconst_m1 ∷ op laload ∷ op pop2 ∷ op aload_0 ∷ op areturn ∷ []) ∷ of_code (op iconst_2 ∷ newarray 10 ∷ op iconst_m1 ∷ op aaload ∷ op pop ∷ op aload_0 ∷ op areturn ∷ []) ∷ of_code (op iconst_2 ∷ newarray 10 ∷ op iconst_m1 ∷ op baload ∷ op pop ∷ op aload_0 ∷ op areturn ∷ []) ∷ of_code (op iconst_2 ∷ newarray 10 ∷ op iconst_m1 ∷ op caload ∷ op pop ∷ op aload_0 ∷ op areturn ∷ []) ∷ of_code (op iconst_2 ∷ newarray 10 ∷ op iconst_m1 ∷ op saload ∷ op pop ∷ op aload_0 ∷ op areturn ∷ []) ∷ of_code (op iconst_2 ∷ newarray 11 ∷ op iconst_m1 ∷ op iaload ∷ op pop ∷ op aload_0 ∷ op areturn ∷ []) ∷ of_code (op iconst_2 ∷ newarray 11 ∷ op iconst_m1 ∷ op aaload ∷ op pop ∷ op aload_0 ∷ op areturn ∷ []) ∷ of_code (op iconst_2 ∷ newarray 11 ∷ op iconst_m1 ∷ op baload ∷ op pop ∷ op aload_0 ∷ op areturn ∷ []) ∷ of_code (op iconst_2 ∷ newarray 11 ∷ op iconst_m1 ∷ op caload ∷ op pop ∷ op aload_0 ∷ op areturn ∷ []) ∷ of_code (op iconst_2 ∷ newarray 11 ∷ op iconst_m1 ∷ op saload ∷ op pop ∷ op aload_0 ∷ op areturn ∷ []) ∷ of_code (op iconst_2 ∷ newarray 8 ∷ op iconst_m1 ∷ op iaload ∷ op pop ∷ op aload_0 ∷ op areturn ∷ []) ∷ of_code (op iconst_2 ∷ newarray 8 ∷ op iconst_m1 ∷ op laload ∷ op pop2 ∷ op aload_0 ∷ op areturn ∷ []) ∷ of_code (op iconst_2 ∷ newarray 8 ∷ op iconst_m1 ∷ op aaload ∷ op pop ∷ op aload_0 ∷ op areturn ∷ []) ∷ of_code (op iconst_2 ∷ newarray 8 ∷ op iconst_m1 ∷ op caload ∷ op pop ∷ op aload_0 ∷ op areturn ∷ []) ∷ of_code (op iconst_2 ∷ newarray 8 ∷ op iconst_m1 ∷ op saload ∷ op pop ∷ op aload_0 ∷ op areturn ∷ []) ∷ of_code (op iconst_2 ∷ newarray 4 ∷ op iconst_m1 ∷ op iaload ∷ op pop ∷ op aload_0 ∷ op areturn ∷ []) ∷ of_code (op iconst_2 ∷ newarray 4 ∷ op iconst_m1 ∷ op laload ∷ op pop2 ∷ op aload_0 ∷ op areturn ∷ []) ∷ of_code (op iconst_2 ∷ newarray 4 ∷ op iconst_m1 ∷ op aaload ∷ op pop ∷ op aload_0 ∷ op areturn ∷ []) ∷ of_code (op iconst_2 ∷ newarray 4 ∷ op iconst_m1 ∷ op caload ∷ op pop ∷ op aload_0 ∷ op areturn ∷ []) ∷ of_code (op iconst_2 ∷ newarray 4 ∷ op iconst_m1 ∷ op saload ∷ op pop ∷ op aload_0 ∷ op areturn ∷ []) ∷ of_code (op iconst_2 ∷ newarray 5 ∷ op iconst_m1 ∷ op iaload ∷ op pop ∷ op aload_0 ∷ op areturn ∷ []) ∷ of_code (op iconst_2 ∷ newarray 5 ∷ op iconst_m1 ∷ op laload ∷ op pop2 ∷ op aload_0 ∷ op areturn ∷ []) ∷ of_code (op iconst_2 ∷ newarray 5 ∷ op iconst_m1 ∷ op aaload ∷ op pop ∷ op aload_0 ∷ op areturn ∷ []) ∷ of_code (op iconst_2 ∷ newarray 5 ∷ op iconst_m1 ∷ op baload ∷ op pop ∷ op aload_0 ∷ op areturn ∷ []) ∷ of_code (op iconst_2 ∷ newarray 5 ∷ op iconst_m1 ∷ op saload ∷ op pop ∷ op aload_0 ∷ op areturn ∷ []) ∷ of_code (op iconst_2 ∷ newarray 9 ∷ op iconst_m1 ∷ op iaload ∷ op pop ∷ op aload_0 ∷ op areturn ∷ []) ∷ of_code (op iconst_2 ∷ newarray 9 ∷ op iconst_m1 ∷ op laload ∷ op pop2 ∷ op aload_0 ∷ op areturn ∷ []) ∷ of_code (op iconst_2 ∷ newarray 9 ∷ op iconst_m1 ∷ op aaload ∷ op pop ∷ op aload_0 ∷ op areturn ∷ []) ∷ of_code (op iconst_2 ∷ newarray 9 ∷ op iconst_m1 ∷ op baload ∷ op pop ∷ op aload_0 ∷ op areturn ∷ []) ∷ of_code (op iconst_2 ∷ newarray 9 ∷ op iconst_m1 ∷ op caload ∷ op pop ∷ op aload_0 ∷ op areturn ∷ []) ∷ []
    ≡ RunEnds outcomes.Link (costs 24 0 0 0) ∷ RunEnds outcomes.Link (costs 24 0 0 0) ∷ RunEnds outcomes.Link (costs 24 0 0 0) ∷ RunEnds outcomes.Link (costs 24 0 0 0) ∷ RunEnds outcomes.Link (costs 24 0 0 0) ∷ RunEnds outcomes.Link (costs 32 0 0 0) ∷ RunEnds outcomes.Link (costs 32 0 0 0) ∷ RunEnds outcomes.Link (costs 32 0 0 0) ∷ RunEnds outcomes.Link (costs 32 0 0 0) ∷ RunEnds outcomes.Link (costs 32 0 0 0) ∷ RunEnds outcomes.Link (costs 24 0 0 0) ∷ RunEnds outcomes.Link (costs 24 0 0 0) ∷ RunEnds outcomes.Link (costs 24 0 0 0) ∷ RunEnds outcomes.Link (costs 24 0 0 0) ∷ RunEnds outcomes.Link (costs 24 0 0 0) ∷ RunEnds outcomes.Link (costs 24 0 0 0) ∷ RunEnds outcomes.Link (costs 24 0 0 0) ∷ RunEnds outcomes.Link (costs 24 0 0 0) ∷ RunEnds outcomes.Link (costs 24 0 0 0) ∷ RunEnds outcomes.Link (costs 24 0 0 0) ∷ RunEnds outcomes.Link (costs 24 0 0 0) ∷ RunEnds outcomes.Link (costs 24 0 0 0) ∷ RunEnds outcomes.Link (costs 24 0 0 0) ∷ RunEnds outcomes.Link (costs 24 0 0 0) ∷ RunEnds outcomes.Link (costs 24 0 0 0) ∷ RunEnds outcomes.Link (costs 24 0 0 0) ∷ RunEnds outcomes.Link (costs 24 0 0 0) ∷ RunEnds outcomes.Link (costs 24 0 0 0) ∷ RunEnds outcomes.Link (costs 24 0 0 0) ∷ RunEnds outcomes.Link (costs 24 0 0 0) ∷ []
unfolding int_wrap digits instruction_of simple code_of has_initialiser most_classes chain_of interfaces_from interfaces_above is_subclass is_subtype field_order resolve_method resolve_field select special_method field_count place_of static_place metered_program raw_program sandbox_program compute convert moved on_values load_element store_element array_length make_array charge_one charge_all answer host_answer perform native with_literal invoke effect pays used_class is_initialised mark with_constants constants_of initialise unwound settle step begin amounts turn turns metered_run steps plain_run
wrong_loads = refl

wrong_stores : of_code (op iconst_2 ∷ newarray 10 ∷ op iconst_m1 ∷ op lconst_0 ∷ op lastore ∷ op aload_0 ∷ op areturn ∷ []) ∷ of_code (op iconst_2 ∷ newarray 10 ∷ op iconst_m1 ∷ op aconst_null ∷ op aastore ∷ op aload_0 ∷ op areturn ∷ []) ∷ of_code (op iconst_2 ∷ newarray 10 ∷ op iconst_m1 ∷ op iconst_0 ∷ op bastore ∷ op aload_0 ∷ op areturn ∷ []) ∷ of_code (op iconst_2 ∷ newarray 10 ∷ op iconst_m1 ∷ op iconst_0 ∷ op castore ∷ op aload_0 ∷ op areturn ∷ []) ∷ of_code (op iconst_2 ∷ newarray 10 ∷ op iconst_m1 ∷ op iconst_0 ∷ op sastore ∷ op aload_0 ∷ op areturn ∷ []) ∷ of_code (op iconst_2 ∷ newarray 11 ∷ op iconst_m1 ∷ op iconst_0 ∷ op iastore ∷ op aload_0 ∷ op areturn ∷ []) ∷ of_code (op iconst_2 ∷ newarray 11 ∷ op iconst_m1 ∷ op aconst_null ∷ op aastore ∷ op aload_0 ∷ op areturn ∷ []) ∷ of_code (op iconst_2 ∷ newarray 11 ∷ op iconst_m1 ∷ op iconst_0 ∷ op bastore ∷ op aload_0 ∷ op areturn ∷ []) ∷ of_code (op iconst_2 ∷ newarray 11 ∷ op iconst_m1 ∷ op iconst_0 ∷ op castore ∷ op aload_0 ∷ op areturn ∷ []) ∷ of_code (op iconst_2 ∷ newarray 11 ∷ op iconst_m1 ∷ op iconst_0 ∷ op sastore ∷ op aload_0 ∷ op areturn ∷ []) ∷ of_code (op iconst_2 ∷ newarray 8 ∷ op iconst_m1 ∷ op iconst_0 ∷ op iastore ∷ op aload_0 ∷ op areturn ∷ []) ∷ of_code (op iconst_2 ∷ newarray 8 ∷ op iconst_m1 ∷ op lconst_0 ∷ op lastore ∷ op aload_0 ∷ op areturn ∷ []) ∷ of_code (op iconst_2 ∷ newarray 8 ∷ op iconst_m1 ∷ op aconst_null ∷ op aastore ∷ op aload_0 ∷ op areturn ∷ []) ∷ of_code (op iconst_2 ∷ newarray 8 ∷ op iconst_m1 ∷ op iconst_0 ∷ op castore ∷ op aload_0 ∷ op areturn ∷ []) ∷ of_code (op iconst_2 ∷ newarray 8 ∷ op iconst_m1 ∷ op iconst_0 ∷ op sastore ∷ op aload_0 ∷ op areturn ∷ []) ∷ of_code (op iconst_2 ∷ newarray 4 ∷ op iconst_m1 ∷ op iconst_0 ∷ op iastore ∷ op aload_0 ∷ op areturn ∷ []) ∷ of_code (op iconst_2 ∷ newarray 4 ∷ op iconst_m1 ∷ op lconst_0 ∷ op lastore ∷ op aload_0 ∷ op areturn ∷ []) ∷ of_code (op iconst_2 ∷ newarray 4 ∷ op iconst_m1 ∷ op aconst_null ∷ op aastore ∷ op aload_0 ∷ op areturn ∷ []) ∷ of_code (op iconst_2 ∷ newarray 4 ∷ op iconst_m1 ∷ op iconst_0 ∷ op castore ∷ op aload_0 ∷ op areturn ∷ []) ∷ of_code (op iconst_2 ∷ newarray 4 ∷ op iconst_m1 ∷ op iconst_0 ∷ op sastore ∷ op aload_0 ∷ op areturn ∷ []) ∷ of_code (op iconst_2 ∷ newarray 5 ∷ op iconst_m1 ∷ op iconst_0 ∷ op iastore ∷ op aload_0 ∷ op areturn ∷ []) ∷ of_code (op iconst_2 ∷ newarray 5 ∷ op iconst_m1 ∷ op lconst_0 ∷ op lastore ∷ op aload_0 ∷ op areturn ∷ []) ∷ of_code (op iconst_2 ∷ newarray 5 ∷ op iconst_m1 ∷ op aconst_null ∷ op aastore ∷ op aload_0 ∷ op areturn ∷ []) ∷ of_code (op iconst_2 ∷ newarray 5 ∷ op iconst_m1 ∷ op iconst_0 ∷ op bastore ∷ op aload_0 ∷ op areturn ∷ []) ∷ of_code (op iconst_2 ∷ newarray 5 ∷ op iconst_m1 ∷ op iconst_0 ∷ op sastore ∷ op aload_0 ∷ op areturn ∷ []) ∷ of_code (op iconst_2 ∷ newarray 9 ∷ op iconst_m1 ∷ op iconst_0 ∷ op iastore ∷ op aload_0 ∷ op areturn ∷ []) ∷ of_code (op iconst_2 ∷ newarray 9 ∷ op iconst_m1 ∷ op lconst_0 ∷ op lastore ∷ op aload_0 ∷ op areturn ∷ []) ∷ of_code (op iconst_2 ∷ newarray 9 ∷ op iconst_m1 ∷ op aconst_null ∷ op aastore ∷ op aload_0 ∷ op areturn ∷ []) ∷ of_code (op iconst_2 ∷ newarray 9 ∷ op iconst_m1 ∷ op iconst_0 ∷ op bastore ∷ op aload_0 ∷ op areturn ∷ []) ∷ of_code (op iconst_2 ∷ newarray 9 ∷ op iconst_m1 ∷ op iconst_0 ∷ op castore ∷ op aload_0 ∷ op areturn ∷ []) ∷ []
    ≡ RunEnds outcomes.Link (costs 24 0 0 0) ∷ RunEnds outcomes.Link (costs 24 0 0 0) ∷ RunEnds outcomes.Link (costs 24 0 0 0) ∷ RunEnds outcomes.Link (costs 24 0 0 0) ∷ RunEnds outcomes.Link (costs 24 0 0 0) ∷ RunEnds outcomes.Link (costs 32 0 0 0) ∷ RunEnds outcomes.Link (costs 32 0 0 0) ∷ RunEnds outcomes.Link (costs 32 0 0 0) ∷ RunEnds outcomes.Link (costs 32 0 0 0) ∷ RunEnds outcomes.Link (costs 32 0 0 0) ∷ RunEnds outcomes.Link (costs 24 0 0 0) ∷ RunEnds outcomes.Link (costs 24 0 0 0) ∷ RunEnds outcomes.Link (costs 24 0 0 0) ∷ RunEnds outcomes.Link (costs 24 0 0 0) ∷ RunEnds outcomes.Link (costs 24 0 0 0) ∷ RunEnds outcomes.Link (costs 24 0 0 0) ∷ RunEnds outcomes.Link (costs 24 0 0 0) ∷ RunEnds outcomes.Link (costs 24 0 0 0) ∷ RunEnds outcomes.Link (costs 24 0 0 0) ∷ RunEnds outcomes.Link (costs 24 0 0 0) ∷ RunEnds outcomes.Link (costs 24 0 0 0) ∷ RunEnds outcomes.Link (costs 24 0 0 0) ∷ RunEnds outcomes.Link (costs 24 0 0 0) ∷ RunEnds outcomes.Link (costs 24 0 0 0) ∷ RunEnds outcomes.Link (costs 24 0 0 0) ∷ RunEnds outcomes.Link (costs 24 0 0 0) ∷ RunEnds outcomes.Link (costs 24 0 0 0) ∷ RunEnds outcomes.Link (costs 24 0 0 0) ∷ RunEnds outcomes.Link (costs 24 0 0 0) ∷ RunEnds outcomes.Link (costs 24 0 0 0) ∷ []
unfolding int_wrap digits instruction_of simple code_of has_initialiser most_classes chain_of interfaces_from interfaces_above is_subclass is_subtype field_order resolve_method resolve_field select special_method field_count place_of static_place metered_program raw_program sandbox_program compute convert moved on_values load_element store_element array_length make_array charge_one charge_all answer host_answer perform native with_literal invoke effect pays used_class is_initialised mark with_constants constants_of initialise unwound settle step begin amounts turn turns metered_run steps plain_run
wrong_stores = refl

no_arrays : of_code (constant (AText (codes "ab")) ∷ op arraylength ∷ op pop ∷ op aload_0 ∷ op areturn ∷ []) ∷ of_code (constant (AText (codes "ab")) ∷ op iconst_0 ∷ op baload ∷ op pop ∷ op aload_0 ∷ op areturn ∷ []) ∷ []
    ≡ free outcomes.Link ∷ free outcomes.Link ∷ []
unfolding int_wrap digits instruction_of simple code_of has_initialiser most_classes chain_of interfaces_from interfaces_above is_subclass is_subtype field_order resolve_method resolve_field select special_method field_count place_of static_place metered_program raw_program sandbox_program compute convert moved on_values load_element store_element array_length make_array charge_one charge_all answer host_answer perform native with_literal invoke effect pays used_class is_initialised mark with_constants constants_of initialise unwound settle step begin amounts turn turns metered_run steps plain_run
no_arrays = refl

-- bytes, booleans and shorts have a sign, chars have none
kept_bits : of_code (byte_of (op iconst_1 ∷ newarray 8 ∷ op dup ∷ op iconst_0 ∷ push sipush (pos 300) ∷ op bastore ∷ op iconst_0 ∷ op baload ∷ [])) ∷ of_code (byte_of (op iconst_1 ∷ newarray 8 ∷ op dup ∷ op iconst_0 ∷ push sipush (negsuc 0) ∷ op bastore ∷ op iconst_0 ∷ op baload ∷ push bipush (pos 8) ∷ op ishr ∷ [])) ∷ of_code (byte_of (op iconst_1 ∷ newarray 8 ∷ op dup ∷ op iconst_0 ∷ push sipush (pos 200) ∷ op bastore ∷ op iconst_0 ∷ op baload ∷ push bipush (pos 8) ∷ op ishr ∷ [])) ∷ of_code (byte_of (op iconst_1 ∷ newarray 4 ∷ op dup ∷ op iconst_0 ∷ push sipush (pos 200) ∷ op bastore ∷ op iconst_0 ∷ op baload ∷ push bipush (pos 8) ∷ op ishr ∷ [])) ∷ of_code (byte_of (op iconst_1 ∷ newarray 5 ∷ op dup ∷ op iconst_0 ∷ push sipush (negsuc 0) ∷ op castore ∷ op iconst_0 ∷ op caload ∷ push bipush (pos 16) ∷ op ishr ∷ [])) ∷ of_code (byte_of (op iconst_1 ∷ newarray 5 ∷ op dup ∷ op iconst_0 ∷ push sipush (negsuc 0) ∷ op castore ∷ op iconst_0 ∷ op caload ∷ [])) ∷ of_code (byte_of (op iconst_1 ∷ newarray 9 ∷ op dup ∷ op iconst_0 ∷ push sipush (negsuc 0) ∷ op sastore ∷ op iconst_0 ∷ op saload ∷ push bipush (pos 16) ∷ op ishr ∷ [])) ∷ of_code (byte_of (op iconst_1 ∷ newarray 9 ∷ op dup ∷ op iconst_0 ∷ push sipush (pos 300) ∷ op sastore ∷ op iconst_0 ∷ op saload ∷ push bipush (pos 8) ∷ op ishr ∷ [])) ∷ of_code (byte_of (op iconst_1 ∷ newarray 10 ∷ op dup ∷ op iconst_0 ∷ push sipush (negsuc 299) ∷ op iastore ∷ op iconst_0 ∷ op iaload ∷ push bipush (pos 16) ∷ op ishr ∷ [])) ∷ []
    ≡ RunEnds (outcomes.OkBytes (44 ∷ [])) (costs 48 0 0 0) ∷ RunEnds (outcomes.OkBytes (255 ∷ [])) (costs 48 0 0 0) ∷ RunEnds (outcomes.OkBytes (255 ∷ [])) (costs 48 0 0 0) ∷ RunEnds (outcomes.OkBytes (255 ∷ [])) (costs 48 0 0 0) ∷ RunEnds (outcomes.OkBytes (0 ∷ [])) (costs 48 0 0 0) ∷ RunEnds (outcomes.OkBytes (255 ∷ [])) (costs 48 0 0 0) ∷ RunEnds (outcomes.OkBytes (255 ∷ [])) (costs 48 0 0 0) ∷ RunEnds (outcomes.OkBytes (1 ∷ [])) (costs 48 0 0 0) ∷ RunEnds (outcomes.OkBytes (255 ∷ [])) (costs 48 0 0 0) ∷ []
unfolding int_wrap digits instruction_of simple code_of has_initialiser most_classes chain_of interfaces_from interfaces_above is_subclass is_subtype field_order resolve_method resolve_field select special_method field_count place_of static_place metered_program raw_program sandbox_program compute convert moved on_values load_element store_element array_length make_array charge_one charge_all answer host_answer perform native with_literal invoke effect pays used_class is_initialised mark with_constants constants_of initialise unwound settle step begin amounts turn turns metered_run steps plain_run
kept_bits = refl

array_lengths : of_code (byte_of (op iconst_3 ∷ newarray 4 ∷ op arraylength ∷ [])) ∷ of_code (byte_of (op iconst_3 ∷ newarray 5 ∷ op arraylength ∷ [])) ∷ of_code (byte_of (op iconst_3 ∷ newarray 8 ∷ op arraylength ∷ [])) ∷ of_code (byte_of (op iconst_3 ∷ newarray 9 ∷ op arraylength ∷ [])) ∷ of_code (byte_of (op iconst_3 ∷ newarray 10 ∷ op arraylength ∷ [])) ∷ of_code (byte_of (op iconst_3 ∷ newarray 11 ∷ op arraylength ∷ [])) ∷ of_code (byte_of (op iconst_3 ∷ class anewarray string ∷ op arraylength ∷ [])) ∷ []
    ≡ RunEnds (outcomes.OkBytes (3 ∷ [])) (costs 48 0 0 0) ∷ RunEnds (outcomes.OkBytes (3 ∷ [])) (costs 48 0 0 0) ∷ RunEnds (outcomes.OkBytes (3 ∷ [])) (costs 48 0 0 0) ∷ RunEnds (outcomes.OkBytes (3 ∷ [])) (costs 48 0 0 0) ∷ RunEnds (outcomes.OkBytes (3 ∷ [])) (costs 56 0 0 0) ∷ RunEnds (outcomes.OkBytes (3 ∷ [])) (costs 64 0 0 0) ∷ RunEnds (outcomes.OkBytes (3 ∷ [])) (costs 56 0 0 0) ∷ []
unfolding int_wrap digits instruction_of simple code_of has_initialiser most_classes chain_of interfaces_from interfaces_above is_subclass is_subtype field_order resolve_method resolve_field select special_method field_count place_of static_place metered_program raw_program sandbox_program compute convert moved on_values load_element store_element array_length make_array charge_one charge_all answer host_answer perform native with_literal invoke effect pays used_class is_initialised mark with_constants constants_of initialise unwound settle step begin amounts turn turns metered_run steps plain_run
array_lengths = refl

negative_sizes : of_code (op iconst_m1 ∷ newarray 10 ∷ op pop ∷ op aload_0 ∷ op areturn ∷ []) ∷ of_code (op iconst_m1 ∷ class anewarray string ∷ op pop ∷ op aload_0 ∷ op areturn ∷ []) ∷ []
    ≡ raised (codes "NegativeArraySizeException") ∷ raised (codes "NegativeArraySizeException") ∷ []
unfolding int_wrap digits instruction_of simple code_of has_initialiser most_classes chain_of interfaces_from interfaces_above is_subclass is_subtype field_order resolve_method resolve_field select special_method field_count place_of static_place metered_program raw_program sandbox_program compute convert moved on_values load_element store_element array_length make_array charge_one charge_all answer host_answer perform native with_literal invoke effect pays used_class is_initialised mark with_constants constants_of initialise unwound settle step begin amounts turn turns metered_run steps plain_run
negative_sizes = refl

divisions : of_code (op iconst_1 ∷ op iconst_0 ∷ op idiv ∷ op pop ∷ op aload_0 ∷ op areturn ∷ []) ∷ of_code (op iconst_1 ∷ op iconst_0 ∷ op irem ∷ op pop ∷ op aload_0 ∷ op areturn ∷ []) ∷ of_code (op lconst_1 ∷ op lconst_0 ∷ op ldiv ∷ op pop2 ∷ op aload_0 ∷ op areturn ∷ []) ∷ of_code (op lconst_1 ∷ op lconst_0 ∷ op lrem ∷ op pop2 ∷ op aload_0 ∷ op areturn ∷ []) ∷ []
    ≡ raised (codes "ArithmeticException") ∷ raised (codes "ArithmeticException") ∷ raised (codes "ArithmeticException") ∷ raised (codes "ArithmeticException") ∷ []
unfolding int_wrap digits instruction_of simple code_of has_initialiser most_classes chain_of interfaces_from interfaces_above is_subclass is_subtype field_order resolve_method resolve_field select special_method field_count place_of static_place metered_program raw_program sandbox_program compute convert moved on_values load_element store_element array_length make_array charge_one charge_all answer host_answer perform native with_literal invoke effect pays used_class is_initialised mark with_constants constants_of initialise unwound settle step begin amounts turn turns metered_run steps plain_run
divisions = refl

-- the index is asked before the class; null is taken by each
reference_arrays : of_code (op iconst_1 ∷ class anewarray string ∷ op iconst_0 ∷ op aload_0 ∷ op aastore ∷ op aload_0 ∷ op areturn ∷ []) ∷ of_code (op iconst_1 ∷ class anewarray string ∷ op iconst_1 ∷ op aload_0 ∷ op aastore ∷ op aload_0 ∷ op areturn ∷ []) ∷ of_code (op iconst_1 ∷ class anewarray string ∷ op iconst_0 ∷ op aconst_null ∷ op aastore ∷ op aload_0 ∷ op areturn ∷ []) ∷ of_code (op iconst_1 ∷ class anewarray object ∷ op dup ∷ op iconst_0 ∷ op aload_0 ∷ op aastore ∷ op iconst_0 ∷ op aaload ∷ op areturn ∷ []) ∷ of_code (op iconst_1 ∷ class anewarray byte_array ∷ op dup ∷ op iconst_0 ∷ op aload_0 ∷ op aastore ∷ op iconst_0 ∷ op aaload ∷ op areturn ∷ []) ∷ of_code (op iconst_1 ∷ class anewarray (class_type (lang_name (codes "Cloneable"))) ∷ op iconst_0 ∷ op aload_0 ∷ op aastore ∷ op aload_0 ∷ op areturn ∷ []) ∷ of_code (op iconst_1 ∷ class anewarray (class_type (lang_name (codes "Comparable"))) ∷ op iconst_0 ∷ op aload_0 ∷ op aastore ∷ op aload_0 ∷ op areturn ∷ []) ∷ []
    ≡ RunEnds (throws_plainly (codes "ArrayStoreException")) (costs 24 0 0 0) ∷ RunEnds (throws_plainly outside) (costs 24 0 0 0) ∷ RunEnds (outcomes.OkBytes (1 ∷ 2 ∷ [])) (costs 24 0 0 0) ∷ RunEnds (outcomes.OkBytes (1 ∷ 2 ∷ [])) (costs 24 0 0 0) ∷ RunEnds (outcomes.OkBytes (1 ∷ 2 ∷ [])) (costs 24 0 0 0) ∷ RunEnds (outcomes.OkBytes (1 ∷ 2 ∷ [])) (costs 24 0 0 0) ∷ RunEnds (throws_plainly (codes "ArrayStoreException")) (costs 24 0 0 0) ∷ []
unfolding int_wrap digits instruction_of simple code_of has_initialiser most_classes chain_of interfaces_from interfaces_above is_subclass is_subtype field_order resolve_method resolve_field select special_method field_count place_of static_place metered_program raw_program sandbox_program compute convert moved on_values load_element store_element array_length make_array charge_one charge_all answer host_answer perform native with_literal invoke effect pays used_class is_initialised mark with_constants constants_of initialise unwound settle step begin amounts turn turns metered_run steps plain_run
reference_arrays = refl

casts : of_code (op aload_0 ∷ class checkcast string ∷ op areturn ∷ []) ∷ of_code (op aload_0 ∷ class checkcast object ∷ op areturn ∷ []) ∷ of_code (op aload_0 ∷ class checkcast byte_array ∷ op areturn ∷ []) ∷ of_code (op aload_0 ∷ class checkcast (base_array bases.Boolean) ∷ op areturn ∷ []) ∷ of_code (op aconst_null ∷ class checkcast string ∷ op areturn ∷ []) ∷ of_code (byte_of (op aload_0 ∷ class instanceof byte_array ∷ [])) ∷ of_code (byte_of (op aload_0 ∷ class instanceof string ∷ [])) ∷ of_code (byte_of (op aconst_null ∷ class instanceof byte_array ∷ [])) ∷ []
    ≡ raised (codes "ClassCastException") ∷ free (outcomes.OkBytes (1 ∷ 2 ∷ [])) ∷ free (outcomes.OkBytes (1 ∷ 2 ∷ [])) ∷ raised (codes "ClassCastException") ∷ free outcomes.OkNull ∷ RunEnds (outcomes.OkBytes (1 ∷ [])) (costs 24 0 0 0) ∷ RunEnds (outcomes.OkBytes (0 ∷ [])) (costs 24 0 0 0) ∷ RunEnds (outcomes.OkBytes (0 ∷ [])) (costs 24 0 0 0) ∷ []
unfolding int_wrap digits instruction_of simple code_of has_initialiser most_classes chain_of interfaces_from interfaces_above is_subclass is_subtype field_order resolve_method resolve_field select special_method field_count place_of static_place metered_program raw_program sandbox_program compute convert moved on_values load_element store_element array_length make_array charge_one charge_all answer host_answer perform native with_literal invoke effect pays used_class is_initialised mark with_constants constants_of initialise unwound settle step begin amounts turn turns metered_run steps plain_run
casts = refl

-- a method verify returns null or an array of bytes; one of booleans is none
results : of_code (op iconst_1 ∷ newarray 4 ∷ op areturn ∷ []) ∷ of_code (op iconst_1 ∷ newarray 5 ∷ op areturn ∷ []) ∷ of_code (constant (AText (codes "ab")) ∷ op areturn ∷ []) ∷ of_code (class new object ∷ op areturn ∷ []) ∷ of_code (op aconst_null ∷ op areturn ∷ []) ∷ of_code (op iconst_0 ∷ newarray 8 ∷ op areturn ∷ []) ∷ []
    ≡ RunEnds outcomes.Link (costs 24 0 0 0) ∷ RunEnds outcomes.Link (costs 24 0 0 0) ∷ free outcomes.Link ∷ RunEnds outcomes.Link (costs 16 0 0 0) ∷ free outcomes.OkNull ∷ RunEnds (outcomes.OkBytes []) (costs 16 0 0 0) ∷ []
unfolding int_wrap digits instruction_of simple code_of has_initialiser most_classes chain_of interfaces_from interfaces_above is_subclass is_subtype field_order resolve_method resolve_field select special_method field_count place_of static_place metered_program raw_program sandbox_program compute convert moved on_values load_element store_element array_length make_array charge_one charge_all answer host_answer perform native with_literal invoke effect pays used_class is_initialised mark with_constants constants_of initialise unwound settle step begin amounts turn turns metered_run steps plain_run
results = refl

-- an object that is no Throwable; messages, an empty one among them
thrown : of_code (op aload_0 ∷ op athrow ∷ []) ∷ of_code (class new (class_type (lang_name (codes "Error"))) ∷ op dup ∷ construct (class_type (lang_name (codes "Error"))) [] ∷ op athrow ∷ []) ∷ of_code (class new (class_type (lang_name (codes "Error"))) ∷ op dup ∷ constant (AText (codes "no")) ∷ construct (class_type (lang_name (codes "Error"))) (string ∷ []) ∷ op athrow ∷ []) ∷ of_code (class new (class_type (lang_name (codes "Error"))) ∷ op dup ∷ constant (AText []) ∷ construct (class_type (lang_name (codes "Error"))) (string ∷ []) ∷ op athrow ∷ []) ∷ []
    ≡ RunEnds outcomes.Link (costs 0 0 0 1) ∷ RunEnds (throws_plainly (codes "Error")) (costs 32 1 0 1) ∷ RunEnds (outcomes.Threw (lang_name (codes "Error")) (messages.Text (codes "no"))) (costs 32 1 0 1) ∷ RunEnds (outcomes.Threw (lang_name (codes "Error")) (messages.Text [])) (costs 32 1 0 1) ∷ []
unfolding int_wrap digits instruction_of simple code_of has_initialiser most_classes chain_of interfaces_from interfaces_above is_subclass is_subtype field_order resolve_method resolve_field select special_method field_count place_of static_place metered_program raw_program sandbox_program compute convert moved on_values load_element store_element array_length make_array charge_one charge_all answer host_answer perform native with_literal invoke effect pays used_class is_initialised mark with_constants constants_of initialise unwound settle step begin amounts turn turns metered_run steps plain_run
thrown = refl

abbrev c_type : Ty
c_type = class_type (codes "C")

abbrev d_type : Ty
d_type = class_type (codes "D")

-- C with fields of instances and a static one, and D below it, which has a field of a name that C has
abbrev with_fields : List Class
with_fields = class_with (codes "C") (field_with 0 (codes "i") int None ∷ field_with 8 (codes "s") int None ∷ field_with 0 (codes "j") long None ∷ field_with 0 (codes "r") object None ∷ field_with 0 (codes "b") boolean None ∷ []) (plain_constructor ∷ [])
    ∷ record (class_with (codes "D") (field_with 0 (codes "i") int None ∷ field_with 0 (codes "k") int None ∷ []) (plain_constructor ∷ [])) { superclass = Some (codes "C") } ∷ []

abbrev on_fields : List Instruction → Run
on_fields instructions = with_methods [] with_fields instructions

-- a boolean field keeps the whole int; fields of one name of a class and of its superclass are two
instance_fields : on_fields (byte_of (class new c_type ∷ op dup ∷ op iconst_5 ∷ field putfield c_type (codes "i") int ∷ field getfield c_type (codes "i") int ∷ [])) ∷ on_fields (byte_of (class new c_type ∷ field getfield c_type (codes "b") boolean ∷ [])) ∷ on_fields (byte_of (class new c_type ∷ op dup ∷ op iconst_5 ∷ field putfield c_type (codes "b") boolean ∷ field getfield c_type (codes "b") boolean ∷ [])) ∷ on_fields (byte_of (class new d_type ∷ op dup ∷ op dup ∷ op iconst_5 ∷ field putfield c_type (codes "i") int ∷ op iconst_4 ∷ field putfield d_type (codes "i") int ∷ field getfield c_type (codes "i") int ∷ [])) ∷ on_fields (byte_of (class new d_type ∷ op dup ∷ op dup ∷ op iconst_5 ∷ field putfield c_type (codes "i") int ∷ op iconst_4 ∷ field putfield d_type (codes "i") int ∷ field getfield d_type (codes "i") int ∷ [])) ∷ on_fields (byte_of (class new d_type ∷ op dup ∷ op iconst_5 ∷ field putfield d_type (codes "k") int ∷ field getfield d_type (codes "k") int ∷ [])) ∷ on_fields (byte_of (class new d_type ∷ op dup ∷ constant (ALong (pos 1)) ∷ op pop2 ∷ op lconst_1 ∷ field putfield d_type (codes "j") long ∷ field getfield d_type (codes "j") long ∷ op l2i ∷ [])) ∷ on_fields (byte_of (class new d_type ∷ op dup ∷ op lconst_1 ∷ field putfield d_type (codes "j") long ∷ field getfield d_type (codes "j") long ∷ op l2i ∷ [])) ∷ on_fields (class new c_type ∷ op dup ∷ op aload_0 ∷ field putfield c_type (codes "r") object ∷ field getfield c_type (codes "r") object ∷ op areturn ∷ []) ∷ on_fields (op aconst_null ∷ field getfield c_type (codes "i") int ∷ op pop ∷ op aload_0 ∷ op areturn ∷ []) ∷ on_fields (op aconst_null ∷ op iconst_5 ∷ field putfield c_type (codes "i") int ∷ op aload_0 ∷ op areturn ∷ []) ∷ on_fields (class new object ∷ field getfield c_type (codes "i") int ∷ op pop ∷ op aload_0 ∷ op areturn ∷ []) ∷ on_fields (class new object ∷ op iconst_5 ∷ field putfield c_type (codes "i") int ∷ op aload_0 ∷ op areturn ∷ []) ∷ on_fields (class new c_type ∷ field getfield d_type (codes "i") int ∷ op pop ∷ op aload_0 ∷ op areturn ∷ []) ∷ on_fields (op aload_0 ∷ field getfield c_type (codes "i") int ∷ op pop ∷ op aload_0 ∷ op areturn ∷ []) ∷ []
    ≡ RunEnds (outcomes.OkBytes (5 ∷ [])) (costs 72 0 0 0) ∷ RunEnds (outcomes.OkBytes (0 ∷ [])) (costs 72 0 0 0) ∷ RunEnds (outcomes.OkBytes (5 ∷ [])) (costs 72 0 0 0) ∷ RunEnds (outcomes.OkBytes (5 ∷ [])) (costs 88 0 0 0) ∷ RunEnds (outcomes.OkBytes (4 ∷ [])) (costs 88 0 0 0) ∷ RunEnds (outcomes.OkBytes (5 ∷ [])) (costs 88 0 0 0) ∷ Stuck ∷ RunEnds (outcomes.OkBytes (1 ∷ [])) (costs 88 0 0 0) ∷ RunEnds (outcomes.OkBytes (1 ∷ 2 ∷ [])) (costs 48 0 0 0) ∷ raised null_pointer ∷ raised null_pointer ∷ RunEnds outcomes.Link (costs 16 0 0 0) ∷ RunEnds outcomes.Link (costs 16 0 0 0) ∷ RunEnds outcomes.Link (costs 48 0 0 0) ∷ free outcomes.Link ∷ []
unfolding int_wrap digits instruction_of simple code_of has_initialiser most_classes chain_of interfaces_from interfaces_above is_subclass is_subtype field_order resolve_method resolve_field select special_method field_count place_of static_place metered_program raw_program sandbox_program compute convert moved on_values load_element store_element array_length make_array charge_one charge_all answer host_answer perform native with_literal invoke effect pays used_class is_initialised mark with_constants constants_of initialise unwound settle step begin amounts turn turns metered_run steps plain_run
instance_fields = refl

static_fields : on_fields (byte_of (op iconst_5 ∷ field putstatic c_type (codes "s") int ∷ field getstatic c_type (codes "s") int ∷ [])) ∷ on_fields (byte_of (op iconst_5 ∷ field putstatic d_type (codes "s") int ∷ field getstatic c_type (codes "s") int ∷ [])) ∷ on_fields (byte_of (field getstatic c_type (codes "s") int ∷ [])) ∷ []
    ≡ RunEnds (outcomes.OkBytes (5 ∷ [])) (costs 24 0 0 0) ∷ RunEnds (outcomes.OkBytes (5 ∷ [])) (costs 24 0 0 0) ∷ RunEnds (outcomes.OkBytes (0 ∷ [])) (costs 24 0 0 0) ∷ []
unfolding int_wrap digits instruction_of simple code_of has_initialiser most_classes chain_of interfaces_from interfaces_above is_subclass is_subtype field_order resolve_method resolve_field select special_method field_count place_of static_place metered_program raw_program sandbox_program compute convert moved on_values load_element store_element array_length make_array charge_one charge_all answer host_answer perform native with_literal invoke effect pays used_class is_initialised mark with_constants constants_of initialise unwound settle step begin amounts turn turns metered_run steps plain_run
static_fields = refl
