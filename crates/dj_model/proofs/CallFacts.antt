-- Whole runs: calls, initialisers, handlers, limits and the accounter.
use Rattle.std.proofs.Common.{◌≡◌, pos, negsuc, ℕ, List, [], ◌∷◌, ◌++◌, Option, Some, None, codes, refl}
use Rattle.std.specs.Int.{int_wrap}
use Rattle.std.specs.Fmt.{digits}
use Rattle.dj_names.specs.declared.descriptor.Base.TheVariants as bases
use Rattle.dj_names.specs.declared.descriptor.Of.TheVariants as ofs
use Rattle.dj_names.specs.declared.descriptor.Ty.{Ty}
use Rattle.dj_names.specs.declared.run.Charge.TheVariants as charges
use Rattle.dj_names.specs.declared.run.Message.TheVariants as messages
use Rattle.dj_names.specs.declared.run.Costs.{Costs}
use Rattle.dj_names.specs.declared.run.Thresholds.{Thresholds}
use Rattle.dj_names.specs.declared.run.Outcome.{Outcome}
use Rattle.dj_names.specs.declared.run.Outcome.TheVariants as outcomes
use Rattle.dj_names.specs.trusted.Tests.{units_read}
use Rattle.dj_names.specs.trusted.UnitReading.{two_read, three_read, long_read, unit_read}
use Rattle.dj_names.specs.trusted.Types.{Name, class_type}
use Rattle.dj_names.specs.trusted.Library.{object, string, int, long}
use Rattle.dj_model.specs.trusted.Instructions.{Instruction, AText, Another}
use Rattle.dj_model.specs.trusted.Opcodes.{instruction_of, simple}
use Rattle.dj_model.specs.trusted.Program.{Class, Method, Abstract, Int, Long, Text, Unfit, code_of, has_initialiser}
use Rattle.dj_model.specs.trusted.Linking.{most_classes, chain_of, interfaces_from, interfaces_above, is_subclass, is_subtype, field_order, resolve_method, resolve_field, select, special_method, field_count, place_of, static_place}
use Rattle.dj_model.specs.Libraries.{metered_program, raw_program, sandbox_program}
use Rattle.dj_model.specs.trusted.Numbers.{compute, convert}
use Rattle.dj_model.specs.trusted.Values.{moved, on_values}
use Rattle.dj_model.specs.trusted.Arrays.{load_element, store_element, array_length, make_array}
use Rattle.dj_model.specs.trusted.Charging.{charge_one}
use Rattle.dj_model.specs.Charging.{charge_all}
use Rattle.dj_model.specs.trusted.Natives.{answer, host_answer}
use Rattle.dj_model.specs.trusted.Performing.{perform, native}
use Rattle.dj_model.specs.trusted.Members.{with_literal, invoke}
use Rattle.dj_model.specs.trusted.Effects.{effect, used_class}
use Rattle.dj_model.specs.Effects.{pays}
use Rattle.dj_model.specs.trusted.Initialisation.{is_initialised, mark, with_constants, constants_of, initialise}
use Rattle.dj_model.specs.trusted.Step.{unwound, settle, step}
use Rattle.dj_model.specs.trusted.Runs.{begin, steps, plain_run}
use Rattle.dj_model.specs.Runs.{Run, RunEnds, Stuck, metered_terms, amounts, turn, turns, metered_run}
use Rattle.dj_names.specs.Types.{sandbox_prefix, in_sandbox}
use Rattle.dj_edge.specs.declared.host.HostAnswer.{HostAnswer}
use Rattle.dj_edge.specs.declared.host.HostAnswer.TheVariants as host
use Rattle.dj_model.specs.trusted.State.{Uncounted, Accounted}
use Rattle.dj_model.specs.trusted.Runs.{Report}
use Rattle.dj_model.specs.SmallRuns.{verify_of, op, push, constant, jump, newarray, class, field, method, interface_method, construct, byte_array, a_type, entry, code, method_with, verify_with, initialiser_with, plain_constructor, class_with, a_with, field_with, catch_all, catch, costs, at_most, usual, lang_name, throws_plainly}
use Rattle.dj_ops.specs.Mnemonics.{nop, aconst_null, iconst_m1, iconst_0, iconst_1, iconst_2, iconst_3, iconst_4, iconst_5, lconst_1, fconst_0, bipush, iload_0, iload_2, lload_0, lload_1, aload_0, aload_1, aload_2, aaload, astore_1, astore_2, aastore, bastore, pop, dup, iadd, l2i, if_acmpeq, goto, ireturn, areturn, return, getstatic, putstatic, putfield, invokevirtual, invokespecial, invokestatic, new, anewarray, arraylength, athrow, multianewarray}

-- how the run of A's verify ends, after a hundred turns at most
abbrev runs : List Class → List ℕ → Run
runs classes input = metered_run (metered_program classes) entry input usual 100

-- verify is this code, beside other methods and classes
abbrev of_code : List Instruction → Run
of_code instructions = runs (a_with (verify_with instructions [] ∷ []) ∷ []) (1 ∷ 2 ∷ [])

abbrev with_methods : List Method → List Class → List Instruction → Run
with_methods methods classes instructions = runs (a_with (verify_with instructions [] ∷ methods) ∷ classes) (1 ∷ 2 ∷ [])

-- an int's low byte is returned
abbrev byte_of : List Instruction → List Instruction
byte_of instructions = op iconst_1 ∷ newarray 8 ∷ op dup ∷ op iconst_0 ∷ instructions ++ op bastore ∷ op areturn ∷ []

abbrev free : Outcome → Run
free outcome = RunEnds outcome (costs 0 0 0 0)

abbrev raised : Name → Run
raised name = free (throws_plainly name)

abbrev null_pointer : Name
null_pointer = codes "NullPointerException"

abbrev outside : Name
outside = codes "ArrayIndexOutOfBoundsException"

abbrev outside_text : Name
outside_text = codes "StringIndexOutOfBoundsException"

abbrev i_type : Ty
i_type = class_type (codes "I")

abbrev j_type : Ty
j_type = class_type (codes "J")

abbrev c_type : Ty
c_type = class_type (codes "C")

abbrev d_type : Ty
d_type = class_type (codes "D")

abbrev e_type : Ty
e_type = class_type (codes "E")

-- two interfaces; C implements both, D below C takes one method anew, and E has no code for the interface's
abbrev family : List Class
family = record (class_with (codes "I") [] (method_with 1025 (codes "m") [] (Some int) Abstract ∷ [])) { flags = 1537 }
    ∷ record (class_with (codes "J") [] (method_with 1025 (codes "n") [] (Some int) Abstract ∷ [])) { flags = 1537 }
    ∷ record (class_with (codes "C") [] (plain_constructor ∷ method_with 1 (codes "m") ([]) (Some int) (code (op iconst_5 ∷ op ireturn ∷ []) []) ∷ method_with 1 (codes "n") ([]) (Some int) (code (op iconst_2 ∷ op ireturn ∷ []) []) ∷ method_with 2 (codes "p") ([]) (Some int) (code (op iconst_1 ∷ op ireturn ∷ []) []) ∷ method_with 9 (codes "t") ([]) (Some int) (code (op iconst_3 ∷ op ireturn ∷ []) []) ∷ method_with 1 (codes "w") ([]) (Some int) (code (op iconst_5 ∷ op ireturn ∷ []) []) ∷ [])) { interfaces = codes "I" ∷ codes "J" ∷ [] }
    ∷ record (class_with (codes "D") [] (method_with 2 (codes "w") ([]) (Some int) (code (op iconst_2 ∷ op ireturn ∷ []) []) ∷ method_with 1 (codes "m") ([]) (Some int) (code (op iconst_4 ∷ op ireturn ∷ []) []) ∷ method_with 1 (codes "p") ([]) (Some int) (code (op iconst_2 ∷ op ireturn ∷ []) []) ∷ method_with 1 (codes "q") ([]) (Some int) (code (op aload_0 ∷ method invokespecial c_type (codes "m") ([]) (Some int) ∷ op ireturn ∷ []) [])
    ∷ method_with 1 (codes "r") ([]) (Some int) (code (op aload_0 ∷ method invokevirtual c_type (codes "m") ([]) (Some int) ∷ op ireturn ∷ []) []) ∷ [])) { superclass = Some (codes "C") }
    ∷ record (class_with (codes "E") [] (plain_constructor ∷ method_with 1025 (codes "a") [] (Some int) Abstract ∷ method_with 9 (codes "b") [] (Some int) Abstract ∷ [])) { interfaces = codes "I" ∷ []; flags = 1057 } ∷ []

abbrev on_family : List Instruction → Run
on_family instructions = with_methods [] family instructions

-- a private method is its own selection; invokespecial takes the superclass's; an array has the methods of Object
selected_methods : on_family (byte_of (class new c_type ∷ method invokevirtual c_type (codes "m") ([]) (Some int) ∷ [])) ∷ on_family (byte_of (class new d_type ∷ method invokevirtual c_type (codes "m") ([]) (Some int) ∷ [])) ∷ on_family (byte_of (class new d_type ∷ method invokevirtual d_type (codes "n") ([]) (Some int) ∷ [])) ∷ on_family (byte_of (class new d_type ∷ interface_method 1 i_type (codes "m") [] (Some int) ∷ [])) ∷ on_family (byte_of (class new d_type ∷ interface_method 1 j_type (codes "n") [] (Some int) ∷ [])) ∷ on_family (byte_of (class new c_type ∷ interface_method 1 i_type (codes "m") [] (Some int) ∷ [])) ∷ on_family (byte_of (class new d_type ∷ method invokevirtual c_type (codes "p") ([]) (Some int) ∷ [])) ∷ on_family (byte_of (class new d_type ∷ method invokevirtual d_type (codes "p") ([]) (Some int) ∷ [])) ∷ on_family (byte_of (class new d_type ∷ method invokevirtual d_type (codes "q") ([]) (Some int) ∷ [])) ∷ on_family (byte_of (class new d_type ∷ method invokevirtual d_type (codes "r") ([]) (Some int) ∷ [])) ∷ on_family (byte_of (method invokestatic d_type (codes "t") ([]) (Some int) ∷ [])) ∷ on_family (byte_of (op aload_0 ∷ method invokevirtual object (codes "hashCode") ([]) (Some int) ∷ [])) ∷ on_family (byte_of (class new c_type ∷ method invokespecial c_type (codes "m") ([]) (Some int) ∷ [])) ∷ []
    ≡ RunEnds (outcomes.OkBytes (5 ∷ [])) (costs 40 1 0 0) ∷ RunEnds (outcomes.OkBytes (4 ∷ [])) (costs 40 1 0 0) ∷ RunEnds (outcomes.OkBytes (2 ∷ [])) (costs 40 1 0 0) ∷ RunEnds (outcomes.OkBytes (4 ∷ [])) (costs 40 1 0 0) ∷ RunEnds (outcomes.OkBytes (2 ∷ [])) (costs 40 1 0 0) ∷ RunEnds (outcomes.OkBytes (5 ∷ [])) (costs 40 1 0 0) ∷ RunEnds (outcomes.OkBytes (1 ∷ [])) (costs 40 1 0 0) ∷ RunEnds (outcomes.OkBytes (2 ∷ [])) (costs 40 1 0 0) ∷ RunEnds (outcomes.OkBytes (5 ∷ [])) (costs 40 2 0 0) ∷ RunEnds (outcomes.OkBytes (4 ∷ [])) (costs 40 2 0 0) ∷ RunEnds (outcomes.OkBytes (3 ∷ [])) (costs 24 1 0 0) ∷ RunEnds (outcomes.OkBytes (1 ∷ [])) (costs 24 1 0 0) ∷ RunEnds (outcomes.OkBytes (5 ∷ [])) (costs 40 1 0 0) ∷ []
unfolding int_wrap digits instruction_of simple code_of has_initialiser most_classes chain_of interfaces_from interfaces_above is_subclass is_subtype field_order resolve_method resolve_field select special_method field_count place_of static_place metered_program raw_program sandbox_program compute convert moved on_values load_element store_element array_length make_array charge_one charge_all answer host_answer perform native with_literal invoke effect pays used_class is_initialised mark with_constants constants_of initialise unwound settle step begin amounts turn turns metered_run steps plain_run
selected_methods = refl

-- a private method of the receiver's class hides nothing of the class above it
hidden_methods : on_family (byte_of (class new d_type ∷ method invokevirtual c_type (codes "w") ([]) (Some int) ∷ [])) ∷ on_family (byte_of (class new d_type ∷ method invokevirtual d_type (codes "w") ([]) (Some int) ∷ [])) ∷ []
    ≡ RunEnds (outcomes.OkBytes (5 ∷ [])) (costs 40 1 0 0) ∷ RunEnds (outcomes.OkBytes (2 ∷ [])) (costs 40 1 0 0) ∷ []
unfolding int_wrap digits instruction_of simple code_of has_initialiser most_classes chain_of interfaces_from interfaces_above is_subclass is_subtype field_order resolve_method resolve_field select special_method field_count place_of static_place metered_program raw_program sandbox_program compute convert moved on_values load_element store_element array_length make_array charge_one charge_all answer host_answer perform native with_literal invoke effect pays used_class is_initialised mark with_constants constants_of initialise unwound settle step begin amounts turn turns metered_run steps plain_run
hidden_methods = refl

-- selection finds no code, or what is called is abstract
no_code : on_family (class new e_type ∷ interface_method 1 i_type (codes "m") [] (Some int) ∷ op pop ∷ op aload_0 ∷ op areturn ∷ []) ∷ on_family (class new e_type ∷ method invokevirtual e_type (codes "a") ([]) (Some int) ∷ op pop ∷ op aload_0 ∷ op areturn ∷ []) ∷ on_family (class new e_type ∷ method invokespecial e_type (codes "a") ([]) (Some int) ∷ op pop ∷ op aload_0 ∷ op areturn ∷ []) ∷ on_family (method invokestatic e_type (codes "b") ([]) (Some int) ∷ op pop ∷ op aload_0 ∷ op areturn ∷ []) ∷ []
    ≡ RunEnds outcomes.Link (costs 16 1 0 0) ∷ RunEnds outcomes.Link (costs 16 1 0 0) ∷ RunEnds outcomes.Link (costs 16 1 0 0) ∷ RunEnds outcomes.Link (costs 0 1 0 0) ∷ []
unfolding int_wrap digits instruction_of simple code_of has_initialiser most_classes chain_of interfaces_from interfaces_above is_subclass is_subtype field_order resolve_method resolve_field select special_method field_count place_of static_place metered_program raw_program sandbox_program compute convert moved on_values load_element store_element array_length make_array charge_one charge_all answer host_answer perform native with_literal invoke effect pays used_class is_initialised mark with_constants constants_of initialise unwound settle step begin amounts turn turns metered_run steps plain_run
no_code = refl

-- a receiver of another class, and an argument of a native method of another class
wrong_receivers : on_family (class new object ∷ method invokevirtual c_type (codes "m") ([]) (Some int) ∷ op pop ∷ op aload_0 ∷ op areturn ∷ []) ∷ on_family (class new c_type ∷ method invokevirtual d_type (codes "m") ([]) (Some int) ∷ op pop ∷ op aload_0 ∷ op areturn ∷ []) ∷ on_family (class new object ∷ interface_method 1 i_type (codes "m") [] (Some int) ∷ op pop ∷ op aload_0 ∷ op areturn ∷ []) ∷ on_family (class new object ∷ construct c_type [] ∷ op aload_0 ∷ op areturn ∷ []) ∷ on_family (class new object ∷ method invokespecial c_type (codes "m") ([]) (Some int) ∷ op pop ∷ op aload_0 ∷ op areturn ∷ []) ∷ on_family (constant (AText (codes "ab")) ∷ op aload_0 ∷ method invokevirtual string (codes "concat") (string ∷ []) (Some string) ∷ op pop ∷ op aload_0 ∷ op areturn ∷ []) ∷ on_family (constant (AText (codes "ab")) ∷ op aconst_null ∷ method invokevirtual string (codes "concat") (string ∷ []) (Some string) ∷ op pop ∷ op aload_0 ∷ op areturn ∷ []) ∷ []
    ≡ RunEnds outcomes.Link (costs 16 1 0 0) ∷ RunEnds outcomes.Link (costs 16 1 0 0) ∷ RunEnds outcomes.Link (costs 16 1 0 0) ∷ RunEnds outcomes.Link (costs 16 1 0 0) ∷ RunEnds outcomes.Link (costs 16 1 0 0) ∷ RunEnds outcomes.Link (costs 0 1 0 0) ∷ RunEnds (throws_plainly null_pointer) (costs 0 1 0 0) ∷ []
unfolding int_wrap digits instruction_of simple code_of has_initialiser most_classes chain_of interfaces_from interfaces_above is_subclass is_subtype field_order resolve_method resolve_field select special_method field_count place_of static_place metered_program raw_program sandbox_program compute convert moved on_values load_element store_element array_length make_array charge_one charge_all answer host_answer perform native with_literal invoke effect pays used_class is_initialised mark with_constants constants_of initialise unwound settle step begin amounts turn turns metered_run steps plain_run
wrong_receivers = refl

-- a long takes two slots; what stands below the arguments stays
arguments : with_methods (method_with 9 (codes "f") (long ∷ int ∷ object ∷ []) (Some int) (code (op iload_2 ∷ op ireturn ∷ []) []) ∷ []) [] (byte_of (op lconst_1 ∷ op iconst_4 ∷ op aload_0 ∷ method invokestatic a_type (codes "f") (long ∷ int ∷ object ∷ []) (Some int) ∷ [])) ∷ with_methods (method_with 9 (codes "f") (long ∷ int ∷ object ∷ []) (Some int) (code (op lload_0 ∷ op l2i ∷ op ireturn ∷ []) []) ∷ []) [] (byte_of (op lconst_1 ∷ op iconst_4 ∷ op aload_0 ∷ method invokestatic a_type (codes "f") (long ∷ int ∷ object ∷ []) (Some int) ∷ [])) ∷ with_methods (method_with 9 (codes "f") (int ∷ long ∷ []) (Some byte_array) (code (op lload_1 ∷ op l2i ∷ newarray 8 ∷ op areturn ∷ []) []) ∷ []) [] (op iconst_4 ∷ op lconst_1 ∷ method invokestatic a_type (codes "f") (int ∷ long ∷ []) (Some byte_array) ∷ op areturn ∷ []) ∷ with_methods (method_with 9 (codes "f") (int ∷ []) None (code (op return ∷ []) []) ∷ []) [] (op aload_0 ∷ op iconst_4 ∷ method invokestatic a_type (codes "f") (int ∷ []) None ∷ op areturn ∷ []) ∷ []
    ≡ RunEnds (outcomes.OkBytes (4 ∷ [])) (costs 24 1 0 0) ∷ RunEnds (outcomes.OkBytes (1 ∷ [])) (costs 24 1 0 0) ∷ RunEnds (outcomes.OkBytes (0 ∷ [])) (costs 24 1 0 0) ∷ RunEnds (outcomes.OkBytes (1 ∷ 2 ∷ [])) (costs 0 1 0 0) ∷ []
unfolding int_wrap digits instruction_of simple code_of has_initialiser most_classes chain_of interfaces_from interfaces_above is_subclass is_subtype field_order resolve_method resolve_field select special_method field_count place_of static_place metered_program raw_program sandbox_program compute convert moved on_values load_element store_element array_length make_array charge_one charge_all answer host_answer perform native with_literal invoke effect pays used_class is_initialised mark with_constants constants_of initialise unwound settle step begin amounts turn turns metered_run steps plain_run
arguments = refl

-- no such member, no such family, no operand, and past the end of the code
no_steps : of_code (op aload_0 ∷ method invokevirtual object (codes "none") ([]) None ∷ op aload_0 ∷ op areturn ∷ []) ∷ of_code (field getstatic a_type (codes "none") int ∷ op pop ∷ op aload_0 ∷ op areturn ∷ []) ∷ of_code (op fconst_0 ∷ op pop ∷ op aload_0 ∷ op areturn ∷ []) ∷ of_code (op pop ∷ op aload_0 ∷ op areturn ∷ []) ∷ of_code (op aload_0 ∷ []) ∷ of_code (op aload_0 ∷ jump goto 9 ∷ []) ∷ of_code (constant Another ∷ op aload_0 ∷ op areturn ∷ []) ∷ of_code (op iconst_0 ∷ method invokevirtual object (codes "hashCode") ([]) (Some int) ∷ op pop ∷ op aload_0 ∷ op areturn ∷ []) ∷ of_code (class multianewarray object ∷ op aload_0 ∷ op areturn ∷ []) ∷ []
    ≡ Stuck ∷ Stuck ∷ Stuck ∷ Stuck ∷ Stuck ∷ Stuck ∷ Stuck ∷ Stuck ∷ Stuck ∷ []
unfolding int_wrap digits instruction_of simple code_of has_initialiser most_classes chain_of interfaces_from interfaces_above is_subclass is_subtype field_order resolve_method resolve_field select special_method field_count place_of static_place metered_program raw_program sandbox_program compute convert moved on_values load_element store_element array_length make_array charge_one charge_all answer host_answer perform native with_literal invoke effect pays used_class is_initialised mark with_constants constants_of initialise unwound settle step begin amounts turn turns metered_run steps plain_run
no_steps = refl

-- B, and C below it, with static fields, constants and initialisers
abbrev statics_of : List Instruction → List Instruction → List Class
statics_of above below = class_with (codes "B") (field_with 8 (codes "x") int (Some (Int (pos 7))) ∷ field_with 8 (codes "y") int None ∷ []) (initialiser_with above ∷ method_with 9 (codes "g") ([]) (Some int) (code (field getstatic (class_type (codes "B")) (codes "y") int ∷ op ireturn ∷ []) []) ∷ [])
    ∷ record (class_with (codes "C") (field_with 8 (codes "z") int None ∷ []) (plain_constructor ∷ initialiser_with below ∷ [])) { superclass = Some (codes "B") } ∷ []

abbrev b_type : Ty
b_type = class_type (codes "B")

abbrev init_of : Name → Outcome
init_of name = outcomes.Init name (lang_name null_pointer) messages.Null

-- the highest superclass first; a static member uses the class that declares it; an array uses none; an initialiser runs once
initialised : with_methods [] (statics_of (op iconst_5 ∷ field putstatic b_type (codes "y") int ∷ op return ∷ []) (op iconst_4 ∷ field putstatic b_type (codes "y") int ∷ op return ∷ [])) (byte_of (class new c_type ∷ op pop ∷ field getstatic b_type (codes "y") int ∷ [])) ∷ with_methods [] (statics_of (op iconst_5 ∷ field putstatic b_type (codes "y") int ∷ op return ∷ []) (op iconst_4 ∷ field putstatic b_type (codes "y") int ∷ op return ∷ [])) (byte_of (field getstatic c_type (codes "y") int ∷ [])) ∷ with_methods [] (statics_of (op iconst_5 ∷ field putstatic b_type (codes "y") int ∷ op return ∷ []) (op iconst_4 ∷ field putstatic b_type (codes "y") int ∷ op return ∷ [])) (byte_of (field getstatic c_type (codes "z") int ∷ op pop ∷ field getstatic b_type (codes "y") int ∷ [])) ∷ with_methods [] (statics_of (op iconst_5 ∷ field putstatic b_type (codes "y") int ∷ op return ∷ []) (op iconst_4 ∷ field putstatic b_type (codes "y") int ∷ op return ∷ [])) (byte_of (method invokestatic c_type (codes "g") ([]) (Some int) ∷ [])) ∷ with_methods [] (statics_of (op iconst_5 ∷ field putstatic b_type (codes "y") int ∷ op return ∷ []) (op iconst_4 ∷ field putstatic b_type (codes "y") int ∷ op return ∷ [])) (byte_of (op iconst_0 ∷ field putstatic b_type (codes "y") int ∷ field getstatic b_type (codes "y") int ∷ [])) ∷ with_methods [] (statics_of (op iconst_5 ∷ field putstatic b_type (codes "y") int ∷ op return ∷ []) (op iconst_4 ∷ field putstatic b_type (codes "y") int ∷ op return ∷ [])) (byte_of (op iconst_0 ∷ class anewarray c_type ∷ op pop ∷ field getstatic b_type (codes "y") int ∷ [])) ∷ with_methods [] (statics_of (op return ∷ []) (op return ∷ [])) (byte_of (field getstatic b_type (codes "x") int ∷ [])) ∷ with_methods [] (statics_of (field getstatic b_type (codes "y") int ∷ op iconst_1 ∷ op iadd ∷ field putstatic b_type (codes "y") int ∷ op return ∷ []) (op return ∷ [])) (byte_of (field getstatic b_type (codes "y") int ∷ field getstatic b_type (codes "y") int ∷ op iadd ∷ [])) ∷ with_methods [] (statics_of (op iconst_5 ∷ field putstatic b_type (codes "y") int ∷ op return ∷ []) (op aconst_null ∷ op athrow ∷ [])) (byte_of (field getstatic b_type (codes "y") int ∷ [])) ∷ []
    ≡ RunEnds (outcomes.OkBytes (4 ∷ [])) (costs 40 0 0 0) ∷ RunEnds (outcomes.OkBytes (5 ∷ [])) (costs 24 0 0 0) ∷ RunEnds (outcomes.OkBytes (4 ∷ [])) (costs 24 0 0 0) ∷ RunEnds (outcomes.OkBytes (5 ∷ [])) (costs 24 1 0 0) ∷ RunEnds (outcomes.OkBytes (0 ∷ [])) (costs 24 0 0 0) ∷ RunEnds (outcomes.OkBytes (5 ∷ [])) (costs 40 0 0 0) ∷ RunEnds (outcomes.OkBytes (7 ∷ [])) (costs 24 0 0 0) ∷ RunEnds (outcomes.OkBytes (2 ∷ [])) (costs 24 0 0 0) ∷ RunEnds (outcomes.OkBytes (5 ∷ [])) (costs 24 0 0 0) ∷ []
unfolding int_wrap digits instruction_of simple code_of has_initialiser most_classes chain_of interfaces_from interfaces_above is_subclass is_subtype field_order resolve_method resolve_field select special_method field_count place_of static_place metered_program raw_program sandbox_program compute convert moved on_values load_element store_element array_length make_array charge_one charge_all answer host_answer perform native with_literal invoke effect pays used_class is_initialised mark with_constants constants_of initialise unwound settle step begin amounts turn turns metered_run steps plain_run
initialised = refl

failing_initialisers : with_methods [] (statics_of (op aconst_null ∷ op athrow ∷ []) (op iconst_4 ∷ field putstatic b_type (codes "y") int ∷ op return ∷ [])) (byte_of (class new c_type ∷ op pop ∷ op iconst_0 ∷ [])) ∷ with_methods [] (statics_of (op iconst_5 ∷ field putstatic b_type (codes "y") int ∷ op return ∷ []) (op aconst_null ∷ op athrow ∷ [])) (byte_of (class new c_type ∷ op pop ∷ op iconst_0 ∷ [])) ∷ with_methods [] (statics_of (op aconst_null ∷ op arraylength ∷ op pop ∷ op return ∷ []) (op return ∷ [])) (byte_of (field getstatic b_type (codes "y") int ∷ [])) ∷ []
    ≡ RunEnds (init_of (codes "B")) (costs 40 0 0 1) ∷ RunEnds (init_of (codes "C")) (costs 40 0 0 1) ∷ RunEnds (init_of (codes "B")) (costs 24 0 0 0) ∷ []
unfolding int_wrap digits instruction_of simple code_of has_initialiser most_classes chain_of interfaces_from interfaces_above is_subclass is_subtype field_order resolve_method resolve_field select special_method field_count place_of static_place metered_program raw_program sandbox_program compute convert moved on_values load_element store_element array_length make_array charge_one charge_all answer host_answer perform native with_literal invoke effect pays used_class is_initialised mark with_constants constants_of initialise unwound settle step begin amounts turn turns metered_run steps plain_run
failing_initialisers = refl

-- an initialiser is static, has no parameters and has code
not_initialisers : with_methods (method_with 8 (codes "<clinit>") (int ∷ []) None (code (op aconst_null ∷ op athrow ∷ []) []) ∷ []) [] (op aload_0 ∷ op areturn ∷ []) ∷ with_methods (method_with 0 (codes "<clinit>") [] None (code (op aconst_null ∷ op athrow ∷ []) []) ∷ []) [] (op aload_0 ∷ op areturn ∷ []) ∷ with_methods (method_with 1032 (codes "<clinit>") [] None Abstract ∷ []) [] (op aload_0 ∷ op areturn ∷ []) ∷ with_methods (method_with 8 (codes "clinit") [] None (code (op aconst_null ∷ op athrow ∷ []) []) ∷ []) [] (op aload_0 ∷ op areturn ∷ []) ∷ with_methods (initialiser_with (op aconst_null ∷ op athrow ∷ []) ∷ []) [] (op aload_0 ∷ op areturn ∷ []) ∷ []
    ≡ free (outcomes.OkBytes (1 ∷ 2 ∷ [])) ∷ free (outcomes.OkBytes (1 ∷ 2 ∷ [])) ∷ free (outcomes.OkBytes (1 ∷ 2 ∷ [])) ∷ free (outcomes.OkBytes (1 ∷ 2 ∷ [])) ∷ RunEnds (init_of (codes "A")) (costs 0 0 0 1) ∷ []
unfolding int_wrap digits instruction_of simple code_of has_initialiser most_classes chain_of interfaces_from interfaces_above is_subclass is_subtype field_order resolve_method resolve_field select special_method field_count place_of static_place metered_program raw_program sandbox_program compute convert moved on_values load_element store_element array_length make_array charge_one charge_all answer host_answer perform native with_literal invoke effect pays used_class is_initialised mark with_constants constants_of initialise unwound settle step begin amounts turn turns metered_run steps plain_run
not_initialisers = refl

handler_in_initialiser : with_methods (method_with 8 (codes "<clinit>") [] None (code (op aconst_null ∷ op arraylength ∷ op pop ∷ op return ∷ op pop ∷ op return ∷ []) (catch_all 0 2 4 ∷ [])) ∷ []) [] (op aload_0 ∷ op areturn ∷ []) ∷ []
    ≡ RunEnds (outcomes.OkBytes (1 ∷ 2 ∷ [])) (costs 0 0 0 1) ∷ []
unfolding int_wrap digits instruction_of simple code_of has_initialiser most_classes chain_of interfaces_from interfaces_above is_subclass is_subtype field_order resolve_method resolve_field select special_method field_count place_of static_place metered_program raw_program sandbox_program compute convert moved on_values load_element store_element array_length make_array charge_one charge_all answer host_answer perform native with_literal invoke effect pays used_class is_initialised mark with_constants constants_of initialise unwound settle step begin amounts turn turns metered_run steps plain_run
handler_in_initialiser = refl

abbrev constants_class : Class
constants_class = class_with (codes "K") (field_with 24 (codes "i") int (Some (Int (negsuc 4))) ∷ field_with 24 (codes "f") (record { dims = 0; of = ofs.Base bases.Float }) None ∷ field_with 24 (codes "j") long (Some (Long (pos 9)))
    ∷ field_with 24 (codes "s") string (Some (Text (codes "ab"))) ∷ field_with 24 (codes "t") string (Some (Text (codes "ab"))) ∷ field_with 24 (codes "u") string (Some (Text (codes "cd")))
    ∷ field_with 0 (codes "n") int (Some (Int (pos 3))) ∷ field_with 24 (codes "w") int (Some Unfit) ∷ field_with 24 (codes "last") int (Some (Int (pos 6))) ∷ []) []

abbrev k_type : Ty
k_type = class_type (codes "K")

abbrev on_constants : List Instruction → Run
on_constants instructions = with_methods [] (constants_class ∷ []) instructions

-- one object for each text; two texts of one length are two; a float has a place and no value
constants : on_constants (byte_of (field getstatic k_type (codes "i") int ∷ [])) ∷ on_constants (byte_of (field getstatic k_type (codes "j") long ∷ op l2i ∷ [])) ∷ on_constants (byte_of (field getstatic k_type (codes "last") int ∷ [])) ∷ on_constants (byte_of (field getstatic k_type (codes "w") int ∷ [])) ∷ on_constants (field getstatic k_type (codes "f") (record { dims = 0; of = ofs.Base bases.Float }) ∷ op aload_0 ∷ op areturn ∷ []) ∷ on_constants (byte_of (field getstatic k_type (codes "s") string ∷ field getstatic k_type (codes "t") string ∷ jump if_acmpeq 9 ∷ op iconst_0 ∷ jump goto 10 ∷ op iconst_1 ∷ [])) ∷ on_constants (byte_of (field getstatic k_type (codes "s") string ∷ field getstatic k_type (codes "u") string ∷ jump if_acmpeq 9 ∷ op iconst_0 ∷ jump goto 10 ∷ op iconst_1 ∷ [])) ∷ on_constants (byte_of (field getstatic k_type (codes "s") string ∷ constant (AText (codes "ab")) ∷ jump if_acmpeq 9 ∷ op iconst_0 ∷ jump goto 10 ∷ op iconst_1 ∷ [])) ∷ on_constants (byte_of (constant (AText (codes "xy")) ∷ constant (AText (codes "xz")) ∷ jump if_acmpeq 9 ∷ op iconst_0 ∷ jump goto 10 ∷ op iconst_1 ∷ [])) ∷ on_constants (byte_of (constant (AText (codes "xy")) ∷ constant (AText (codes "xy")) ∷ jump if_acmpeq 9 ∷ op iconst_0 ∷ jump goto 10 ∷ op iconst_1 ∷ [])) ∷ []
    ≡ RunEnds (outcomes.OkBytes (251 ∷ [])) (costs 24 0 0 0) ∷ RunEnds (outcomes.OkBytes (9 ∷ [])) (costs 24 0 0 0) ∷ RunEnds (outcomes.OkBytes (6 ∷ [])) (costs 24 0 0 0) ∷ RunEnds (outcomes.OkBytes (0 ∷ [])) (costs 24 0 0 0) ∷ Stuck ∷ RunEnds (outcomes.OkBytes (1 ∷ [])) (costs 24 0 1 0) ∷ RunEnds (outcomes.OkBytes (0 ∷ [])) (costs 24 0 2 0) ∷ RunEnds (outcomes.OkBytes (1 ∷ [])) (costs 24 0 1 0) ∷ RunEnds (outcomes.OkBytes (0 ∷ [])) (costs 24 0 2 0) ∷ RunEnds (outcomes.OkBytes (1 ∷ [])) (costs 24 0 1 0) ∷ []
unfolding int_wrap digits instruction_of simple code_of has_initialiser most_classes chain_of interfaces_from interfaces_above is_subclass is_subtype field_order resolve_method resolve_field select special_method field_count place_of static_place metered_program raw_program sandbox_program compute convert moved on_values load_element store_element array_length make_array charge_one charge_all answer host_answer perform native with_literal invoke effect pays used_class is_initialised mark with_constants constants_of initialise unwound settle step begin amounts turn turns metered_run steps plain_run
constants = refl

-- by place, by class and in order; the stack is the exception alone; each arrival pays
caught : runs (a_with (verify_with (op aconst_null ∷ op arraylength ∷ op pop ∷ op aload_0 ∷ op areturn ∷ op pop ∷ op aconst_null ∷ op areturn ∷ []) (catch_all 1 2 5 ∷ []) ∷ []) ∷ []) (1 ∷ 2 ∷ []) ∷ runs (a_with (verify_with (op aconst_null ∷ op arraylength ∷ op pop ∷ op aload_0 ∷ op areturn ∷ op pop ∷ op aconst_null ∷ op areturn ∷ []) (catch_all 0 1 5 ∷ []) ∷ []) ∷ []) (1 ∷ 2 ∷ []) ∷ runs (a_with (verify_with (op aconst_null ∷ op arraylength ∷ op pop ∷ op aload_0 ∷ op areturn ∷ op pop ∷ op aconst_null ∷ op areturn ∷ []) (catch_all 2 5 5 ∷ []) ∷ []) ∷ []) (1 ∷ 2 ∷ []) ∷ runs (a_with (verify_with (op aconst_null ∷ op arraylength ∷ op pop ∷ op aload_0 ∷ op areturn ∷ op pop ∷ op aconst_null ∷ op areturn ∷ []) (catch_all 0 2 5 ∷ []) ∷ []) ∷ []) (1 ∷ 2 ∷ []) ∷ runs (a_with (verify_with (op aconst_null ∷ op arraylength ∷ op pop ∷ op aload_0 ∷ op areturn ∷ op pop ∷ op aconst_null ∷ op areturn ∷ []) (catch (lang_name null_pointer) 1 2 5 ∷ []) ∷ []) ∷ []) (1 ∷ 2 ∷ []) ∷ runs (a_with (verify_with (op aconst_null ∷ op arraylength ∷ op pop ∷ op aload_0 ∷ op areturn ∷ op pop ∷ op aconst_null ∷ op areturn ∷ []) (catch (lang_name (codes "RuntimeException")) 1 2 5 ∷ []) ∷ []) ∷ []) (1 ∷ 2 ∷ []) ∷ runs (a_with (verify_with (op aconst_null ∷ op arraylength ∷ op pop ∷ op aload_0 ∷ op areturn ∷ op pop ∷ op aconst_null ∷ op areturn ∷ []) (catch (lang_name (codes "Object")) 1 2 5 ∷ []) ∷ []) ∷ []) (1 ∷ 2 ∷ []) ∷ runs (a_with (verify_with (op aconst_null ∷ op arraylength ∷ op pop ∷ op aload_0 ∷ op areturn ∷ op pop ∷ op aconst_null ∷ op areturn ∷ []) (catch (codes "java/io/Serializable") 1 2 5 ∷ []) ∷ []) ∷ []) (1 ∷ 2 ∷ []) ∷ runs (a_with (verify_with (op aconst_null ∷ op arraylength ∷ op pop ∷ op aload_0 ∷ op areturn ∷ op pop ∷ op aconst_null ∷ op areturn ∷ []) (catch (lang_name (codes "Error")) 1 2 5 ∷ []) ∷ []) ∷ []) (1 ∷ 2 ∷ []) ∷ runs (a_with (verify_with (op aconst_null ∷ op arraylength ∷ op pop ∷ op aload_0 ∷ op areturn ∷ op pop ∷ op aconst_null ∷ op areturn ∷ []) (catch (lang_name (codes "ArithmeticException")) 1 2 5 ∷ catch_all 1 2 5 ∷ []) ∷ []) ∷ []) (1 ∷ 2 ∷ []) ∷ runs (a_with (verify_with (op aconst_null ∷ op arraylength ∷ op pop ∷ op aload_0 ∷ op areturn ∷ op pop ∷ op aconst_null ∷ op areturn ∷ []) (record (catch_all 1 2 5) { catches = Some (AText (codes "a")) } ∷ []) ∷ []) ∷ []) (1 ∷ 2 ∷ []) ∷ runs (a_with (verify_with (op aconst_null ∷ op arraylength ∷ op pop ∷ op aload_0 ∷ op areturn ∷ op pop ∷ op aconst_null ∷ op areturn ∷ []) (catch_all 1 2 2 ∷ catch_all 1 2 5 ∷ []) ∷ []) ∷ []) (1 ∷ 2 ∷ []) ∷ runs (a_with (verify_with (op iconst_0 ∷ op aconst_null ∷ op arraylength ∷ op pop ∷ op pop ∷ op aload_0 ∷ op areturn ∷ []) (catch_all 1 3 3 ∷ []) ∷ []) ∷ []) (1 ∷ 2 ∷ []) ∷ runs (a_with (verify_with (op nop ∷ op nop ∷ op aload_0 ∷ op areturn ∷ []) (catch_all 0 1 1 ∷ []) ∷ []) ∷ []) (1 ∷ 2 ∷ []) ∷ runs (a_with (verify_with (jump goto 2 ∷ op nop ∷ op aload_0 ∷ op areturn ∷ []) (catch_all 0 1 2 ∷ []) ∷ []) ∷ []) (1 ∷ 2 ∷ []) ∷ []
    ≡ RunEnds outcomes.OkNull (costs 0 0 0 1) ∷ raised null_pointer ∷ raised null_pointer ∷ RunEnds outcomes.OkNull (costs 0 0 0 1) ∷ RunEnds outcomes.OkNull (costs 0 0 0 1) ∷ RunEnds outcomes.OkNull (costs 0 0 0 1) ∷ RunEnds outcomes.OkNull (costs 0 0 0 1) ∷ RunEnds outcomes.OkNull (costs 0 0 0 1) ∷ raised null_pointer ∷ RunEnds outcomes.OkNull (costs 0 0 0 1) ∷ raised null_pointer ∷ RunEnds (outcomes.OkBytes (1 ∷ 2 ∷ [])) (costs 0 0 0 1) ∷ Stuck ∷ RunEnds (outcomes.OkBytes (1 ∷ 2 ∷ [])) (costs 0 0 0 1) ∷ RunEnds (outcomes.OkBytes (1 ∷ 2 ∷ [])) (costs 0 0 1 1) ∷ []
unfolding int_wrap digits instruction_of simple code_of has_initialiser most_classes chain_of interfaces_from interfaces_above is_subclass is_subtype field_order resolve_method resolve_field select special_method field_count place_of static_place metered_program raw_program sandbox_program compute convert moved on_values load_element store_element array_length make_array charge_one charge_all answer host_answer perform native with_literal invoke effect pays used_class is_initialised mark with_constants constants_of initialise unwound settle step begin amounts turn turns metered_run steps plain_run
caught = refl

-- at the invoke of the caller
caught_below : runs (a_with (method_with 9 (codes "f") ([]) None (code (op iconst_0 ∷ op aconst_null ∷ op arraylength ∷ op return ∷ []) []) ∷ verify_with (op iconst_5 ∷ method invokestatic a_type (codes "f") ([]) None ∷ op aload_0 ∷ op areturn ∷ op pop ∷ op aconst_null ∷ op areturn ∷ []) (catch_all 1 2 4 ∷ []) ∷ []) ∷ []) [] ∷ runs (a_with (method_with 9 (codes "f") ([]) None (code (op aconst_null ∷ op arraylength ∷ op return ∷ []) []) ∷ verify_with (op iconst_5 ∷ method invokestatic a_type (codes "f") ([]) None ∷ op aload_0 ∷ op areturn ∷ op pop ∷ op aconst_null ∷ op areturn ∷ []) (catch_all 2 3 4 ∷ []) ∷ []) ∷ []) [] ∷ []
    ≡ RunEnds outcomes.OkNull (costs 0 1 0 1) ∷ RunEnds (throws_plainly null_pointer) (costs 0 1 0 0) ∷ []
unfolding int_wrap digits instruction_of simple code_of has_initialiser most_classes chain_of interfaces_from interfaces_above is_subclass is_subtype field_order resolve_method resolve_field select special_method field_count place_of static_place metered_program raw_program sandbox_program compute convert moved on_values load_element store_element array_length make_array charge_one charge_all answer host_answer perform native with_literal invoke effect pays used_class is_initialised mark with_constants constants_of initialise unwound settle step begin amounts turn turns metered_run steps plain_run
caught_below = refl

-- a plain run without a host, whose heap has this limit
abbrev limited : ℕ → List Instruction → Option Report
limited limit instructions =
    plain_run (raw_program (a_with (verify_with instructions [] ∷ []) ∷ [])) [] (record { limit = Some limit; counting = Uncounted }) entry (1 ∷ 2 ∷ []) [] 100

abbrev ran : Outcome → ℕ → Option Report
ran outcome n = Some (record { outcome = outcome; costs = costs 0 0 0 0; steps = n; taken = 0 })

-- an object that fits exactly is made
limits : limited 24 (op aload_0 ∷ op areturn ∷ []) ∷ limited 23 (op aload_0 ∷ op areturn ∷ []) ∷ limited 48 (op iconst_1 ∷ newarray 8 ∷ op pop ∷ op aload_0 ∷ op areturn ∷ []) ∷ limited 47 (op iconst_1 ∷ newarray 8 ∷ op pop ∷ op aload_0 ∷ op areturn ∷ []) ∷ limited 40 (class new object ∷ op pop ∷ op aload_0 ∷ op areturn ∷ []) ∷ limited 39 (class new object ∷ op pop ∷ op aload_0 ∷ op areturn ∷ []) ∷ limited 48 (constant (AText (codes "abcd")) ∷ op pop ∷ op aload_0 ∷ op areturn ∷ []) ∷ limited 47 (constant (AText (codes "abcd")) ∷ op pop ∷ op aload_0 ∷ op areturn ∷ []) ∷ limited 56 (op aconst_null ∷ op arraylength ∷ []) ∷ limited 55 (op aconst_null ∷ op arraylength ∷ []) ∷ limited 72 (op iconst_4 ∷ method invokestatic string (codes "valueOf") (int ∷ []) (Some string) ∷ op pop ∷ op aload_0 ∷ op areturn ∷ []) ∷ limited 47 (op iconst_4 ∷ method invokestatic string (codes "valueOf") (int ∷ []) (Some string) ∷ op pop ∷ op aload_0 ∷ op areturn ∷ []) ∷ limited 56 (op iconst_m1 ∷ newarray 8 ∷ op areturn ∷ []) ∷ []
    ≡ ran (outcomes.OkBytes (1 ∷ 2 ∷ [])) 2 ∷ ran (outcomes.HeapFull 0 24) 0 ∷ ran (outcomes.OkBytes (1 ∷ 2 ∷ [])) 5 ∷ ran (outcomes.HeapFull 24 24) 2 ∷ ran (outcomes.OkBytes (1 ∷ 2 ∷ [])) 4 ∷ ran (outcomes.HeapFull 24 16) 1 ∷ ran (outcomes.OkBytes (1 ∷ 2 ∷ [])) 4 ∷ ran (outcomes.HeapFull 24 24) 1 ∷ ran (throws_plainly null_pointer) 2 ∷ ran (outcomes.HeapFull 24 32) 2 ∷ ran (outcomes.OkBytes (1 ∷ 2 ∷ [])) 5 ∷ ran (outcomes.HeapFull 24 24) 2 ∷ ran (throws_plainly (codes "NegativeArraySizeException")) 2 ∷ []
unfolding int_wrap digits instruction_of simple code_of has_initialiser most_classes chain_of interfaces_from interfaces_above is_subclass is_subtype field_order resolve_method resolve_field select special_method field_count place_of static_place metered_program raw_program sandbox_program compute convert moved on_values load_element store_element array_length make_array charge_one charge_all answer host_answer perform native with_literal invoke effect pays used_class is_initialised mark with_constants constants_of initialise unwound settle step begin amounts turn turns metered_run steps plain_run
limits = refl

abbrev hosted : List HostAnswer → List Instruction → Option Report
hosted answers instructions =
    plain_run (raw_program (a_with (verify_with (byte_of instructions) [] ∷ []) ∷ [])) [] (record { limit = None; counting = Uncounted }) entry (1 ∷ []) answers 100

abbrev asked : ℕ → ℕ → ℕ → Option Report
asked byte n taken = Some (record { outcome = outcomes.OkBytes (byte ∷ []); costs = costs 0 0 0 0; steps = n; taken = taken })

-- taken from the first on, and missing or of another kind there is no step
host_answers : hosted (host.Word (pos 7) ∷ []) (op aload_0 ∷ method invokevirtual object (codes "hashCode") ([]) (Some int) ∷ []) ∷ hosted (host.Word (pos 7) ∷ []) (op aload_0 ∷ method invokestatic (class_type (lang_name (codes "System"))) (codes "identityHashCode") (object ∷ []) (Some int) ∷ []) ∷ hosted (host.Word (pos 7) ∷ []) (op aconst_null ∷ method invokestatic (class_type (lang_name (codes "System"))) (codes "identityHashCode") (object ∷ []) (Some int) ∷ []) ∷ hosted (host.Nanos (pos 9) ∷ []) (method invokestatic (class_type (lang_name (codes "System"))) (codes "nanoTime") ([]) (Some long) ∷ op l2i ∷ []) ∷ hosted (host.Millis (pos 9) ∷ []) (method invokestatic (class_type (lang_name (codes "System"))) (codes "currentTimeMillis") ([]) (Some long) ∷ op l2i ∷ []) ∷ hosted (host.Word (negsuc 0) ∷ []) (op aload_0 ∷ method invokevirtual object (codes "toString") ([]) (Some string) ∷ method invokevirtual string (codes "length") ([]) (Some int) ∷ []) ∷ hosted [] (op aload_0 ∷ method invokevirtual object (codes "hashCode") ([]) (Some int) ∷ []) ∷ hosted (host.Nanos (pos 7) ∷ []) (op aload_0 ∷ method invokevirtual object (codes "hashCode") ([]) (Some int) ∷ []) ∷ hosted (host.Word (pos 7) ∷ []) (method invokestatic (class_type (lang_name (codes "System"))) (codes "nanoTime") ([]) (Some long) ∷ op l2i ∷ []) ∷ hosted (host.Word (pos 1) ∷ host.Word (pos 2) ∷ host.Word (pos 3) ∷ []) (op aload_0 ∷ method invokevirtual object (codes "hashCode") ([]) (Some int) ∷ op pop ∷ op aload_0 ∷ method invokevirtual object (codes "hashCode") ([]) (Some int) ∷ []) ∷ []
    ≡ asked 7 8 1 ∷ asked 7 8 1 ∷ asked 0 8 0 ∷ asked 9 8 1 ∷ asked 9 8 1 ∷ asked 11 9 1 ∷ None ∷ None ∷ None ∷ asked 2 11 2 ∷ []
unfolding int_wrap digits instruction_of simple code_of has_initialiser most_classes chain_of interfaces_from interfaces_above is_subclass is_subtype field_order resolve_method resolve_field select special_method field_count place_of static_place metered_program raw_program sandbox_program compute convert moved on_values load_element store_element array_length make_array charge_one charge_all answer host_answer perform native with_literal invoke effect pays used_class is_initialised mark with_constants constants_of initialise unwound settle step begin amounts turn turns metered_run steps plain_run units_read unit_read long_read two_read three_read
host_answers = refl

abbrev s_type : Ty
s_type = class_type (in_sandbox (codes "A"))

abbrev accounter : Ty
accounter = class_type (codes "djvm/Accounter")

abbrev sandboxed : Class → Class
sandboxed c = record c { superclass = Some (in_sandbox (lang_name (codes "Object"))) }

-- rewritten code under these thresholds and this limit
abbrev accounted : Thresholds → Option ℕ → List Method → Option Report
accounted most limit methods =
    plain_run (sandbox_program (sandboxed (class_with (in_sandbox (codes "A")) [] methods) ∷ [])) sandbox_prefix (record { limit = limit; counting = Accounted most }) (verify_of (in_sandbox (codes "A"))) (1 ∷ 2 ∷ []) [] 100

abbrev counted : Outcome → Costs → ℕ → Option Report
counted outcome charged n = Some (record { outcome = outcome; costs = charged; steps = n; taken = 0 })

-- the object that stops a run is thrown where a sum passes, is thrown again by checkCatch alone, and leaves an initialiser too
accounted_runs : accounted (at_most 99 9 9 9) None (verify_with (method invokestatic accounter (codes "recordJump") ([]) None ∷ method invokestatic accounter (codes "recordInvocation") ([]) None ∷ method invokestatic accounter (codes "recordInvocation") ([]) None ∷ method invokestatic accounter (codes "recordThrow") ([]) None ∷ method invokestatic accounter (codes "recordThrow") ([]) None ∷ method invokestatic accounter (codes "recordThrow") ([]) None ∷ op aload_0 ∷ op areturn ∷ []) ([]) ∷ []) ∷ accounted (at_most 99 9 9 9) None (verify_with (push bipush (pos 24) ∷ method invokestatic accounter (codes "recordAllocation") (int ∷ []) None ∷ op iconst_m1 ∷ method invokestatic accounter (codes "recordAllocation") (int ∷ []) None ∷ op iconst_5 ∷ op iconst_5 ∷ method invokestatic accounter (codes "recordArray") (int ∷ int ∷ []) None ∷ op iconst_m1 ∷ op iconst_5 ∷ method invokestatic accounter (codes "recordArray") (int ∷ int ∷ []) None ∷ op iconst_5 ∷ op iconst_m1 ∷ method invokestatic accounter (codes "recordArray") (int ∷ int ∷ []) None ∷ op aload_0 ∷ op areturn ∷ []) ([]) ∷ []) ∷ accounted (at_most 99 9 1 9) None (verify_with (method invokestatic accounter (codes "recordJump") ([]) None ∷ method invokestatic accounter (codes "recordJump") ([]) None ∷ op aload_0 ∷ op areturn ∷ []) ([]) ∷ []) ∷ accounted (at_most 99 1 9 9) None (verify_with (method invokestatic accounter (codes "recordInvocation") ([]) None ∷ method invokestatic accounter (codes "recordInvocation") ([]) None ∷ op aload_0 ∷ op areturn ∷ []) ([]) ∷ []) ∷ accounted (at_most 23 9 9 9) None (verify_with (push bipush (pos 24) ∷ method invokestatic accounter (codes "recordAllocation") (int ∷ []) None ∷ op aload_0 ∷ op areturn ∷ []) ([]) ∷ []) ∷ accounted (at_most 24 9 9 9) None (verify_with (push bipush (pos 24) ∷ method invokestatic accounter (codes "recordAllocation") (int ∷ []) None ∷ op aload_0 ∷ op areturn ∷ []) ([]) ∷ []) ∷ accounted (at_most 99 9 0 9) None (verify_with (method invokestatic accounter (codes "recordJump") ([]) None ∷ op aload_0 ∷ op areturn ∷ op pop ∷ op aload_0 ∷ op areturn ∷ []) (catch_all 0 1 3 ∷ []) ∷ []) ∷ accounted (at_most 99 9 0 9) None (verify_with (method invokestatic accounter (codes "recordJump") ([]) None ∷ op aload_0 ∷ op areturn ∷ op dup ∷ method invokestatic accounter (codes "checkCatch") (class_type (in_sandbox (lang_name (codes "Object"))) ∷ []) None ∷ op pop ∷ op aload_0 ∷ op areturn ∷ []) (catch_all 0 1 3 ∷ []) ∷ []) ∷ accounted (at_most 99 9 0 9) None (verify_with (op aconst_null ∷ op arraylength ∷ op areturn ∷ op dup ∷ method invokestatic accounter (codes "checkCatch") (class_type (in_sandbox (lang_name (codes "Object"))) ∷ []) None ∷ op pop ∷ op aload_0 ∷ op areturn ∷ []) (catch_all 0 2 3 ∷ []) ∷ []) ∷ accounted (at_most 99 9 0 9) None (verify_with (method invokestatic accounter (codes "recordJump") ([]) None ∷ op aload_0 ∷ op areturn ∷ op pop ∷ method invokestatic accounter (codes "recordThrow") ([]) None ∷ op aload_0 ∷ op areturn ∷ []) (catch_all 0 1 3 ∷ []) ∷ []) ∷ accounted (at_most 99 9 0 9) (Some 40) (verify_with (method invokestatic accounter (codes "recordJump") ([]) None ∷ op aload_0 ∷ op areturn ∷ []) ([]) ∷ []) ∷ accounted (at_most 99 9 0 9) (Some 39) (verify_with (method invokestatic accounter (codes "recordJump") ([]) None ∷ op aload_0 ∷ op areturn ∷ []) ([]) ∷ []) ∷ accounted (at_most 99 9 0 9) None (initialiser_with (method invokestatic accounter (codes "recordJump") ([]) None ∷ op return ∷ []) ∷ verify_with (op aload_0 ∷ op areturn ∷ []) ([]) ∷ []) ∷ accounted (at_most 23 9 9 9) None (verify_with (op iconst_4 ∷ method invokestatic (class_type (in_sandbox (lang_name (codes "String")))) (codes "valueOf") (int ∷ []) (Some (class_type (in_sandbox (lang_name (codes "String"))))) ∷ op pop ∷ op aload_0 ∷ op areturn ∷ []) ([]) ∷ []) ∷ accounted (at_most 24 9 9 9) None (verify_with (op iconst_4 ∷ method invokestatic (class_type (in_sandbox (lang_name (codes "String")))) (codes "valueOf") (int ∷ []) (Some (class_type (in_sandbox (lang_name (codes "String"))))) ∷ op pop ∷ op aload_0 ∷ op areturn ∷ []) ([]) ∷ []) ∷ accounted (at_most 99 9 9 9) None (verify_with (op aconst_null ∷ op arraylength ∷ []) ([]) ∷ []) ∷ []
    ≡ counted (outcomes.OkBytes (1 ∷ 2 ∷ [])) (costs 0 2 1 3) 8 ∷ counted (outcomes.OkBytes (1 ∷ 2 ∷ [])) (costs 72 0 0 0) 15 ∷ counted (outcomes.Stopped charges.Jump) (costs 0 0 2 0) 2 ∷ counted (outcomes.Stopped charges.Invoke) (costs 0 2 0 0) 2 ∷ counted (outcomes.Stopped charges.Alloc) (costs 24 0 0 0) 2 ∷ counted (outcomes.OkBytes (1 ∷ 2 ∷ [])) (costs 24 0 0 0) 4 ∷ counted (outcomes.OkBytes (1 ∷ 2 ∷ [])) (costs 0 0 1 0) 4 ∷ counted (outcomes.Stopped charges.Jump) (costs 0 0 1 0) 3 ∷ counted (outcomes.OkBytes (1 ∷ 2 ∷ [])) (costs 0 0 0 0) 7 ∷ counted (outcomes.Stopped charges.Jump) (costs 0 0 1 0) 3 ∷ counted (outcomes.Stopped charges.Jump) (costs 0 0 1 0) 1 ∷ counted (outcomes.HeapFull 24 16) (costs 0 0 1 0) 1 ∷ counted (outcomes.Stopped charges.Jump) (costs 0 0 1 0) 1 ∷ counted (outcomes.Stopped charges.Alloc) (costs 24 0 0 0) 2 ∷ counted (outcomes.OkBytes (1 ∷ 2 ∷ [])) (costs 24 0 0 0) 5 ∷ counted (outcomes.Threw (in_sandbox (lang_name null_pointer)) messages.Null) (costs 0 0 0 0) 2 ∷ []
unfolding int_wrap digits instruction_of simple code_of has_initialiser most_classes chain_of interfaces_from interfaces_above is_subclass is_subtype field_order resolve_method resolve_field select special_method field_count place_of static_place metered_program raw_program sandbox_program compute convert moved on_values load_element store_element array_length make_array charge_one charge_all answer host_answer perform native with_literal invoke effect pays used_class is_initialised mark with_constants constants_of initialise unwound settle step begin amounts turn turns metered_run steps plain_run
accounted_runs = refl

-- the object that stops a run is made once: where it was caught, the next charge throws it again
abbrev stopped_again : Option ℕ → Option Report
stopped_again limit = accounted (at_most 99 9 0 9) limit
    (verify_with (method invokestatic accounter (codes "recordJump") [] None ∷ op aload_0 ∷ op areturn ∷ op pop ∷ method invokestatic accounter (codes "recordThrow") [] None ∷ op aload_0 ∷ op areturn ∷ []) (catch_all 0 1 3 ∷ []) ∷ [])

one_stop : stopped_again (Some 40) ∷ stopped_again (Some 39) ∷ [] ≡ counted (outcomes.Stopped charges.Jump) (costs 0 0 1 0) 3 ∷ counted (outcomes.HeapFull 24 16) (costs 0 0 1 0) 1 ∷ []
unfolding int_wrap digits instruction_of simple code_of has_initialiser most_classes chain_of interfaces_from interfaces_above is_subclass is_subtype field_order resolve_method resolve_field select special_method field_count place_of static_place metered_program raw_program sandbox_program compute convert moved on_values load_element store_element array_length make_array charge_one charge_all answer host_answer perform native with_literal invoke effect pays used_class is_initialised mark with_constants constants_of initialise unwound settle step begin amounts turn turns metered_run steps plain_run
one_stop = refl

-- the arrival at a handler is charged before its first instruction, and each charge of an instruction up to the first that passes
abbrev bounded : Thresholds → Run
bounded most = metered_run (metered_program (a_with (verify_with (op aconst_null ∷ op arraylength ∷ jump goto 3 ∷ op aload_0 ∷ op areturn ∷ []) (catch_all 0 2 2 ∷ []) ∷ []) ∷ [])) entry (1 ∷ []) most 100

first_charge : bounded (at_most 9 9 1 1) ∷ bounded (at_most 9 9 0 1) ∷ bounded (at_most 9 9 1 0) ∷ bounded (at_most 9 9 0 0) ∷ []
    ≡ RunEnds (outcomes.OkBytes (1 ∷ [])) (costs 0 0 1 1) ∷ RunEnds (outcomes.Stopped charges.Jump) (costs 0 0 1 1) ∷ RunEnds (outcomes.Stopped charges.Throw) (costs 0 0 0 1) ∷ RunEnds (outcomes.Stopped charges.Throw) (costs 0 0 0 1) ∷ []
unfolding int_wrap digits instruction_of simple code_of has_initialiser most_classes chain_of interfaces_from interfaces_above is_subclass is_subtype field_order resolve_method resolve_field select special_method field_count place_of static_place metered_program raw_program sandbox_program compute convert moved on_values load_element store_element array_length make_array charge_one charge_all answer host_answer perform native with_literal invoke effect pays used_class is_initialised mark with_constants constants_of initialise unwound settle step begin amounts turn turns metered_run steps plain_run
first_charge = refl

-- a metered run's heap has no limit
no_limit : (most : Thresholds) → (metered_terms most).limit ≡ None
no_limit most = refl

-- invokespecial of a method of a class far above takes that of the direct superclass, of whose class the receiver has to be
abbrev far_family : List Class
far_family = class_with (codes "C") [] (plain_constructor ∷ method_with 1 (codes "m") [] (Some int) (code (op iconst_5 ∷ op ireturn ∷ []) []) ∷ [])
    ∷ record (class_with (codes "D") [] (method_with 1 (codes "m") [] (Some int) (code (op iconst_4 ∷ op ireturn ∷ []) []) ∷ [])) { superclass = Some (codes "C") }
    ∷ record (class_with (codes "E") [] (method_with 9 (codes "s") (object ∷ []) (Some int) (code (op aload_0 ∷ method invokespecial c_type (codes "m") [] (Some int) ∷ op ireturn ∷ []) []) ∷ [])) { superclass = Some (codes "D") } ∷ []

special_receivers : with_methods [] far_family (byte_of (class new c_type ∷ method invokestatic e_type (codes "s") (object ∷ []) (Some int) ∷ [])) ∷ with_methods [] far_family (byte_of (class new d_type ∷ method invokestatic e_type (codes "s") (object ∷ []) (Some int) ∷ [])) ∷ []
    ≡ RunEnds outcomes.Link (costs 40 2 0 0) ∷ RunEnds (outcomes.OkBytes (4 ∷ [])) (costs 40 2 0 0) ∷ []
unfolding int_wrap digits instruction_of simple code_of has_initialiser most_classes chain_of interfaces_from interfaces_above is_subclass is_subtype field_order resolve_method resolve_field select special_method field_count place_of static_place metered_program raw_program sandbox_program compute convert moved on_values load_element store_element array_length make_array charge_one charge_all answer host_answer perform native with_literal invoke effect pays used_class is_initialised mark with_constants constants_of initialise unwound settle step begin amounts turn turns metered_run steps plain_run
special_receivers = refl

-- there is no step where an operand is of another kind
other_kinds : with_methods [] (statics_of (op return ∷ []) (op return ∷ [])) (op aload_0 ∷ field putstatic b_type (codes "x") int ∷ op aload_0 ∷ op areturn ∷ []) ∷ on_constants (op aconst_null ∷ op aload_0 ∷ field putfield k_type (codes "n") int ∷ op aload_0 ∷ op areturn ∷ [])
    ∷ on_constants (op aconst_null ∷ op iconst_0 ∷ field putfield k_type (codes "n") int ∷ op aload_0 ∷ op areturn ∷ []) ∷ of_code (op aload_0 ∷ op iconst_0 ∷ op aload_0 ∷ op bastore ∷ op aload_0 ∷ op areturn ∷ []) ∷ of_code (op iconst_0 ∷ op areturn ∷ []) ∷ of_code (op iload_0 ∷ op aload_0 ∷ op areturn ∷ []) ∷ of_code (op aload_0 ∷ newarray 8 ∷ op areturn ∷ []) ∷ []
    ≡ Stuck ∷ Stuck ∷ raised null_pointer ∷ Stuck ∷ Stuck ∷ Stuck ∷ Stuck ∷ []
unfolding int_wrap digits instruction_of simple code_of has_initialiser most_classes chain_of interfaces_from interfaces_above is_subclass is_subtype field_order resolve_method resolve_field select special_method field_count place_of static_place metered_program raw_program sandbox_program compute convert moved on_values load_element store_element array_length make_array charge_one charge_all answer host_answer perform native with_literal invoke effect pays used_class is_initialised mark with_constants constants_of initialise unwound settle step begin amounts turn turns metered_run steps plain_run
other_kinds = refl

-- a native method's charge that passes ends a metered run with the sum that it makes
abbrev text_made : ℕ → Run
text_made alloc = metered_run (metered_program (a_with (verify_with (op iconst_4 ∷ method invokestatic string (codes "valueOf") (int ∷ []) (Some string) ∷ op pop ∷ op aload_0 ∷ op areturn ∷ []) [] ∷ []) ∷ [])) entry (1 ∷ []) (at_most alloc 9 9 9) 100

text_charged : text_made 24 ∷ text_made 23 ∷ [] ≡ RunEnds (outcomes.OkBytes (1 ∷ [])) (costs 24 1 0 0) ∷ RunEnds (outcomes.Stopped charges.Alloc) (costs 24 1 0 0) ∷ []
unfolding int_wrap digits instruction_of simple code_of has_initialiser most_classes chain_of interfaces_from interfaces_above is_subclass is_subtype field_order resolve_method resolve_field select special_method field_count place_of static_place metered_program raw_program sandbox_program compute convert moved on_values load_element store_element array_length make_array charge_one charge_all answer host_answer perform native with_literal invoke effect pays used_class is_initialised mark with_constants constants_of initialise unwound settle step begin amounts turn turns metered_run steps plain_run
text_charged = refl

-- arraycopy of two arrays into one of strings: the string is copied, and then the array is refused
abbrev copying : List Instruction
copying = op iconst_2 ∷ class anewarray object ∷ op astore_1 ∷ op aload_1 ∷ op iconst_0 ∷ constant (AText (codes "ab")) ∷ op aastore ∷ op aload_1 ∷ op iconst_1 ∷ op aload_0 ∷ op aastore ∷ op iconst_2 ∷ class anewarray string ∷ op astore_2
    ∷ op aload_1 ∷ op iconst_0 ∷ op aload_2 ∷ op iconst_0 ∷ op iconst_2 ∷ method invokestatic (class_type (lang_name (codes "System"))) (codes "arraycopy") (object ∷ int ∷ object ∷ int ∷ int ∷ []) None ∷ op aload_0 ∷ op areturn
    ∷ op pop ∷ op aload_2 ∷ op iconst_0 ∷ op aaload ∷ op areturn ∷ []

copied_before : of_code copying ∷ runs (a_with (verify_with copying (catch_all 19 20 22 ∷ []) ∷ []) ∷ []) (1 ∷ 2 ∷ []) ∷ []
    ≡ RunEnds (throws_plainly (codes "ArrayStoreException")) (costs 48 1 0 0) ∷ RunEnds outcomes.Link (costs 48 1 0 1) ∷ []
unfolding int_wrap digits instruction_of simple code_of has_initialiser most_classes chain_of interfaces_from interfaces_above is_subclass is_subtype field_order resolve_method resolve_field select special_method field_count place_of static_place metered_program raw_program sandbox_program compute convert moved on_values load_element store_element array_length make_array charge_one charge_all answer host_answer perform native with_literal invoke effect pays used_class is_initialised mark with_constants constants_of initialise unwound settle step begin amounts turn turns metered_run steps plain_run
copied_before = refl
