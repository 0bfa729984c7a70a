-- Whole runs that call each native method by the name and the descriptor of the library.
use Rattle.std.proofs.Common.{◌≡◌, pos, negsuc, ℕ, ◌+◌, List, [], ◌∷◌, ◌++◌, Some, None, codes, refl}
use Rattle.std.specs.Int.{int_wrap}
use Rattle.std.specs.Fmt.{digits}
use Rattle.dj_names.specs.declared.descriptor.Ty.{Ty}
use Rattle.dj_names.specs.declared.run.Outcome.TheVariants as outcomes
use Rattle.dj_names.specs.trusted.Tests.{units_read}
use Rattle.dj_names.specs.trusted.UnitReading.{two_read, three_read, long_read, unit_read}
use Rattle.dj_names.specs.trusted.Types.{Name, class_type, array_type}
use Rattle.dj_names.specs.trusted.Library.{object, string, builder, throwable, boolean, char, int, long}
use Rattle.dj_model.specs.trusted.Instructions.{Instruction, AText}
use Rattle.dj_model.specs.trusted.Opcodes.{instruction_of, simple}
use Rattle.dj_model.specs.trusted.Program.{code_of, has_initialiser}
use Rattle.dj_model.specs.trusted.Linking.{most_classes, chain_of, interfaces_from, interfaces_above, is_subclass, is_subtype, field_order, resolve_method, resolve_field, select, special_method, field_count, place_of, static_place}
use Rattle.dj_model.specs.Libraries.{metered_program, raw_program, sandbox_program}
use Rattle.dj_model.specs.trusted.Numbers.{compute, convert}
use Rattle.dj_model.specs.trusted.Values.{moved, on_values}
use Rattle.dj_model.specs.trusted.Arrays.{load_element, store_element, array_length, make_array}
use Rattle.dj_model.specs.trusted.Charging.{charge_one}
use Rattle.dj_model.specs.Charging.{charge_all}
use Rattle.dj_model.specs.trusted.Natives.{answer, host_answer}
use Rattle.dj_model.specs.trusted.Performing.{perform, native}
use Rattle.dj_model.specs.trusted.Members.{with_literal, invoke}
use Rattle.dj_model.specs.trusted.Effects.{effect, used_class}
use Rattle.dj_model.specs.Effects.{pays}
use Rattle.dj_model.specs.trusted.Initialisation.{is_initialised, mark, with_constants, constants_of, initialise}
use Rattle.dj_model.specs.trusted.Step.{unwound, settle, step}
use Rattle.dj_model.specs.trusted.Runs.{begin, steps, plain_run}
use Rattle.dj_model.specs.Runs.{Run, RunEnds, amounts, turn, turns, metered_run}
use Rattle.dj_model.specs.SmallRuns.{op, push, constant, newarray, class, method, interface_method, construct, entry, verify_with, a_with, costs, usual, lang_name, throws_plainly}
use Rattle.dj_ops.specs.Mnemonics.{aconst_null, iconst_0, iconst_1, iconst_2, iconst_3, iconst_5, lconst_0, lconst_1, bipush, sipush, aload_0, baload, bastore, dup, i2l, l2i, areturn, invokevirtual, invokestatic, new, arraylength, instanceof}

-- how the run of A's verify ends, after a hundred turns at most
abbrev of_code : List Instruction → Run
of_code instructions = metered_run (metered_program (a_with (verify_with instructions [] ∷ []) ∷ [])) entry (1 ∷ 2 ∷ []) usual 100

-- an int's low byte is returned
abbrev byte_of : List Instruction → Run
byte_of instructions = of_code (op iconst_1 ∷ newarray 8 ∷ op dup ∷ op iconst_0 ∷ instructions ++ op bastore ∷ op areturn ∷ [])

-- it does, beside the array's bytes at this cost
abbrev gives : ℕ → ℕ → ℕ → Run
gives byte alloc invoke = RunEnds (outcomes.OkBytes (byte ∷ [])) (costs (24 + alloc) invoke 0 0)

abbrev throws : Name → ℕ → ℕ → Run
throws name alloc invoke = RunEnds (throws_plainly name) (costs alloc invoke 0 0)

abbrev error : Ty
error = class_type (lang_name (codes "Error"))

-- methods of Object and String
native_runs_of_texts : byte_of (op aload_0 ∷ op aload_0 ∷ method invokevirtual object (codes "equals") (object ∷ []) (Some boolean) ∷ [])
    ∷ byte_of (op aload_0 ∷ op aconst_null ∷ method invokevirtual object (codes "equals") (object ∷ []) (Some boolean) ∷ [])
    ∷ byte_of (op aload_0 ∷ method invokevirtual object (codes "toString") ([]) (Some string) ∷ method invokevirtual string (codes "length") ([]) (Some int) ∷ [])
    ∷ byte_of (constant (AText []) ∷ method invokevirtual string (codes "isEmpty") ([]) (Some boolean) ∷ [])
    ∷ byte_of (constant (AText (codes "ab")) ∷ method invokevirtual string (codes "toString") ([]) (Some string) ∷ method invokevirtual string (codes "length") ([]) (Some int) ∷ [])
    ∷ byte_of (constant (AText (codes "ab")) ∷ op iconst_1 ∷ method invokevirtual string (codes "charAt") (int ∷ []) (Some char) ∷ [])
    ∷ byte_of (constant (AText (codes "ab")) ∷ constant (AText (codes "a")) ∷ constant (AText (codes "b")) ∷ method invokevirtual string (codes "concat") (string ∷ []) (Some string) ∷ method invokevirtual string (codes "equals") (object ∷ []) (Some boolean) ∷ [])
    ∷ byte_of (constant (AText (codes "ab")) ∷ method invokevirtual string (codes "hashCode") ([]) (Some int) ∷ [])
    ∷ byte_of (constant (AText (codes "b")) ∷ constant (AText (codes "a")) ∷ method invokevirtual string (codes "compareTo") (string ∷ []) (Some int) ∷ [])
    ∷ byte_of (constant (AText (codes "a")) ∷ constant (AText (codes "c")) ∷ method invokevirtual string (codes "compareTo") (object ∷ []) (Some int) ∷ [])
    ∷ byte_of (constant (AText (codes "ab")) ∷ constant (AText (codes "a")) ∷ method invokevirtual string (codes "startsWith") (string ∷ []) (Some boolean) ∷ [])
    ∷ byte_of (constant (AText (codes "ab")) ∷ constant (AText (codes "cde")) ∷ method invokevirtual string (codes "concat") (string ∷ []) (Some string) ∷ method invokevirtual string (codes "length") ([]) (Some int) ∷ [])
    ∷ byte_of (constant (AText (codes "abc")) ∷ op iconst_1 ∷ method invokevirtual string (codes "substring") (int ∷ []) (Some string) ∷ method invokevirtual string (codes "length") ([]) (Some int) ∷ [])
    ∷ byte_of (constant (AText (codes "abc")) ∷ op iconst_1 ∷ op iconst_2 ∷ method invokevirtual string (codes "substring") (int ∷ int ∷ []) (Some string) ∷ op iconst_0 ∷ method invokevirtual string (codes "charAt") (int ∷ []) (Some char) ∷ [])
    ∷ byte_of (constant (AText (codes "abc")) ∷ method invokevirtual string (codes "toCharArray") ([]) (Some (array_type char)) ∷ op arraylength ∷ [])
    ∷ []
    ≡ gives 1 0 1 ∷ gives 0 0 1 ∷ gives 4 24 2 ∷ gives 1 0 1 ∷ gives 2 0 2 ∷ gives 98 0 1 ∷ gives 1 24 2 ∷ gives 33 0 1 ∷ gives 1 0 1 ∷ gives 254 0 1 ∷ gives 1 0 1 ∷ gives 5 32 2 ∷ gives 2 24 2 ∷ gives 98 24 2 ∷ gives 3 24 1 ∷ []
unfolding int_wrap digits instruction_of simple code_of has_initialiser most_classes chain_of interfaces_from interfaces_above is_subclass is_subtype field_order resolve_method resolve_field select special_method field_count place_of static_place metered_program raw_program sandbox_program compute convert moved on_values load_element store_element array_length make_array charge_one charge_all answer host_answer perform native with_literal invoke effect pays used_class is_initialised mark with_constants constants_of initialise unwound settle step begin amounts turn turns metered_run steps plain_run units_read unit_read long_read two_read three_read
native_runs_of_texts = refl

-- texts of values, builders and throwables
native_runs_of_values : byte_of (constant (AText (codes "abc")) ∷ method invokevirtual string (codes "toCharArray") ([]) (Some (array_type char)) ∷ method invokestatic string (codes "valueOf") (array_type char ∷ []) (Some string) ∷ method invokevirtual string (codes "length") ([]) (Some int) ∷ [])
    ∷ byte_of (push bipush (pos 65) ∷ method invokestatic string (codes "valueOf") (char ∷ []) (Some string) ∷ op iconst_0 ∷ method invokevirtual string (codes "charAt") (int ∷ []) (Some char) ∷ [])
    ∷ byte_of (push sipush (negsuc 119) ∷ method invokestatic string (codes "valueOf") (int ∷ []) (Some string) ∷ method invokevirtual string (codes "length") ([]) (Some int) ∷ [])
    ∷ byte_of (op lconst_1 ∷ method invokestatic string (codes "valueOf") (long ∷ []) (Some string) ∷ method invokevirtual string (codes "length") ([]) (Some int) ∷ [])
    ∷ byte_of (op iconst_0 ∷ method invokestatic string (codes "valueOf") (boolean ∷ []) (Some string) ∷ method invokevirtual string (codes "length") ([]) (Some int) ∷ [])
    ∷ byte_of (class new builder ∷ op dup ∷ construct builder [] ∷ constant (AText (codes "ab")) ∷ method invokevirtual builder (codes "append") (string ∷ []) (Some builder) ∷ push bipush (pos 99) ∷ method invokevirtual builder (codes "append") (char ∷ []) (Some builder) ∷ op iconst_5 ∷ method invokevirtual builder (codes "append") (int ∷ []) (Some builder) ∷ op lconst_1 ∷ method invokevirtual builder (codes "append") (long ∷ []) (Some builder) ∷ op iconst_1 ∷ method invokevirtual builder (codes "append") (boolean ∷ []) (Some builder) ∷ method invokevirtual builder (codes "length") ([]) (Some int) ∷ [])
    ∷ byte_of (class new builder ∷ op dup ∷ constant (AText (codes "xy")) ∷ construct builder (string ∷ []) ∷ op iconst_1 ∷ method invokevirtual builder (codes "charAt") (int ∷ []) (Some char) ∷ [])
    ∷ byte_of (class new builder ∷ op dup ∷ constant (AText (codes "xy")) ∷ construct builder (string ∷ []) ∷ method invokevirtual builder (codes "toString") ([]) (Some string) ∷ method invokevirtual string (codes "length") ([]) (Some int) ∷ [])
    ∷ byte_of (class new error ∷ op dup ∷ constant (AText (codes "abc")) ∷ construct error (string ∷ []) ∷ method invokevirtual error (codes "getMessage") ([]) (Some string) ∷ method invokevirtual string (codes "length") ([]) (Some int) ∷ [])
    ∷ byte_of (class new error ∷ op dup ∷ constant (AText (codes "m")) ∷ class new error ∷ op dup ∷ construct error [] ∷ construct error (string ∷ throwable ∷ []) ∷ method invokevirtual error (codes "getCause") ([]) (Some throwable) ∷ class instanceof error ∷ [])
    ∷ byte_of (class new error ∷ op dup ∷ construct error [] ∷ method invokevirtual error (codes "getCause") ([]) (Some throwable) ∷ class instanceof error ∷ [])
    ∷ []
    ≡ gives 3 48 3 ∷ gives 65 24 2 ∷ gives 4 24 2 ∷ gives 1 24 2 ∷ gives 5 32 2 ∷ gives 9 168 7 ∷ gives 121 24 2 ∷ gives 2 48 3 ∷ gives 3 32 3 ∷ gives 1 64 3 ∷ gives 0 32 2 ∷ []
unfolding int_wrap digits instruction_of simple code_of has_initialiser most_classes chain_of interfaces_from interfaces_above is_subclass is_subtype field_order resolve_method resolve_field select special_method field_count place_of static_place metered_program raw_program sandbox_program compute convert moved on_values load_element store_element array_length make_array charge_one charge_all answer host_answer perform native with_literal invoke effect pays used_class is_initialised mark with_constants constants_of initialise unwound settle step begin amounts turn turns metered_run steps plain_run
native_runs_of_values = refl

-- numbers, arrays, and methods that are called by an interface
native_runs_of_numbers : byte_of (push bipush (negsuc 4) ∷ method invokestatic (class_type (lang_name (codes "Math"))) (codes "abs") (int ∷ []) (Some int) ∷ [])
    ∷ byte_of (push bipush (negsuc 4) ∷ op i2l ∷ method invokestatic (class_type (lang_name (codes "Math"))) (codes "abs") (long ∷ []) (Some long) ∷ op l2i ∷ [])
    ∷ byte_of (op iconst_1 ∷ op iconst_5 ∷ method invokestatic (class_type (lang_name (codes "Math"))) (codes "max") (int ∷ int ∷ []) (Some int) ∷ [])
    ∷ byte_of (op lconst_1 ∷ op lconst_0 ∷ method invokestatic (class_type (lang_name (codes "Math"))) (codes "max") (long ∷ long ∷ []) (Some long) ∷ op l2i ∷ [])
    ∷ byte_of (op iconst_1 ∷ op iconst_5 ∷ method invokestatic (class_type (lang_name (codes "Math"))) (codes "min") (int ∷ int ∷ []) (Some int) ∷ [])
    ∷ byte_of (op lconst_1 ∷ op lconst_0 ∷ method invokestatic (class_type (lang_name (codes "Math"))) (codes "min") (long ∷ long ∷ []) (Some long) ∷ op l2i ∷ [])
    ∷ byte_of (op aload_0 ∷ method invokestatic (class_type (lang_name (codes "System"))) (codes "identityHashCode") (object ∷ []) (Some int) ∷ [])
    ∷ byte_of (op aconst_null ∷ method invokestatic (class_type (lang_name (codes "System"))) (codes "identityHashCode") (object ∷ []) (Some int) ∷ [])
    ∷ byte_of (op aload_0 ∷ op iconst_1 ∷ op aload_0 ∷ op iconst_0 ∷ op iconst_1 ∷ method invokestatic (class_type (lang_name (codes "System"))) (codes "arraycopy") (object ∷ int ∷ object ∷ int ∷ int ∷ []) None ∷ op aload_0 ∷ op iconst_0 ∷ op baload ∷ [])
    ∷ byte_of (constant (AText (codes "abc")) ∷ interface_method 1 (class_type (lang_name (codes "CharSequence"))) (codes "length") ([]) (Some int) ∷ [])
    ∷ byte_of (constant (AText (codes "ab")) ∷ op iconst_1 ∷ interface_method 2 (class_type (lang_name (codes "CharSequence"))) (codes "charAt") (int ∷ []) (Some char) ∷ [])
    ∷ byte_of (constant (AText (codes "b")) ∷ constant (AText (codes "a")) ∷ interface_method 2 (class_type (lang_name (codes "Comparable"))) (codes "compareTo") (object ∷ []) (Some int) ∷ [])
    ∷ byte_of (class new builder ∷ op dup ∷ constant (AText (codes "xy")) ∷ construct builder (string ∷ []) ∷ interface_method 1 (class_type (lang_name (codes "CharSequence"))) (codes "toString") ([]) (Some string) ∷ method invokevirtual string (codes "length") ([]) (Some int) ∷ [])
    ∷ []
    ≡ gives 5 0 1 ∷ gives 5 0 1 ∷ gives 5 0 1 ∷ gives 1 0 1 ∷ gives 1 0 1 ∷ gives 0 0 1 ∷ gives 1 0 1 ∷ gives 0 0 1 ∷ gives 2 0 1 ∷ gives 3 0 1 ∷ gives 98 0 1 ∷ gives 1 0 1 ∷ gives 2 48 3 ∷ []
unfolding int_wrap digits instruction_of simple code_of has_initialiser most_classes chain_of interfaces_from interfaces_above is_subclass is_subtype field_order resolve_method resolve_field select special_method field_count place_of static_place metered_program raw_program sandbox_program compute convert moved on_values load_element store_element array_length make_array charge_one charge_all answer host_answer perform native with_literal invoke effect pays used_class is_initialised mark with_constants constants_of initialise unwound settle step begin amounts turn turns metered_run steps plain_run
native_runs_of_numbers = refl

-- exceptions that native methods raise cost nothing
raising_runs : of_code (constant (AText (codes "ab")) ∷ op iconst_2 ∷ method invokevirtual string (codes "charAt") (int ∷ []) (Some char) ∷ [])
    ∷ of_code (constant (AText (codes "ab")) ∷ op iconst_2 ∷ op iconst_1 ∷ method invokevirtual string (codes "substring") (int ∷ int ∷ []) (Some string) ∷ [])
    ∷ of_code (constant (AText (codes "ab")) ∷ op iconst_3 ∷ method invokevirtual string (codes "substring") (int ∷ []) (Some string) ∷ [])
    ∷ of_code (constant (AText (codes "a")) ∷ op aconst_null ∷ method invokevirtual string (codes "compareTo") (string ∷ []) (Some int) ∷ [])
    ∷ of_code (constant (AText (codes "a")) ∷ op aload_0 ∷ method invokevirtual string (codes "compareTo") (object ∷ []) (Some int) ∷ [])
    ∷ of_code (constant (AText (codes "a")) ∷ op aconst_null ∷ method invokevirtual string (codes "startsWith") (string ∷ []) (Some boolean) ∷ [])
    ∷ of_code (constant (AText (codes "a")) ∷ op aconst_null ∷ method invokevirtual string (codes "concat") (string ∷ []) (Some string) ∷ [])
    ∷ of_code (op aconst_null ∷ method invokestatic string (codes "valueOf") (array_type char ∷ []) (Some string) ∷ [])
    ∷ of_code (class new builder ∷ op dup ∷ op aconst_null ∷ construct builder (string ∷ []) ∷ [])
    ∷ of_code (class new builder ∷ op dup ∷ construct builder [] ∷ op iconst_0 ∷ method invokevirtual builder (codes "charAt") (int ∷ []) (Some char) ∷ [])
    ∷ of_code (op aconst_null ∷ op iconst_0 ∷ op aload_0 ∷ op iconst_0 ∷ op iconst_1 ∷ method invokestatic (class_type (lang_name (codes "System"))) (codes "arraycopy") (object ∷ int ∷ object ∷ int ∷ int ∷ []) None ∷ [])
    ∷ of_code (constant (AText (codes "a")) ∷ op iconst_0 ∷ op aload_0 ∷ op iconst_0 ∷ op iconst_1 ∷ method invokestatic (class_type (lang_name (codes "System"))) (codes "arraycopy") (object ∷ int ∷ object ∷ int ∷ int ∷ []) None ∷ [])
    ∷ of_code (op aload_0 ∷ op iconst_0 ∷ op aload_0 ∷ op iconst_2 ∷ op iconst_1 ∷ method invokestatic (class_type (lang_name (codes "System"))) (codes "arraycopy") (object ∷ int ∷ object ∷ int ∷ int ∷ []) None ∷ [])
    ∷ []
    ≡ throws (codes "StringIndexOutOfBoundsException") 0 1 ∷ throws (codes "StringIndexOutOfBoundsException") 0 1 ∷ throws (codes "StringIndexOutOfBoundsException") 0 1 ∷ throws (codes "NullPointerException") 0 1 ∷ throws (codes "ClassCastException") 0 1 ∷ throws (codes "NullPointerException") 0 1 ∷ throws (codes "NullPointerException") 0 1 ∷ throws (codes "NullPointerException") 0 1 ∷ throws (codes "NullPointerException") 24 1 ∷ throws (codes "StringIndexOutOfBoundsException") 24 2 ∷ throws (codes "NullPointerException") 0 1 ∷ throws (codes "ArrayStoreException") 0 1 ∷ throws (codes "ArrayIndexOutOfBoundsException") 0 1 ∷ []
unfolding int_wrap digits instruction_of simple code_of has_initialiser most_classes chain_of interfaces_from interfaces_above is_subclass is_subtype field_order resolve_method resolve_field select special_method field_count place_of static_place metered_program raw_program sandbox_program compute convert moved on_values load_element store_element array_length make_array charge_one charge_all answer host_answer perform native with_literal invoke effect pays used_class is_initialised mark with_constants constants_of initialise unwound settle step begin amounts turn turns metered_run steps plain_run
raising_runs = refl
