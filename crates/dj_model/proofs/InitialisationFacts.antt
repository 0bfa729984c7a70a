-- Whole runs: which classes are initialised, in which order, and what is paid meanwhile.
use Rattle.std.proofs.Common.{◌≡◌, ℕ, List, [], ◌∷◌, ◌++◌, Some, None, codes, refl}
use Rattle.std.specs.Int.{int_wrap}
use Rattle.std.specs.Fmt.{digits}
use Rattle.dj_names.specs.declared.descriptor.Ty.{Ty}
use Rattle.dj_names.specs.declared.run.Message.TheVariants as messages
use Rattle.dj_names.specs.declared.run.Costs.{Costs}
use Rattle.dj_names.specs.declared.run.Outcome.TheVariants as outcomes
use Rattle.dj_names.specs.trusted.Types.{Name, class_type}
use Rattle.dj_names.specs.trusted.Library.{object, string, int}
use Rattle.dj_model.specs.trusted.Instructions.{Instruction}
use Rattle.dj_model.specs.trusted.Opcodes.{instruction_of, simple}
use Rattle.dj_model.specs.trusted.Program.{Class, Text, code_of, has_initialiser}
use Rattle.dj_model.specs.trusted.Linking.{most_classes, chain_of, interfaces_from, interfaces_above, is_subclass, is_subtype, field_order, resolve_method, resolve_field, select, special_method, field_count, place_of, static_place}
use Rattle.dj_model.specs.Libraries.{metered_program, raw_program, sandbox_program}
use Rattle.dj_model.specs.trusted.Numbers.{compute, convert}
use Rattle.dj_model.specs.trusted.Values.{moved, on_values}
use Rattle.dj_model.specs.trusted.Arrays.{load_element, store_element, array_length, make_array}
use Rattle.dj_model.specs.trusted.Charging.{charge_one}
use Rattle.dj_model.specs.Charging.{charge_all}
use Rattle.dj_model.specs.trusted.Natives.{answer, host_answer}
use Rattle.dj_model.specs.trusted.Performing.{perform, native}
use Rattle.dj_model.specs.trusted.Members.{with_literal, invoke}
use Rattle.dj_model.specs.trusted.Effects.{effect, used_class}
use Rattle.dj_model.specs.Effects.{pays}
use Rattle.dj_model.specs.trusted.Initialisation.{is_initialised, mark, with_constants, constants_of, initialise}
use Rattle.dj_model.specs.trusted.Step.{unwound, settle, step}
use Rattle.dj_model.specs.trusted.Runs.{begin, steps, plain_run}
use Rattle.dj_model.specs.Runs.{Run, RunEnds, amounts, turn, turns, metered_run}
use Rattle.dj_model.specs.SmallRuns.{op, newarray, class, field, method, entry, code, method_with, verify_with, initialiser_with, plain_constructor, class_with, a_with, field_with, costs, usual, lang_name}
use Rattle.dj_ops.specs.Mnemonics.{aconst_null, iconst_0, iconst_1, iconst_2, bastore, pop, dup, iadd, imul, ireturn, areturn, return, getstatic, putstatic, invokestatic, new, anewarray, athrow, checkcast, instanceof}

-- how the run of A's verify ends, after a hundred turns at most
abbrev runs : List Class → List Instruction → Run
runs classes instructions = metered_run (metered_program (a_with (verify_with instructions [] ∷ []) ∷ classes)) entry (1 ∷ 2 ∷ []) usual 100

-- an int's low byte is returned
abbrev byte_of : List Instruction → List Instruction
byte_of instructions = op iconst_1 ∷ newarray 8 ∷ op dup ∷ op iconst_0 ∷ instructions ++ op bastore ∷ op areturn ∷ []

abbrev b_type : Ty
b_type = class_type (codes "B")

abbrev c_type : Ty
c_type = class_type (codes "C")

abbrev t_type : Ty
t_type = class_type (codes "T")

abbrev q_of : ℕ → Instruction
q_of n = field n t_type (codes "q") int

-- B, C below it, each with an initialiser, and T with a static field
abbrev family : List Instruction → List Instruction → List Class
family above below = class_with (codes "B") [] (initialiser_with above ∷ [])
    ∷ record (class_with (codes "C") (field_with 8 (codes "z") int None ∷ []) (plain_constructor ∷ initialiser_with below ∷ method_with 9 (codes "g") [] (Some int) (code (q_of 178 ∷ op ireturn ∷ []) []) ∷ [])) { superclass = Some (codes "B") }
    ∷ class_with (codes "T") (field_with 8 (codes "q") int None ∷ []) [] ∷ []

-- the field's value is doubled, and so much added
abbrev doubled_and : ℕ → List Instruction
doubled_and n = q_of 178 ∷ op iconst_2 ∷ op imul ∷ op n ∷ op iadd ∷ q_of 179 ∷ op return ∷ []

abbrev throwing : List Instruction
throwing = op aconst_null ∷ op athrow ∷ []

abbrev ok_byte : ℕ → ℕ → Run
ok_byte byte alloc = RunEnds (outcomes.OkBytes (byte ∷ [])) (costs alloc 0 0 0)

abbrev failed : Name → Costs → Run
failed name charged = RunEnds (outcomes.Init name (lang_name (codes "NullPointerException")) messages.Null) charged

-- the superclass's initialiser runs first, whichever instruction asks
superclass_first : runs (family (doubled_and 4) (doubled_and 5)) (byte_of (class new c_type ∷ op pop ∷ q_of 178 ∷ []))
    ∷ runs (family (doubled_and 4) (doubled_and 5)) (byte_of (field getstatic c_type (codes "z") int ∷ op pop ∷ q_of 178 ∷ []))
    ∷ runs (family (doubled_and 4) (doubled_and 5)) (byte_of (op iconst_0 ∷ field putstatic c_type (codes "z") int ∷ q_of 178 ∷ []))
    ∷ runs (family (doubled_and 4) (doubled_and 5)) (byte_of (class new c_type ∷ op pop ∷ class new c_type ∷ op pop ∷ q_of 178 ∷ []))
    ∷ runs (family (doubled_and 4) (doubled_and 5)) (byte_of (class new b_type ∷ op pop ∷ q_of 178 ∷ class new c_type ∷ op pop ∷ q_of 178 ∷ op iadd ∷ []))
    ∷ []
    ≡ ok_byte 4 40 ∷ ok_byte 4 24 ∷ ok_byte 4 24 ∷ ok_byte 4 56 ∷ ok_byte 5 56 ∷ []
unfolding int_wrap digits instruction_of simple code_of has_initialiser most_classes chain_of interfaces_from interfaces_above is_subclass is_subtype field_order resolve_method resolve_field select special_method field_count place_of static_place metered_program raw_program sandbox_program compute convert moved on_values load_element store_element array_length make_array charge_one charge_all answer host_answer perform native with_literal invoke effect pays used_class is_initialised mark with_constants constants_of initialise unwound settle step begin amounts turn turns metered_run steps plain_run
superclass_first = refl

-- neither an array, a cast nor a test of a class initialises it
not_initialised : runs (family throwing throwing) (byte_of (op iconst_0 ∷ class anewarray c_type ∷ class instanceof c_type ∷ []))
    ∷ runs (family throwing throwing) (byte_of (op aconst_null ∷ class checkcast c_type ∷ op pop ∷ op iconst_2 ∷ [])) ∷ []
    ≡ ok_byte 0 40 ∷ ok_byte 2 24 ∷ []
unfolding int_wrap digits instruction_of simple code_of has_initialiser most_classes chain_of interfaces_from interfaces_above is_subclass is_subtype field_order resolve_method resolve_field select special_method field_count place_of static_place metered_program raw_program sandbox_program compute convert moved on_values load_element store_element array_length make_array charge_one charge_all answer host_answer perform native with_literal invoke effect pays used_class is_initialised mark with_constants constants_of initialise unwound settle step begin amounts turn turns metered_run steps plain_run
not_initialised = refl

-- what leaves the superclass's initialiser ends the run; the class's own runs after it
failing_superclass : runs (family throwing (op return ∷ [])) (byte_of (class new c_type ∷ op pop ∷ op iconst_0 ∷ []))
    ∷ runs (family throwing throwing) (byte_of (method invokestatic c_type (codes "g") [] (Some int) ∷ []))
    ∷ runs (family (op return ∷ []) throwing) (byte_of (class new c_type ∷ op pop ∷ op iconst_0 ∷ []))
    ∷ runs (family (op return ∷ []) throwing) (byte_of (class new b_type ∷ op pop ∷ op iconst_0 ∷ [])) ∷ []
    ≡ failed (codes "B") (costs 40 0 0 1) ∷ failed (codes "B") (costs 24 1 0 1) ∷ failed (codes "C") (costs 40 0 0 1) ∷ ok_byte 0 40 ∷ []
unfolding int_wrap digits instruction_of simple code_of has_initialiser most_classes chain_of interfaces_from interfaces_above is_subclass is_subtype field_order resolve_method resolve_field select special_method field_count place_of static_place metered_program raw_program sandbox_program compute convert moved on_values load_element store_element array_length make_array charge_one charge_all answer host_answer perform native with_literal invoke effect pays used_class is_initialised mark with_constants constants_of initialise unwound settle step begin amounts turn turns metered_run steps plain_run
failing_superclass = refl

-- constants are set in the order of the file, those of the superclass first, and literals made on the way
abbrev texts : List Class
texts = class_with (codes "B") (field_with 24 (codes "s") string (Some (Text (codes "ab"))) ∷ field_with 24 (codes "t") string (Some (Text (codes "cd"))) ∷ []) []
    ∷ record (class_with (codes "C") (field_with 24 (codes "u") string (Some (Text (codes "ef"))) ∷ []) (plain_constructor ∷ [])) { superclass = Some (codes "B") } ∷ []

abbrev number_of : Ty → Name → List Instruction
number_of class name = field getstatic class name string ∷ method invokestatic (class_type (lang_name (codes "System"))) (codes "identityHashCode") (object ∷ []) (Some int) ∷ []

constants_in_order : runs texts (byte_of (number_of c_type (codes "u"))) ∷ runs texts (byte_of (field getstatic c_type (codes "u") string ∷ op pop ∷ number_of b_type (codes "s")))
    ∷ runs texts (byte_of (field getstatic c_type (codes "u") string ∷ op pop ∷ number_of b_type (codes "t"))) ∷ runs texts (byte_of (number_of b_type (codes "s"))) ∷ []
    ≡ RunEnds (outcomes.OkBytes (5 ∷ [])) (costs 24 1 0 0) ∷ RunEnds (outcomes.OkBytes (3 ∷ [])) (costs 24 1 0 0) ∷ RunEnds (outcomes.OkBytes (4 ∷ [])) (costs 24 1 0 0) ∷ RunEnds (outcomes.OkBytes (3 ∷ [])) (costs 24 1 0 0) ∷ []
unfolding int_wrap digits instruction_of simple code_of has_initialiser most_classes chain_of interfaces_from interfaces_above is_subclass is_subtype field_order resolve_method resolve_field select special_method field_count place_of static_place metered_program raw_program sandbox_program compute convert moved on_values load_element store_element array_length make_array charge_one charge_all answer host_answer perform native with_literal invoke effect pays used_class is_initialised mark with_constants constants_of initialise unwound settle step begin amounts turn turns metered_run steps plain_run
constants_in_order = refl
