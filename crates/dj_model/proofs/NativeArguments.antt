-- Native methods on the ends of their ranges, on arguments whose high bits don't count, and on arguments of other classes.
use Rattle.std.proofs.Common.{◌≡◌, pos, negsuc, ℕ, ℤ, ◌+◌, List, [], ◌∷◌, ◌++◌, Some, codes, refl}
use Rattle.std.specs.Int.{int_wrap}
use Rattle.std.specs.Fmt.{digits}
use Rattle.dj_names.specs.declared.descriptor.Ty.{Ty}
use Rattle.dj_names.specs.declared.run.Outcome.TheVariants as outcomes
use Rattle.dj_names.specs.declared.run.Value.{Value}
use Rattle.dj_names.specs.declared.run.Value.TheVariants as values
use Rattle.dj_names.specs.declared.native.NativeId.{NativeId}
use Rattle.dj_names.specs.declared.native.NativeId.TheVariants as natives
use Rattle.dj_names.specs.trusted.Heaps.{Instance, Text, Heap}
use Rattle.dj_names.specs.trusted.Types.{class_type, array_type}
use Rattle.dj_names.specs.trusted.Library.{string, builder, throwable, char, int}
use Rattle.dj_model.specs.trusted.Instructions.{Instruction, AText}
use Rattle.dj_model.specs.trusted.Opcodes.{instruction_of, simple}
use Rattle.dj_model.specs.trusted.Program.{code_of, has_initialiser}
use Rattle.dj_model.specs.trusted.Linking.{most_classes, chain_of, interfaces_from, interfaces_above, is_subclass, is_subtype, field_order, resolve_method, resolve_field, select, special_method, field_count, place_of, static_place}
use Rattle.dj_model.specs.Libraries.{metered_program, raw_program, sandbox_program}
use Rattle.dj_model.specs.trusted.Numbers.{compute, convert}
use Rattle.dj_model.specs.trusted.Values.{moved, on_values}
use Rattle.dj_model.specs.trusted.Arrays.{load_element, store_element, array_length, make_array}
use Rattle.dj_model.specs.trusted.Charging.{charge_one}
use Rattle.dj_model.specs.Charging.{charge_all}
use Rattle.dj_model.specs.trusted.Natives.{Answer, Returns, MakesText, KeepsText, MakesChars, answer, host_answer}
use Rattle.dj_model.specs.trusted.Performing.{seen, perform, native}
use Rattle.dj_model.specs.trusted.Members.{with_literal, invoke}
use Rattle.dj_model.specs.trusted.Effects.{effect, used_class}
use Rattle.dj_model.specs.Effects.{pays}
use Rattle.dj_model.specs.trusted.Initialisation.{is_initialised, mark, with_constants, constants_of, initialise}
use Rattle.dj_model.specs.trusted.Step.{unwound, settle, step}
use Rattle.dj_model.specs.trusted.Runs.{begin, steps, plain_run}
use Rattle.dj_model.specs.Runs.{Run, RunEnds, amounts, turn, turns, metered_run}
use Rattle.dj_model.specs.SmallRuns.{op, push, constant, newarray, class, method, construct, entry, verify_with, a_with, costs, usual, lang_name}
use Rattle.dj_ops.specs.Mnemonics.{aconst_null, iconst_0, iconst_1, iconst_2, bipush, aload_0, caload, bastore, pop, dup, ishr, areturn, invokevirtual, invokestatic, new}

-- a builder of the text z, the text, and one of the units 0061 ffff
abbrev heap : Heap Ty
heap = record { objects = Instance builder (2 ∷ []) ∷ Text string (codes "z") ∷ Text string (97 ∷ 65535 ∷ []) ∷ []; used = 0 }

abbrev of : NativeId → List Value → Answer
of id args = answer id (seen (metered_program []) [] heap) args

abbrev of_longs : NativeId → ℤ → ℤ → Answer
of_longs id a b = of id (values.Long a ∷ values.Long b ∷ [])

abbrev long : ℤ → Answer
long z = Returns (Some (values.Long z))

abbrev least : ℤ
least = negsuc 9223372036854775807

abbrev greatest : ℤ
greatest = pos 9223372036854775807

greater_longs : of_longs natives.MaxLongs (pos 1) (pos 2) ∷ of_longs natives.MaxLongs (pos 2) (pos 1) ∷ of_longs natives.MaxLongs (pos 1099511627776) (negsuc 0) ∷ of_longs natives.MaxLongs (negsuc 0) (pos 1099511627776)
    ∷ of_longs natives.MaxLongs least greatest ∷ of_longs natives.MaxLongs greatest least ∷ of_longs natives.MaxLongs (negsuc 5) (negsuc 4) ∷ []
    ≡ long (pos 2) ∷ long (pos 2) ∷ long (pos 1099511627776) ∷ long (pos 1099511627776) ∷ long greatest ∷ long greatest ∷ long (negsuc 4) ∷ []
unfolding answer
greater_longs = refl

lesser_longs : of_longs natives.MinLongs (pos 1) (pos 2) ∷ of_longs natives.MinLongs (pos 2) (pos 1) ∷ of_longs natives.MinLongs (pos 1099511627776) (negsuc 0) ∷ of_longs natives.MinLongs (negsuc 0) (pos 1099511627776)
    ∷ of_longs natives.MinLongs least greatest ∷ of_longs natives.MinLongs greatest least ∷ of_longs natives.MinLongs (negsuc 5) (negsuc 4) ∷ []
    ≡ long (pos 1) ∷ long (pos 1) ∷ long (negsuc 0) ∷ long (negsuc 0) ∷ long least ∷ long least ∷ long (negsuc 5) ∷ []
unfolding answer
lesser_longs = refl

absolute_longs : of natives.AbsLong (values.Long (pos 5) ∷ []) ∷ of natives.AbsLong (values.Long (negsuc 4) ∷ []) ∷ of natives.AbsLong (values.Long (pos 0) ∷ []) ∷ of natives.AbsLong (values.Long greatest ∷ [])
    ∷ of natives.AbsLong (values.Long (negsuc 9223372036854775806) ∷ []) ∷ of natives.AbsLong (values.Long least ∷ []) ∷ of natives.AbsInt (values.Int (pos 2147483647) ∷ []) ∷ of natives.AbsInt (values.Int (pos 0) ∷ []) ∷ []
    ≡ long (pos 5) ∷ long (pos 5) ∷ long (pos 0) ∷ long greatest ∷ long greatest ∷ long least ∷ Returns (Some (values.Int (pos 2147483647))) ∷ Returns (Some (values.Int (pos 0))) ∷ []
unfolding answer int_wrap
absolute_longs = refl

-- of a boolean the lowest bit counts, of a char the low 16
abbrev appends : NativeId → ℤ → Answer
appends id z = of id (values.Ref 1 ∷ values.Int z ∷ [])

abbrev z_and : List ℕ → Answer
z_and units = KeepsText 1 (codes "z" ++ units)

appended_booleans : appends natives.BuilderAppendBoolean (pos 0) ∷ appends natives.BuilderAppendBoolean (pos 1) ∷ appends natives.BuilderAppendBoolean (pos 2) ∷ appends natives.BuilderAppendBoolean (pos 3)
    ∷ appends natives.BuilderAppendBoolean (negsuc 0) ∷ appends natives.BuilderAppendBoolean (negsuc 1) ∷ []
    ≡ z_and (codes "false") ∷ z_and (codes "true") ∷ z_and (codes "false") ∷ z_and (codes "true") ∷ z_and (codes "true") ∷ z_and (codes "false") ∷ []
unfolding answer
appended_booleans = refl

appended_chars : appends natives.BuilderAppendChar (pos 65601) ∷ appends natives.BuilderAppendChar (pos 65536) ∷ appends natives.BuilderAppendChar (pos 65535) ∷ appends natives.BuilderAppendChar (negsuc 0)
    ∷ appends natives.BuilderAppendChar (negsuc 65470) ∷ appends natives.BuilderAppendChar (negsuc 2147483647) ∷ []
    ≡ z_and (codes "A") ∷ z_and (0 ∷ []) ∷ z_and (65535 ∷ []) ∷ z_and (65535 ∷ []) ∷ z_and (codes "A") ∷ z_and (0 ∷ []) ∷ []
unfolding answer
appended_chars = refl

abbrev text_of : NativeId → ℤ → Answer
text_of id z = of id (values.Int z ∷ [])

texts_of_values : text_of natives.StringValueOfChar (pos 65633) ∷ text_of natives.StringValueOfChar (pos 65536) ∷ text_of natives.StringValueOfChar (pos 65535) ∷ text_of natives.StringValueOfChar (negsuc 0)
    ∷ text_of natives.StringValueOfChar (negsuc 65470) ∷ text_of natives.StringValueOfBoolean (negsuc 0) ∷ text_of natives.StringValueOfBoolean (negsuc 1) ∷ []
    ≡ MakesText (codes "a") ∷ MakesText (0 ∷ []) ∷ MakesText (65535 ∷ []) ∷ MakesText (65535 ∷ []) ∷ MakesText (codes "A") ∷ MakesText (codes "true") ∷ MakesText (codes "false") ∷ []
unfolding answer
texts_of_values = refl

chars_of_texts : of natives.StringToCharArray (values.Ref 3 ∷ []) ∷ of natives.StringToCharArray (values.Ref 2 ∷ []) ∷ [] ≡ MakesChars (97 ∷ 65535 ∷ []) ∷ MakesChars (codes "z") ∷ []
unfolding answer
chars_of_texts = refl

-- ---- whole runs

-- how the run of A's verify ends, after a hundred turns at most
abbrev of_code : List Instruction → Run
of_code instructions = metered_run (metered_program (a_with (verify_with instructions [] ∷ []) ∷ [])) entry (1 ∷ 2 ∷ []) usual 100

-- an int's low byte is returned
abbrev byte_of : List Instruction → Run
byte_of instructions = of_code (op iconst_1 ∷ newarray 8 ∷ op dup ∷ op iconst_0 ∷ instructions ++ op bastore ∷ op areturn ∷ [])

abbrev gives : ℕ → ℕ → ℕ → Run
gives byte alloc invoke = RunEnds (outcomes.OkBytes (byte ∷ [])) (costs (24 + alloc) invoke 0 0)

abbrev chars_of : List ℕ → List Instruction
chars_of units = constant (AText units) ∷ method invokevirtual string (codes "toCharArray") [] (Some (array_type char)) ∷ []

-- each unit is an element of the array of chars, in order
elements_of_texts : byte_of (chars_of (codes "abc") ++ op iconst_0 ∷ op caload ∷ []) ∷ byte_of (chars_of (codes "abc") ++ op iconst_1 ∷ op caload ∷ []) ∷ byte_of (chars_of (codes "abc") ++ op iconst_2 ∷ op caload ∷ [])
    ∷ byte_of (chars_of (97 ∷ 65535 ∷ []) ++ op iconst_1 ∷ op caload ∷ push bipush (pos 8) ∷ op ishr ∷ [])
    ∷ byte_of (chars_of (codes "abc") ++ method invokestatic string (codes "valueOf") (array_type char ∷ []) (Some string) ∷ op iconst_2 ∷ method invokevirtual string (codes "charAt") (int ∷ []) (Some char) ∷ []) ∷ []
    ≡ gives 97 24 1 ∷ gives 98 24 1 ∷ gives 99 24 1 ∷ gives 255 24 1 ∷ gives 99 48 3 ∷ []
unfolding int_wrap digits instruction_of simple code_of has_initialiser most_classes chain_of interfaces_from interfaces_above is_subclass is_subtype field_order resolve_method resolve_field select special_method field_count place_of static_place metered_program raw_program sandbox_program compute convert moved on_values load_element store_element array_length make_array charge_one charge_all answer host_answer perform native with_literal invoke effect pays used_class is_initialised mark with_constants constants_of initialise unwound settle step begin amounts turn turns metered_run steps plain_run
elements_of_texts = refl

-- each reference among the arguments has to be of its parameter's class, or null
abbrev error : Ty
error = class_type (lang_name (codes "Error"))

abbrev with_cause : List Instruction → Run
with_cause arguments = of_code (class new error ∷ op dup ∷ arguments ++ construct error (string ∷ throwable ∷ []) ∷ op pop ∷ op aload_0 ∷ op areturn ∷ [])

abbrev made_error : Run
made_error = RunEnds (outcomes.OkBytes (1 ∷ 2 ∷ [])) (costs 32 1 0 0)

abbrev no_error : Run
no_error = RunEnds outcomes.Link (costs 32 1 0 0)

later_arguments : with_cause (constant (AText (codes "m")) ∷ op aconst_null ∷ []) ∷ with_cause (op aconst_null ∷ op aconst_null ∷ []) ∷ with_cause (constant (AText (codes "m")) ∷ constant (AText (codes "m")) ∷ []) ∷ with_cause (constant (AText (codes "m")) ∷ op aload_0 ∷ [])
    ∷ with_cause (op aconst_null ∷ op aload_0 ∷ []) ∷ with_cause (op aload_0 ∷ op aconst_null ∷ []) ∷ with_cause (op aload_0 ∷ op aload_0 ∷ []) ∷ []
    ≡ made_error ∷ made_error ∷ no_error ∷ no_error ∷ no_error ∷ no_error ∷ no_error ∷ []
unfolding int_wrap digits instruction_of simple code_of has_initialiser most_classes chain_of interfaces_from interfaces_above is_subclass is_subtype field_order resolve_method resolve_field select special_method field_count place_of static_place metered_program raw_program sandbox_program compute convert moved on_values load_element store_element array_length make_array charge_one charge_all answer host_answer perform native with_literal invoke effect pays used_class is_initialised mark with_constants constants_of initialise unwound settle step begin amounts turn turns metered_run steps plain_run
later_arguments = refl
