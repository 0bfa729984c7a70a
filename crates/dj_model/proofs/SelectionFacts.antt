-- Which method invokespecial takes, and where a method of a superclass and of an interface is found.
use Rattle.std.proofs.Common.{◌≡◌, ℕ, List, [], ◌∷◌, map, Option, Some, None, codes, refl}
use Rattle.std.specs.Option.{option_map}
use Rattle.dj_names.specs.declared.descriptor.Ty.{Ty}
use Rattle.dj_names.specs.declared.run.Message.TheVariants as messages
use Rattle.dj_names.specs.declared.run.Outcome.TheVariants as outcomes
use Rattle.dj_names.specs.trusted.Types.{Name, class_type}
use Rattle.dj_names.specs.trusted.Library.{object, string, int}
use Rattle.dj_model.specs.trusted.Instructions.{Instruction}
use Rattle.dj_model.specs.trusted.Program.{Program, Class, Method, Abstract, code_of, has_initialiser}
use Rattle.dj_model.specs.SmallRuns.{op, newarray, class, method, construct, entry, code, method_with, method_desc, verify_with, plain_constructor, class_with, a_with, costs, usual, lang_name, field, field_with}
use Rattle.std.specs.Int.{int_wrap}
use Rattle.std.specs.Fmt.{digits}
use Rattle.dj_model.specs.trusted.Opcodes.{instruction_of, simple}
use Rattle.dj_model.specs.trusted.Linking.{most_classes, chain_of, interfaces_from, interfaces_above, is_subclass, is_subtype, field_order, resolve_method, resolve_field, select, special_method, field_count, place_of, static_place, FoundMethod}
use Rattle.dj_model.specs.Libraries.{metered_program, raw_program, sandbox_program}
use Rattle.dj_model.specs.trusted.Numbers.{compute, convert}
use Rattle.dj_model.specs.trusted.Values.{moved, on_values}
use Rattle.dj_model.specs.trusted.Arrays.{load_element, store_element, array_length, make_array}
use Rattle.dj_model.specs.trusted.Charging.{charge_one}
use Rattle.dj_model.specs.Charging.{charge_all}
use Rattle.dj_model.specs.trusted.Natives.{answer, host_answer}
use Rattle.dj_model.specs.trusted.Performing.{perform, native}
use Rattle.dj_model.specs.trusted.Members.{with_literal, invoke}
use Rattle.dj_model.specs.trusted.Effects.{effect, used_class}
use Rattle.dj_model.specs.Effects.{pays}
use Rattle.dj_model.specs.trusted.Initialisation.{is_initialised, mark, with_constants, constants_of, initialise}
use Rattle.dj_model.specs.trusted.Step.{unwound, settle, step}
use Rattle.dj_model.specs.trusted.Runs.{begin, steps, plain_run}
use Rattle.dj_model.specs.Runs.{Run, RunEnds, amounts, turn, turns, metered_run}
use Rattle.dj_ops.specs.Mnemonics.{aconst_null, iconst_0, iconst_1, iconst_4, iconst_5, aload_0, bastore, dup, ireturn, areturn, invokespecial, invokestatic, new, athrow, getstatic, putstatic, getfield, putfield}

abbrev c_type : Ty
c_type = class_type (codes "C")

abbrev e_type : Ty
e_type = class_type (codes "E")

-- C, D below it and E below D; D has a method m with these flags, and a constructor that throws
abbrev family : ℕ → List Instruction → List Class
family flags instructions =
    class_with (codes "C") [] (plain_constructor ∷ method_with 1 (codes "m") [] (Some int) (code (op iconst_5 ∷ op ireturn ∷ []) []) ∷ [])
    ∷ record (class_with (codes "D") [] (method_with 1 (codes "<init>") [] None (code (op aconst_null ∷ op athrow ∷ []) []) ∷ method_with flags (codes "m") [] (Some int) (code (op iconst_4 ∷ op ireturn ∷ []) []) ∷ [])) { superclass = Some (codes "C") }
    ∷ record (class_with (codes "E") [] (method_with 9 (codes "s") (object ∷ []) (Some int) (code instructions []) ∷ [])) { superclass = Some (codes "D") } ∷ []

-- E's static method s is this code, on an object of E; the int that it gives is returned as a byte
abbrev on_object : ℕ → List Instruction → Run
on_object flags instructions = metered_run (metered_program (a_with (verify_with
    (op iconst_1 ∷ newarray 8 ∷ op dup ∷ op iconst_0 ∷ class new e_type ∷ method invokestatic e_type (codes "s") (object ∷ []) (Some int) ∷ op bastore ∷ op areturn ∷ []) [] ∷ []) ∷ family flags instructions)) entry (1 ∷ []) usual 100

abbrev gives : ℕ → ℕ → Run
gives byte invoke = RunEnds (outcomes.OkBytes (byte ∷ [])) (costs 40 invoke 0 0)

-- a method of a class between is taken, a private one too, and a static one isn't
abbrev calls_m : ℕ → Run
calls_m flags = on_object flags (op aload_0 ∷ method invokespecial c_type (codes "m") [] (Some int) ∷ op ireturn ∷ [])

taken_between : map calls_m (1 ∷ 2 ∷ 9 ∷ 10 ∷ [])
    ≡ gives 4 2 ∷ gives 4 2 ∷ gives 5 2 ∷ gives 5 2 ∷ []
unfolding int_wrap digits instruction_of simple code_of has_initialiser most_classes chain_of interfaces_from interfaces_above is_subclass is_subtype field_order resolve_method resolve_field select special_method field_count place_of static_place metered_program raw_program sandbox_program compute convert moved on_values load_element store_element array_length make_array charge_one charge_all answer host_answer perform native with_literal invoke effect pays used_class is_initialised mark with_constants constants_of initialise unwound settle step begin amounts turn turns metered_run steps plain_run
taken_between = refl

-- a constructor is taken from the class that is named
taken_constructor : on_object 1 (op aload_0 ∷ construct c_type [] ∷ op iconst_5 ∷ op ireturn ∷ []) ∷ on_object 1 (op aload_0 ∷ construct (class_type (codes "D")) [] ∷ op iconst_5 ∷ op ireturn ∷ []) ∷ []
    ≡ gives 5 3 ∷ RunEnds (outcomes.Threw (lang_name (codes "NullPointerException")) messages.Null) (costs 40 2 0 1) ∷ []
unfolding int_wrap digits instruction_of simple code_of has_initialiser most_classes chain_of interfaces_from interfaces_above is_subclass is_subtype field_order resolve_method resolve_field select special_method field_count place_of static_place metered_program raw_program sandbox_program compute convert moved on_values load_element store_element array_length make_array charge_one charge_all answer host_answer perform native with_literal invoke effect pays used_class is_initialised mark with_constants constants_of initialise unwound settle step begin amounts turn turns metered_run steps plain_run
taken_constructor = refl

-- ---- resolution

-- I, J below I, B, and C below B with both interfaces; m stands in I and in B, n in I alone, and I and J have methods of Object anew
abbrev plain_method : ℕ → Name → Option Ty → Method
plain_method flags name ret = method_with flags name [] ret Abstract

abbrev resolving : Program
resolving = metered_program
    (record (class_with (codes "I") [] (plain_method 1025 (codes "m") None ∷ plain_method 1025 (codes "n") None ∷ plain_method 1025 (codes "hashCode") (Some int) ∷ [])) { flags = 1537 }
    ∷ record (class_with (codes "J") [] (plain_method 1025 (codes "toString") (Some string) ∷ [])) { flags = 1537; interfaces = codes "I" ∷ [] }
    ∷ class_with (codes "B") [] (plain_method 1 (codes "m") None ∷ [])
    ∷ record (class_with (codes "C") [] []) { superclass = Some (codes "B"); interfaces = codes "J" ∷ codes "I" ∷ [] } ∷ [])

abbrev found : Name → Name → Option Ty → Option Name
found class name ret = option_map (λ (f : FoundMethod). f.class) (resolve_method resolving [] (record { class = class_type class; name = name; desc = method_desc [] ret }))

superclasses_first : found (codes "C") (codes "m") None ∷ found (codes "C") (codes "n") None ∷ found (codes "C") (codes "hashCode") (Some int) ∷ found (codes "C") (codes "toString") (Some string)
    ∷ found (codes "J") (codes "m") None ∷ found (codes "J") (codes "hashCode") (Some int) ∷ found (codes "J") (codes "toString") (Some string) ∷ found (codes "I") (codes "hashCode") (Some int) ∷ found (codes "I") (codes "toString") (Some string) ∷ found (codes "J") (codes "none") None ∷ []
    ≡ Some (codes "B") ∷ Some (codes "I") ∷ Some (lang_name (codes "Object")) ∷ Some (lang_name (codes "Object"))
    ∷ Some (codes "I") ∷ Some (lang_name (codes "Object")) ∷ Some (codes "J") ∷ Some (codes "I") ∷ Some (lang_name (codes "Object")) ∷ None ∷ []
unfolding int_wrap digits instruction_of simple code_of has_initialiser most_classes chain_of interfaces_from interfaces_above is_subclass is_subtype field_order resolve_method resolve_field select special_method field_count place_of static_place metered_program raw_program sandbox_program compute convert moved on_values load_element store_element array_length make_array charge_one charge_all answer host_answer perform native with_literal invoke effect pays used_class is_initialised mark with_constants constants_of initialise unwound settle step begin amounts turn turns metered_run steps plain_run
superclasses_first = refl

-- ---- invokespecial and selection, by plain values

-- C with a field f and a static s, and D below it with a static n
abbrev selecting : Program
selecting = metered_program
    (class_with (codes "C") (field_with 0 (codes "f") int None ∷ field_with 8 (codes "s") int None ∷ []) (plain_method 1 (codes "m") None ∷ method_with 1 (codes "n") [] None (code [] []) ∷ [])
    ∷ record (class_with (codes "D") [] (plain_method 1 (codes "m") None ∷ method_with 9 (codes "n") [] None (code [] []) ∷ [])) { superclass = Some (codes "C") } ∷ [])

abbrev found_in : Name → Method → FoundMethod
found_in class m = record { class = class; method = m }

abbrev class_of_found : Option FoundMethod → Option Name
class_of_found found = option_map (λ (f : FoundMethod). f.class) found

-- a method of the class itself is taken as it was resolved, and one of a class above it is looked for above it
special_of_own : class_of_found (special_method selecting (codes "D") (found_in (codes "D") (plain_method 2 (codes "m") None))) ∷ class_of_found (special_method selecting (codes "D") (found_in (codes "C") (plain_method 1 (codes "m") None))) ∷ []
    ≡ Some (codes "D") ∷ Some (codes "C") ∷ []
unfolding special_method most_classes chain_of metered_program
special_of_own = refl

-- a static method of the receiver's class isn't selected
select_no_static : map (λ (n : Name). class_of_found (select selecting [] (found_in (codes "C") (method_with 1 n [] None (code [] []))) (class_type (codes "D")))) (codes "n" ∷ codes "none" ∷ []) ≡ Some (codes "C") ∷ None ∷ []
unfolding select most_classes chain_of metered_program
select_no_static = refl

-- static fields initialise their class, and fields of objects don't
fields_use : map (used_class selecting []) (field getstatic c_type (codes "s") int ∷ field putstatic c_type (codes "s") int ∷ field getfield c_type (codes "f") int ∷ field putfield c_type (codes "f") int ∷ [])
    ≡ Some (codes "C") ∷ Some (codes "C") ∷ None ∷ None ∷ []
unfolding used_class resolve_field field_order most_classes chain_of interfaces_from interfaces_above metered_program instruction_of
fields_use = refl
