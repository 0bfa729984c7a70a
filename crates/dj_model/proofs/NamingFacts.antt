-- Class names in texts are units, no operand names a field by the initialiser's name, and what is reported as exceeded is above its threshold, by plain values.
use Rattle.std.proofs.Common.{◌≡◌, true, false, pos, ℕ, List, [], ◌∷◌, ◌++◌, map, Option, Some, None, codes, refl, arith}
use Rattle.std.specs.Fmt.{digits}
use Rattle.std.specs.Option.{option_map}
use Rattle.dj_names.specs.declared.descriptor.Desc.TheVariants as descs
use Rattle.dj_names.specs.declared.descriptor.Ty.{Ty}
use Rattle.dj_names.specs.declared.run.Charge.{Charge}
use Rattle.dj_names.specs.declared.run.Charge.TheVariants as charges
use Rattle.dj_names.specs.declared.run.Thresholds.{Thresholds}
use Rattle.dj_names.specs.declared.run.Element.TheVariants as elements
use Rattle.dj_names.specs.declared.run.Outcome.TheVariants as outcomes
use Rattle.dj_names.specs.declared.run.Value.TheVariants as values
use Rattle.dj_names.specs.declared.native.NativeId.TheVariants as natives
use Rattle.dj_names.specs.trusted.Heaps.{Object, Instance, Array, Text, Heap}
use Rattle.dj_names.specs.trusted.Library.{int, string}
use Rattle.dj_names.specs.trusted.Tests.{units_read}
use Rattle.dj_names.specs.trusted.Types.{Name, class_type, array_type}
use Rattle.dj_names.specs.Types.{in_sandbox, sandbox_prefix}
use Rattle.dj_names.specs.trusted.UnitReading.{two_read, three_read, long_read, unit_read}
use Rattle.dj_model.specs.trusted.Types.{Member}
use Rattle.dj_model.specs.trusted.Instructions.{GetStatic, PutStatic}
use Rattle.dj_model.specs.trusted.Program.{Program, Code, Abstract}
use Rattle.dj_model.specs.trusted.Linking.{most_classes, chain_of, interfaces_from, interfaces_above, is_subclass, is_subtype, resolve_field, field_order}
use Rattle.dj_model.specs.Libraries.{metered_program}
use Rattle.dj_model.specs.trusted.State.{Metered, Account, Flow, Next, Goes, End, Effect}
use Rattle.dj_model.specs.trusted.Charging.{charge_one, new_account}
use Rattle.dj_model.specs.trusted.Natives.{MakesText, answer, host_answer, name_units, shown_class}
use Rattle.dj_model.specs.trusted.Performing.{seen, perform, native, text_object}
use Rattle.dj_model.specs.Laws.{IsReported, IsEndReported}
use Rattle.dj_model.specs.SmallRuns.{class_with, field_with, lang_name, method_with}
use Rattle.dj_model.specs.Sound.{is_linked}
use Rattle.dj_model.specs.Program.{method_map}
use Rattle.dj_model.specs.trusted.Members.{Kept, with_literal, are_instances}
use Rattle.dj_model.specs.Mapping.{same_names_map}

-- ---- class names in texts

-- a unit of two bytes, one of three, a slash and a Q
abbrev wide : Name
wide = 195 ∷ 169 ∷ 226 ∷ 130 ∷ 172 ∷ 47 ∷ 81 ∷ []

-- a slash is a unit still; a surrogate pair is two units; the two bytes that spell 0 are one; what isn't modified UTF-8 spells none
units : map name_units (wide ∷ (237 ∷ 160 ∷ 189 ∷ 237 ∷ 184 ∷ 128 ∷ []) ∷ (192 ∷ 128 ∷ []) ∷ [] ∷ (195 ∷ []) ∷ (65 ∷ 0 ∷ []) ∷ [])
    ≡ (233 ∷ 8364 ∷ 47 ∷ 81 ∷ []) ∷ (55357 ∷ 56832 ∷ []) ∷ (0 ∷ []) ∷ [] ∷ [] ∷ [] ∷ []
unfolding units_read unit_read long_read two_read three_read
units = refl

-- the class, an array of it, and both behind the prefix, which goes; a class of rewritten code that has the prefix within its name keeps it
wide_shown : shown_class [] (class_type wide) ∷ shown_class [] (array_type (class_type wide)) ∷ shown_class sandbox_prefix (class_type (in_sandbox wide))
    ∷ shown_class sandbox_prefix (array_type (class_type (in_sandbox wide))) ∷ shown_class [] (class_type (in_sandbox wide)) ∷ []
    ≡ (233 ∷ 8364 ∷ 46 ∷ 81 ∷ []) ∷ (91 ∷ 76 ∷ 233 ∷ 8364 ∷ 46 ∷ 81 ∷ 59 ∷ []) ∷ (233 ∷ 8364 ∷ 46 ∷ 81 ∷ []) ∷ (91 ∷ 76 ∷ 233 ∷ 8364 ∷ 46 ∷ 81 ∷ 59 ∷ [])
    ∷ (codes "sandbox." ++ 233 ∷ 8364 ∷ 46 ∷ 81 ∷ []) ∷ []
unfolding units_read unit_read long_read two_read three_read
wide_shown = refl

abbrev wide_heap : Heap Ty
wide_heap = record { objects = Instance (class_type wide) [] ∷ Array (array_type (class_type wide)) elements.Ref [] ∷ []; used = 16 }

wide_answers : answer natives.ObjectToString (seen (metered_program []) [] wide_heap) (values.Ref 1 ∷ []) ∷ answer natives.ObjectToString (seen (metered_program []) [] wide_heap) (values.Ref 2 ∷ [])
    ∷ host_answer natives.HostToString (seen (metered_program []) [] wide_heap) (pos 255) (values.Ref 1 ∷ []) ∷ []
    ≡ MakesText (233 ∷ 8364 ∷ 46 ∷ 81 ∷ 64 ∷ 49 ∷ []) ∷ MakesText (91 ∷ 76 ∷ 233 ∷ 8364 ∷ 46 ∷ 81 ∷ 59 ∷ 64 ∷ 50 ∷ []) ∷ MakesText (233 ∷ 8364 ∷ 46 ∷ 81 ∷ 64 ∷ 102 ∷ 102 ∷ []) ∷ []
unfolding answer host_answer digits units_read unit_read long_read two_read three_read metered_program
wide_answers = refl

-- ---- what the text costs

abbrev shows : ℕ → Option ℕ → Option Effect
shows alloc limit = native (metered_program []) [] (record { limit = limit; counting = Metered (record { alloc = alloc; invoke = 0; jump = 0; throw = 0 }) })
    (record { locals = []; operands = []; heap = record { objects = Instance (class_type wide) [] ∷ []; used = 16 }; statics = []; literals = []; account = new_account; answers = [] })
    natives.ObjectToString (values.Ref 1 ∷ [])

-- the used bytes, what was charged, and how the run goes on
pub record Shown : Type 0 where
  pub used : ℕ
  pub charged : ℕ
  pub objects : List (Object Ty)
  pub flow : Flow

abbrev seen_of : Effect → Shown
seen_of e = record { used = e.part.heap.used; charged = e.part.account.costs.alloc; objects = e.part.heap.objects; flow = e.flow }

abbrev shown_so : ℕ → ℕ → List (Object Ty) → Flow → Option Shown
shown_so used charged more flow = Some (record { used = used; charged = charged; objects = Instance (class_type wide) [] ∷ more; flow = flow })

-- 32 bytes are charged, and 16 used bytes are 48 then; 31 are too few, for the charge and for the limit
wide_costs : map (λ e. option_map seen_of e) (shows 1000000 None ∷ shows 32 (Some 48) ∷ shows 31 None ∷ shows 32 (Some 47) ∷ [])
    ≡ shown_so 48 32 (Text string (233 ∷ 8364 ∷ 46 ∷ 81 ∷ 64 ∷ 49 ∷ []) ∷ []) (Goes Next) ∷ shown_so 48 32 (Text string (233 ∷ 8364 ∷ 46 ∷ 81 ∷ 64 ∷ 49 ∷ []) ∷ []) (Goes Next)
    ∷ shown_so 16 32 [] (End (outcomes.Stopped charges.Alloc)) ∷ shown_so 16 32 [] (End (outcomes.HeapFull 16 32)) ∷ []
unfolding answer digits units_read unit_read long_read two_read three_read metered_program charge_one perform native
wide_costs = refl

-- ---- fields by the initialiser's name

abbrev fields_program : Program
fields_program = metered_program (class_with (codes "A") (field_with 8 (codes "<clinit>") int None ∷ field_with 8 (codes "s") int None ∷ []) [] ∷ [])

abbrev int_field : Name → Member
int_field name = record { class = class_type (codes "A"); name = name; desc = descs.Field int }

linked_by_name : map (is_linked fields_program []) (GetStatic (int_field (codes "<clinit>")) ∷ PutStatic (int_field (codes "<clinit>")) ∷ GetStatic (int_field (codes "s")) ∷ []) ≡ false ∷ false ∷ true ∷ []
unfolding metered_program is_linked resolve_field field_order most_classes chain_of interfaces_from interfaces_above
linked_by_name = refl

-- ---- what is reported as exceeded

abbrev fours : Thresholds
fours = record { alloc = 4; invoke = 4; jump = 4; throw = 4 }

abbrev reported_after : ℕ → ℕ → Option Charge → Account
reported_after alloc invoke exceeded = record { costs = record { alloc = alloc; invoke = invoke; jump = 4; throw = 0 }; exceeded = exceeded }

-- none is above its threshold and none is reported, or the one that is
reported_ones : IsReported fours (reported_after 4 0 None) × IsReported fours (reported_after 5 4 (Some charges.Alloc))
reported_ones = (
  record { alloc = omega arith; invoke = omega arith; jump = omega arith; throw = omega arith },
  (omega arith, omega arith, omega arith, omega arith),
)

-- not one that is above without being reported, one that is reported but isn't above, another one than the one that is, nor two that are
unreported_ones : (IsReported fours (reported_after 5 0 None) → ⊥) × (IsReported fours (reported_after 4 0 (Some charges.Alloc)) → ⊥) × (IsReported fours (reported_after 5 0 (Some charges.Invoke)) → ⊥)
    × (IsReported fours (reported_after 5 5 (Some charges.Alloc)) → ⊥)
unreported_ones = ((λ t. omega (arith, t.alloc)), (λ t. omega (arith, t.0)), (λ t. omega (arith, t.0)), (λ t. omega (arith, t.1)))

-- a stop is by the one that is reported
stops : IsEndReported (Some charges.Alloc) (outcomes.Stopped charges.Alloc) × (IsEndReported (Some charges.Alloc) (outcomes.Stopped charges.Jump) → ⊥) × (IsEndReported None (outcomes.Stopped charges.Alloc) → ⊥)
stops = (refl, (λ e. absurd cc), (λ e. absurd cc))

-- ---- flags of rewritten methods

abbrev flags_then : ℕ → ℕ
flags_then flags = (method_map same_names_map (λ (code : Code). code) (method_with flags (codes "m") [] None Abstract)).flags

-- ACC_SYNCHRONIZED goes, and every other flag stays
flags_kept : map flags_then (41 ∷ 9 ∷ 1057 ∷ 32 ∷ 65535 ∷ []) ≡ 9 ∷ 9 ∷ 1025 ∷ 0 ∷ 65503 ∷ []
flags_kept = refl

-- ---- texts and literals

-- a text is of the plain String's class, and in rewritten code of the rewritten one's
text_objects : text_object [] (codes "a") ∷ text_object sandbox_prefix (codes "a") ∷ []
    ≡ Text string (codes "a") ∷ Text (class_type (in_sandbox (lang_name (codes "String")))) (codes "a") ∷ []
text_objects = refl

abbrev text_heap : Heap Ty
text_heap = record { objects = Text string (codes "x") ∷ Instance (class_type wide) [] ∷ []; used = 40 }

-- a new literal comes last, and one that is there is no new one
literals_in_order : map (λ (units : List ℕ). option_map (λ (k : Kept). k.literals) (with_literal None [] text_heap (record { units = codes "x"; object = 1 } ∷ []) units)) (codes "y" ∷ codes "x" ∷ [])
    ≡ Some (record { units = codes "x"; object = 1 } ∷ record { units = codes "y"; object = 3 } ∷ []) ∷ Some (record { units = codes "x"; object = 1 } ∷ []) ∷ []
unfolding with_literal
literals_in_order = refl

-- the arguments after a number are looked at too
later_arguments : map (λ (r : ℕ). are_instances (metered_program []) [] text_heap (int ∷ string ∷ []) (values.Int (pos 1) ∷ values.Ref r ∷ [])) (1 ∷ 2 ∷ []) ≡ true ∷ false ∷ []
unfolding metered_program most_classes chain_of interfaces_from interfaces_above is_subclass is_subtype
later_arguments = refl
