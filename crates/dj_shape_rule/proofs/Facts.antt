-- Kinds by plain values: what is kept of pools, and what instructions do with it.
use Rattle.std.proofs.Common.{◌≡◌, ℕ, List, [], ◌∷◌, ◌++◌, map, length, replicate, Option, Some, None, codes, pos, refl, ap, arith}
use Rattle.std.specs.Option.{option_map}
use Rattle.std.proofs.lemmas.Option.{same_Some}
use Rattle.dj_names.specs.declared.descriptor.Kind.{Kind}
use Rattle.dj_names.specs.declared.descriptor.Kind.TheVariants.{Int, Long, Ref}
use Rattle.dj_names.specs.trusted.DescReading.{dims_read, name_read, class_read, of_read, type_read, params_read, field_read, return_read, method_read, desc_read}
use Rattle.dj_names.specs.trusted.NameReading.{reads_class_name}
use Rattle.dj_ops.specs.declared.frames.Form.TheVariants as forms
use Rattle.dj_ops.specs.declared.instruction.Instr.{Instr}
use Rattle.dj_ops.specs.declared.instruction.Instr.TheVariants as instrs
use Rattle.dj_ops.specs.Mnemonics.{nop, lconst_0, ldc, ldc_w, ldc2_w, dup2, getstatic, putstatic, getfield, putfield, invokevirtual, invokestatic, new, anewarray, checkcast, instanceof}
use Rattle.dj_pool.specs.trusted.Pool.{Constant, Utf8, Integer, Float, Long as LongConstant, Double, Class, Text, Field, Method, InterfaceMethod, NameAndType, Hole}
use Rattle.dj_model.specs.trusted.Kinds.{Signature, Kinds, Entries, Placed, Map, Read, form_entries, frames_after}
use Rattle.dj_model.specs.trusted.Opcodes.{instruction_of, simple}
use Rattle.dj_model.specs.trusted.Program.{Code}
use Rattle.dj_model.specs.trusted.Shape.{after}
use Rattle.dj_model.specs.trusted.Values.{moved}
use Rattle.dj_declarations.specs.trusted.Files.{desc_in}
use Rattle.dj_program.specs.trusted.Naming.{named_by, instruction_in}
use Rattle.dj_shape_rule.specs.Keeping.{text_kind, text_call, all_kinds, all_calls}
use Rattle.dj_shape_rule.specs.declared.pool.ConstantKind.TheVariants as constants

-- ---- operands

abbrev room_for : ℕ → Code
room_for most = record { max_stack = most; max_locals = 4; instructions = []; ranges = []; frames = None }

abbrev none : Signature
none = record { parameters = []; result = None }

abbrev on_stack : Option Kinds → Option (List Kind)
on_stack left = option_map (λ (k : Kinds). k.stack) left

-- the operands after an instruction, the top first
abbrev left : List Constant → ℕ → List Kind → Instr → Option (List Kind)
left pool most stack instr = on_stack (after none (room_for most) (instruction_in pool instr) (record { locals = Some Int ∷ Some Long ∷ None ∷ Some Ref ∷ []; stack = stack }))

-- a long takes two of max_stack
room : left [] 1 [] (instrs.Simple lconst_0) ∷ left [] 2 [] (instrs.Simple lconst_0) ∷ left [] 3 (Long ∷ []) (instrs.Simple dup2) ∷ left [] 4 (Long ∷ []) (instrs.Simple dup2) ∷ left [] 0 [] (instrs.Simple nop) ∷ []
    ≡ None ∷ Some (Long ∷ []) ∷ None ∷ Some (Long ∷ Long ∷ []) ∷ Some [] ∷ []
unfolding after instruction_of simple moved
room = refl

-- ---- descriptors

field_kinds : map (λ text. text_kind text) (codes "Z" ∷ codes "B" ∷ codes "C" ∷ codes "S" ∷ codes "I" ∷ codes "J" ∷ codes "F" ∷ codes "D" ∷ codes "La;" ∷ codes "[F" ∷ codes "[[J" ∷ [])
    ≡ Some Int ∷ Some Int ∷ Some Int ∷ Some Int ∷ Some Int ∷ Some Long ∷ None ∷ None ∷ Some Ref ∷ Some Ref ∷ Some Ref ∷ []
field_kinds = refl

call_kinds : map (λ text. text_call text) (codes "()V" ∷ codes "(ZJLa;[F)J" ∷ codes "([D)La;" ∷ codes "(F)V" ∷ codes "(ID)I" ∷ codes "()D" ∷ codes "I" ∷ codes "(I" ∷ codes "" ∷ codes "<init>" ∷ [])
    ≡ Some (record { parameters = []; result = None }) ∷ Some (record { parameters = Int ∷ Long ∷ Ref ∷ Ref ∷ []; result = Some Long }) ∷ Some (record { parameters = Ref ∷ []; result = Some Ref }) ∷ None ∷ None ∷ None ∷ None ∷ None ∷ None ∷ None ∷ []
unfolding dims_read name_read class_read of_read type_read params_read field_read return_read method_read desc_read reads_class_name
call_kinds = refl

-- ---- a pool

-- the class is at 2, the field's and the method's names and descriptors at 6 and 7, and the members from 8 on; a long takes two indexes
abbrev pool : List Constant
pool =
    Utf8 (codes "C") ∷ Class 1 ∷ Utf8 (codes "m") ∷ Utf8 (codes "J") ∷ Utf8 (codes "(IJ)V") ∷ NameAndType 3 4 ∷ NameAndType 3 5
    ∷ Field 2 6 ∷ Method 2 7 ∷ InterfaceMethod 2 7 ∷ Integer (pos 1) ∷ LongConstant (pos 2) ∷ Hole ∷ Text 3 ∷ Float 0 ∷ Double 0 ∷ Hole ∷ []

kept_kinds : all_kinds pool pool
    ≡ constants.Other ∷ constants.Other ∷ constants.Class ∷ constants.Other ∷ constants.Other ∷ constants.Other ∷ constants.Other ∷ constants.Other
    ∷ constants.Field (Some Long) ∷ constants.Method 5 ∷ constants.InterfaceMethod 5 ∷ constants.Int ∷ constants.Long ∷ constants.Other ∷ constants.Text ∷ constants.Other ∷ constants.Other ∷ constants.Other ∷ []
kept_kinds = refl

abbrev int_and_long : Option Signature
int_and_long = Some (record { parameters = Int ∷ Long ∷ []; result = None })

kept_calls : all_calls pool ≡ replicate 5 None ++ int_and_long ∷ replicate 12 None
unfolding dims_read name_read class_read of_read type_read params_read field_read return_read method_read desc_read reads_class_name
kept_calls = refl

-- constants, fields and calls; the count of invokeinterface is that of the slots and one
abbrev of_pool : List Kind → Instr → Option (List Kind)
of_pool stack instr = left pool 7 stack instr

constants_and_members : of_pool [] (instrs.Literal ldc 11) ∷ of_pool [] (instrs.Literal ldc 12) ∷ of_pool [] (instrs.Literal ldc2_w 12) ∷ of_pool [] (instrs.Literal ldc_w 14) ∷ of_pool [] (instrs.Literal ldc 2)
    ∷ of_pool [] (instrs.Member getstatic 8) ∷ of_pool (Long ∷ Int ∷ []) (instrs.Member putstatic 8) ∷ of_pool (Ref ∷ []) (instrs.Member getfield 8) ∷ of_pool (Long ∷ Ref ∷ []) (instrs.Member putfield 8) ∷ of_pool (Ref ∷ Long ∷ []) (instrs.Member putfield 8)
    ∷ of_pool (Long ∷ Int ∷ Ref ∷ Int ∷ []) (instrs.Member invokevirtual 9) ∷ of_pool (Int ∷ Long ∷ Ref ∷ []) (instrs.Member invokevirtual 9) ∷ of_pool (Long ∷ Int ∷ Ref ∷ []) (instrs.Member invokestatic 9) ∷ of_pool (Long ∷ Int ∷ Ref ∷ []) (instrs.Member invokevirtual 10)
    ∷ of_pool (Long ∷ Int ∷ Ref ∷ []) (instrs.Interface 10 4) ∷ of_pool (Long ∷ Int ∷ Ref ∷ []) (instrs.Interface 10 3) ∷ of_pool (Long ∷ Int ∷ Ref ∷ []) (instrs.Interface 9 4)
    ∷ of_pool [] (instrs.Class new 2) ∷ of_pool (Int ∷ []) (instrs.Class anewarray 2) ∷ of_pool (Ref ∷ []) (instrs.Class checkcast 2) ∷ of_pool (Ref ∷ []) (instrs.Class instanceof 2) ∷ of_pool (Int ∷ []) (instrs.Class instanceof 2) ∷ []
    ≡ Some (Int ∷ []) ∷ None ∷ Some (Long ∷ []) ∷ Some (Ref ∷ []) ∷ None
    ∷ Some (Long ∷ []) ∷ Some (Int ∷ []) ∷ Some (Long ∷ []) ∷ Some [] ∷ None
    ∷ Some (Int ∷ []) ∷ None ∷ Some (Ref ∷ []) ∷ None
    ∷ Some [] ∷ None ∷ None
    ∷ Some (Ref ∷ []) ∷ Some (Ref ∷ []) ∷ Some (Ref ∷ []) ∷ Some (Int ∷ []) ∷ None ∷ []
unfolding after instruction_of named_by desc_in dims_read name_read class_read of_read type_read params_read field_read return_read method_read desc_read reads_class_name
constants_and_members = refl

-- ---- frames

abbrev ref_and_long : List (Option Kind)
ref_and_long = Some Ref ∷ Some Long ∷ []

abbrev locals_reported : Entries → List (Option Kind)
locals_reported e = e.locals

-- the local variables that a frame declares which cuts this many of them
abbrev chopped : List (Option Kind) → ℕ → Option (List (Option Kind))
chopped before n = option_map locals_reported (form_entries (room_for 4) before (forms.Chop n))

-- a long is cut as one, though it takes two slots; and no more are cut than there are
chop : map (chopped ref_and_long) (1 ∷ 2 ∷ 3 ∷ []) ++ map (chopped (Some Long ∷ Some Int ∷ Some Long ∷ [])) (1 ∷ 2 ∷ 3 ∷ [])
    ≡ Some (Some Ref ∷ []) ∷ Some [] ∷ None ∷ Some (Some Long ∷ Some Int ∷ []) ∷ Some (Some Long ∷ []) ∷ Some [] ∷ []
chop = refl

long_cut_as_two : chopped ref_and_long 1 ≡ Some [] → ⊥
long_cut_as_two e = let same : Some Ref ∷ [] ≡ [] = same_Some (Some Ref ∷ []) [] e in absurd cc

long_not_cut : chopped ref_and_long 1 ≡ Some ref_and_long → ⊥
long_not_cut e = let same : 1 ≡ 2 = ap length (same_Some (Some Ref ∷ []) ref_and_long e) in omega (arith, same)

abbrev placed_in : Map → List Placed
placed_in (Read frames) = frames
placed_in other = []

abbrev locals_placed : Placed → List (Option Kind)
locals_placed frame = frame.kinds.locals

-- and so in slots: the reference alone is left, and the local variables after it are without values
chop_in_slots : map locals_placed (placed_in (frames_after (room_for 4) ref_and_long (record { at = 3; form = forms.Chop 1 } ∷ [])))
    ≡ (Some Ref ∷ None ∷ None ∷ None ∷ []) ∷ []
unfolding frames_after
chop_in_slots = refl

-- after it another frame counts from what is left
chop_then_chop : map locals_placed (placed_in (frames_after (room_for 4) ref_and_long (record { at = 3; form = forms.Chop 1 } ∷ record { at = 4; form = forms.Chop 1 } ∷ [])))
    ≡ (Some Ref ∷ None ∷ None ∷ None ∷ []) ∷ (None ∷ None ∷ None ∷ None ∷ []) ∷ []
unfolding frames_after
chop_then_chop = refl
