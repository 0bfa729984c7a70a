-- What the instructions with operands take and leave, by plain values (JVMS chapter 6).
use Rattle.std.proofs.Common.{◌≡◌, pos, ℕ, ℤ, List, [], ◌∷◌, Option, Some, None, codes, refl}
use Rattle.dj_names.specs.declared.descriptor.Kind.{Kind}
use Rattle.dj_names.specs.declared.descriptor.Kind.TheVariants as kinds
use Rattle.dj_names.specs.declared.descriptor.Base.TheVariants as bases
use Rattle.dj_names.specs.declared.descriptor.Ty.{Ty}
use Rattle.dj_names.specs.trusted.Types.{base_type}
use Rattle.dj_names.specs.trusted.Library.{object, int, long}
use Rattle.dj_ops.specs.declared.instruction.Instr.TheVariants as instrs
use Rattle.dj_model.specs.trusted.Instructions.{Nothing, AnInt, ALong, AText, AClass, Instruction}
use Rattle.dj_model.specs.trusted.Opcodes.{instruction_of}
use Rattle.dj_model.specs.trusted.Kinds.{Kinds}
use Rattle.dj_model.specs.trusted.Shape.{after}
use Rattle.dj_model.specs.SmallRuns.{push, slot, iinc, jump, newarray, class, field, method, interface_method}
use Rattle.dj_ops.specs.Mnemonics.{bipush, sipush, ldc, ldc_w, ldc2_w, iload, lload, fload, dload, aload, istore, lstore, astore, ifeq, ifne, iflt, ifge, ifgt, ifle, if_icmpeq, if_icmpne, if_icmplt, if_icmpge, if_icmpgt, if_icmple, if_acmpeq, if_acmpne, goto, jsr, getstatic, putstatic, getfield, putfield, invokevirtual, invokespecial, invokestatic, new, anewarray, checkcast, instanceof, multianewarray, ifnull, ifnonnull, goto_w, jsr_w}

-- an int, a long, a reference, and no value in the last two
abbrev with_operands : List Kind → Kinds
with_operands stack = record { locals = Some kinds.Int ∷ Some kinds.Long ∷ None ∷ Some kinds.Ref ∷ None ∷ None ∷ []; stack = stack }

-- what an instruction leaves of these operands, the top first; seven fit
abbrev left : Instruction → List Kind → Option Kinds
left i stack =
    after (record { parameters = []; result = None }) (record { max_stack = 7; max_locals = 6; instructions = []; ranges = []; frames = Some [] }) i (with_operands stack)

abbrev leaves : List Kind → Option Kinds
leaves stack = Some (with_operands stack)

abbrev table : ℕ → List ℤ → Instruction
table default targets = instruction_of (instrs.Table (pos 1) (pos default) targets) Nothing

abbrev lookup : ℕ → List (ℤ × ℤ) → Instruction
lookup default pairs = instruction_of (instrs.Lookup (pos default) pairs) Nothing

abbrev float : Ty
float = base_type bases.Float

-- each instruction with operands takes these and gives those; what stands below stays, and so do the local variables
constants_and_jumps : left (push bipush (pos 5)) (kinds.Long ∷ kinds.Ref ∷ [])
    ∷ left (push sipush (pos 5)) (kinds.Long ∷ kinds.Ref ∷ [])
    ∷ left (instruction_of (instrs.Literal ldc 7) (AnInt (pos 5))) (kinds.Long ∷ kinds.Ref ∷ [])
    ∷ left (instruction_of (instrs.Literal ldc_w 7) (AnInt (pos 5))) (kinds.Long ∷ kinds.Ref ∷ [])
    ∷ left (instruction_of (instrs.Literal ldc 7) (AText (codes "ab"))) (kinds.Long ∷ kinds.Ref ∷ [])
    ∷ left (instruction_of (instrs.Literal ldc_w 7) (AText (codes "ab"))) (kinds.Long ∷ kinds.Ref ∷ [])
    ∷ left (instruction_of (instrs.Literal ldc2_w 7) (ALong (pos 5))) (kinds.Long ∷ kinds.Ref ∷ [])
    ∷ left (slot iload 0) (kinds.Long ∷ kinds.Ref ∷ [])
    ∷ left (slot lload 1) (kinds.Long ∷ kinds.Ref ∷ [])
    ∷ left (slot aload 3) (kinds.Long ∷ kinds.Ref ∷ [])
    ∷ left (slot istore 0) (kinds.Int ∷ kinds.Long ∷ kinds.Ref ∷ [])
    ∷ left (slot lstore 1) (kinds.Long ∷ kinds.Long ∷ kinds.Ref ∷ [])
    ∷ left (slot astore 3) (kinds.Ref ∷ kinds.Long ∷ kinds.Ref ∷ [])
    ∷ left (iinc 0 (pos 1)) (kinds.Long ∷ kinds.Ref ∷ [])
    ∷ left (jump ifeq 4) (kinds.Int ∷ kinds.Long ∷ kinds.Ref ∷ [])
    ∷ left (jump ifne 4) (kinds.Int ∷ kinds.Long ∷ kinds.Ref ∷ [])
    ∷ left (jump iflt 4) (kinds.Int ∷ kinds.Long ∷ kinds.Ref ∷ [])
    ∷ left (jump ifge 4) (kinds.Int ∷ kinds.Long ∷ kinds.Ref ∷ [])
    ∷ left (jump ifgt 4) (kinds.Int ∷ kinds.Long ∷ kinds.Ref ∷ [])
    ∷ left (jump ifle 4) (kinds.Int ∷ kinds.Long ∷ kinds.Ref ∷ [])
    ∷ left (jump if_icmpeq 4) (kinds.Int ∷ kinds.Int ∷ kinds.Long ∷ kinds.Ref ∷ [])
    ∷ left (jump if_icmpne 4) (kinds.Int ∷ kinds.Int ∷ kinds.Long ∷ kinds.Ref ∷ [])
    ∷ left (jump if_icmplt 4) (kinds.Int ∷ kinds.Int ∷ kinds.Long ∷ kinds.Ref ∷ [])
    ∷ left (jump if_icmpge 4) (kinds.Int ∷ kinds.Int ∷ kinds.Long ∷ kinds.Ref ∷ [])
    ∷ left (jump if_icmpgt 4) (kinds.Int ∷ kinds.Int ∷ kinds.Long ∷ kinds.Ref ∷ [])
    ∷ left (jump if_icmple 4) (kinds.Int ∷ kinds.Int ∷ kinds.Long ∷ kinds.Ref ∷ [])
    ∷ left (jump if_acmpeq 4) (kinds.Ref ∷ kinds.Ref ∷ kinds.Long ∷ kinds.Ref ∷ [])
    ∷ left (jump if_acmpne 4) (kinds.Ref ∷ kinds.Ref ∷ kinds.Long ∷ kinds.Ref ∷ [])
    ∷ left (jump ifnull 4) (kinds.Ref ∷ kinds.Long ∷ kinds.Ref ∷ [])
    ∷ left (jump ifnonnull 4) (kinds.Ref ∷ kinds.Long ∷ kinds.Ref ∷ [])
    ∷ left (jump goto 4) (kinds.Long ∷ kinds.Ref ∷ [])
    ∷ left (jump goto_w 4) (kinds.Long ∷ kinds.Ref ∷ [])
    ∷ left (table 4 (pos 2 ∷ pos 3 ∷ [])) (kinds.Int ∷ kinds.Long ∷ kinds.Ref ∷ [])
    ∷ left (lookup 4 ((pos 7, pos 2) ∷ (pos 9, pos 3) ∷ [])) (kinds.Int ∷ kinds.Long ∷ kinds.Ref ∷ [])
    ∷ []
    ≡ leaves (kinds.Int ∷ kinds.Long ∷ kinds.Ref ∷ []) ∷ leaves (kinds.Int ∷ kinds.Long ∷ kinds.Ref ∷ []) ∷ leaves (kinds.Int ∷ kinds.Long ∷ kinds.Ref ∷ []) ∷ leaves (kinds.Int ∷ kinds.Long ∷ kinds.Ref ∷ []) ∷ leaves (kinds.Ref ∷ kinds.Long ∷ kinds.Ref ∷ []) ∷ leaves (kinds.Ref ∷ kinds.Long ∷ kinds.Ref ∷ []) ∷ leaves (kinds.Long ∷ kinds.Long ∷ kinds.Ref ∷ []) ∷ leaves (kinds.Int ∷ kinds.Long ∷ kinds.Ref ∷ []) ∷ leaves (kinds.Long ∷ kinds.Long ∷ kinds.Ref ∷ []) ∷ leaves (kinds.Ref ∷ kinds.Long ∷ kinds.Ref ∷ []) ∷ leaves (kinds.Long ∷ kinds.Ref ∷ []) ∷ leaves (kinds.Long ∷ kinds.Ref ∷ []) ∷ leaves (kinds.Long ∷ kinds.Ref ∷ []) ∷ leaves (kinds.Long ∷ kinds.Ref ∷ []) ∷ leaves (kinds.Long ∷ kinds.Ref ∷ []) ∷ leaves (kinds.Long ∷ kinds.Ref ∷ []) ∷ leaves (kinds.Long ∷ kinds.Ref ∷ []) ∷ leaves (kinds.Long ∷ kinds.Ref ∷ []) ∷ leaves (kinds.Long ∷ kinds.Ref ∷ []) ∷ leaves (kinds.Long ∷ kinds.Ref ∷ []) ∷ leaves (kinds.Long ∷ kinds.Ref ∷ []) ∷ leaves (kinds.Long ∷ kinds.Ref ∷ []) ∷ leaves (kinds.Long ∷ kinds.Ref ∷ []) ∷ leaves (kinds.Long ∷ kinds.Ref ∷ []) ∷ leaves (kinds.Long ∷ kinds.Ref ∷ []) ∷ leaves (kinds.Long ∷ kinds.Ref ∷ []) ∷ leaves (kinds.Long ∷ kinds.Ref ∷ []) ∷ leaves (kinds.Long ∷ kinds.Ref ∷ []) ∷ leaves (kinds.Long ∷ kinds.Ref ∷ []) ∷ leaves (kinds.Long ∷ kinds.Ref ∷ []) ∷ leaves (kinds.Long ∷ kinds.Ref ∷ []) ∷ leaves (kinds.Long ∷ kinds.Ref ∷ []) ∷ leaves (kinds.Long ∷ kinds.Ref ∷ []) ∷ leaves (kinds.Long ∷ kinds.Ref ∷ []) ∷ []
unfolding after instruction_of
constants_and_jumps = refl

members_and_classes : left (field getstatic object (codes "f") int) (kinds.Long ∷ kinds.Ref ∷ [])
    ∷ left (field putstatic object (codes "f") int) (kinds.Int ∷ kinds.Long ∷ kinds.Ref ∷ [])
    ∷ left (field getfield object (codes "f") int) (kinds.Ref ∷ kinds.Long ∷ kinds.Ref ∷ [])
    ∷ left (field putfield object (codes "f") int) (kinds.Int ∷ kinds.Ref ∷ kinds.Long ∷ kinds.Ref ∷ [])
    ∷ left (field getstatic object (codes "f") long) (kinds.Long ∷ kinds.Ref ∷ [])
    ∷ left (field putstatic object (codes "f") long) (kinds.Long ∷ kinds.Long ∷ kinds.Ref ∷ [])
    ∷ left (field getfield object (codes "f") long) (kinds.Ref ∷ kinds.Long ∷ kinds.Ref ∷ [])
    ∷ left (field putfield object (codes "f") long) (kinds.Long ∷ kinds.Ref ∷ kinds.Long ∷ kinds.Ref ∷ [])
    ∷ left (field getstatic object (codes "f") object) (kinds.Long ∷ kinds.Ref ∷ [])
    ∷ left (field putstatic object (codes "f") object) (kinds.Ref ∷ kinds.Long ∷ kinds.Ref ∷ [])
    ∷ left (field getfield object (codes "f") object) (kinds.Ref ∷ kinds.Long ∷ kinds.Ref ∷ [])
    ∷ left (field putfield object (codes "f") object) (kinds.Ref ∷ kinds.Ref ∷ kinds.Long ∷ kinds.Ref ∷ [])
    ∷ left (method invokevirtual object (codes "m") (int ∷ long ∷ object ∷ []) None) (kinds.Ref ∷ kinds.Long ∷ kinds.Int ∷ kinds.Ref ∷ kinds.Long ∷ kinds.Ref ∷ [])
    ∷ left (method invokespecial object (codes "m") (int ∷ long ∷ object ∷ []) None) (kinds.Ref ∷ kinds.Long ∷ kinds.Int ∷ kinds.Ref ∷ kinds.Long ∷ kinds.Ref ∷ [])
    ∷ left (interface_method 5 object (codes "m") (int ∷ long ∷ object ∷ []) None) (kinds.Ref ∷ kinds.Long ∷ kinds.Int ∷ kinds.Ref ∷ kinds.Long ∷ kinds.Ref ∷ [])
    ∷ left (method invokestatic object (codes "m") (int ∷ long ∷ object ∷ []) None) (kinds.Ref ∷ kinds.Long ∷ kinds.Int ∷ kinds.Long ∷ kinds.Ref ∷ [])
    ∷ left (method invokevirtual object (codes "m") (int ∷ long ∷ object ∷ []) (Some int)) (kinds.Ref ∷ kinds.Long ∷ kinds.Int ∷ kinds.Ref ∷ kinds.Long ∷ kinds.Ref ∷ [])
    ∷ left (method invokespecial object (codes "m") (int ∷ long ∷ object ∷ []) (Some int)) (kinds.Ref ∷ kinds.Long ∷ kinds.Int ∷ kinds.Ref ∷ kinds.Long ∷ kinds.Ref ∷ [])
    ∷ left (interface_method 5 object (codes "m") (int ∷ long ∷ object ∷ []) (Some int)) (kinds.Ref ∷ kinds.Long ∷ kinds.Int ∷ kinds.Ref ∷ kinds.Long ∷ kinds.Ref ∷ [])
    ∷ left (method invokestatic object (codes "m") (int ∷ long ∷ object ∷ []) (Some int)) (kinds.Ref ∷ kinds.Long ∷ kinds.Int ∷ kinds.Long ∷ kinds.Ref ∷ [])
    ∷ left (method invokevirtual object (codes "m") (int ∷ long ∷ object ∷ []) (Some long)) (kinds.Ref ∷ kinds.Long ∷ kinds.Int ∷ kinds.Ref ∷ kinds.Long ∷ kinds.Ref ∷ [])
    ∷ left (method invokespecial object (codes "m") (int ∷ long ∷ object ∷ []) (Some long)) (kinds.Ref ∷ kinds.Long ∷ kinds.Int ∷ kinds.Ref ∷ kinds.Long ∷ kinds.Ref ∷ [])
    ∷ left (interface_method 5 object (codes "m") (int ∷ long ∷ object ∷ []) (Some long)) (kinds.Ref ∷ kinds.Long ∷ kinds.Int ∷ kinds.Ref ∷ kinds.Long ∷ kinds.Ref ∷ [])
    ∷ left (method invokestatic object (codes "m") (int ∷ long ∷ object ∷ []) (Some long)) (kinds.Ref ∷ kinds.Long ∷ kinds.Int ∷ kinds.Long ∷ kinds.Ref ∷ [])
    ∷ left (method invokevirtual object (codes "m") (int ∷ long ∷ object ∷ []) (Some object)) (kinds.Ref ∷ kinds.Long ∷ kinds.Int ∷ kinds.Ref ∷ kinds.Long ∷ kinds.Ref ∷ [])
    ∷ left (method invokespecial object (codes "m") (int ∷ long ∷ object ∷ []) (Some object)) (kinds.Ref ∷ kinds.Long ∷ kinds.Int ∷ kinds.Ref ∷ kinds.Long ∷ kinds.Ref ∷ [])
    ∷ left (interface_method 5 object (codes "m") (int ∷ long ∷ object ∷ []) (Some object)) (kinds.Ref ∷ kinds.Long ∷ kinds.Int ∷ kinds.Ref ∷ kinds.Long ∷ kinds.Ref ∷ [])
    ∷ left (method invokestatic object (codes "m") (int ∷ long ∷ object ∷ []) (Some object)) (kinds.Ref ∷ kinds.Long ∷ kinds.Int ∷ kinds.Long ∷ kinds.Ref ∷ [])
    ∷ left (class new object) (kinds.Long ∷ kinds.Ref ∷ [])
    ∷ left (newarray 4) (kinds.Int ∷ kinds.Long ∷ kinds.Ref ∷ [])
    ∷ left (newarray 5) (kinds.Int ∷ kinds.Long ∷ kinds.Ref ∷ [])
    ∷ left (newarray 8) (kinds.Int ∷ kinds.Long ∷ kinds.Ref ∷ [])
    ∷ left (newarray 9) (kinds.Int ∷ kinds.Long ∷ kinds.Ref ∷ [])
    ∷ left (newarray 10) (kinds.Int ∷ kinds.Long ∷ kinds.Ref ∷ [])
    ∷ left (newarray 11) (kinds.Int ∷ kinds.Long ∷ kinds.Ref ∷ [])
    ∷ left (class anewarray object) (kinds.Int ∷ kinds.Long ∷ kinds.Ref ∷ [])
    ∷ left (class checkcast object) (kinds.Ref ∷ kinds.Long ∷ kinds.Ref ∷ [])
    ∷ left (class instanceof object) (kinds.Ref ∷ kinds.Long ∷ kinds.Ref ∷ [])
    ∷ []
    ≡ leaves (kinds.Int ∷ kinds.Long ∷ kinds.Ref ∷ []) ∷ leaves (kinds.Long ∷ kinds.Ref ∷ []) ∷ leaves (kinds.Int ∷ kinds.Long ∷ kinds.Ref ∷ []) ∷ leaves (kinds.Long ∷ kinds.Ref ∷ []) ∷ leaves (kinds.Long ∷ kinds.Long ∷ kinds.Ref ∷ []) ∷ leaves (kinds.Long ∷ kinds.Ref ∷ []) ∷ leaves (kinds.Long ∷ kinds.Long ∷ kinds.Ref ∷ []) ∷ leaves (kinds.Long ∷ kinds.Ref ∷ []) ∷ leaves (kinds.Ref ∷ kinds.Long ∷ kinds.Ref ∷ []) ∷ leaves (kinds.Long ∷ kinds.Ref ∷ []) ∷ leaves (kinds.Ref ∷ kinds.Long ∷ kinds.Ref ∷ []) ∷ leaves (kinds.Long ∷ kinds.Ref ∷ []) ∷ leaves (kinds.Long ∷ kinds.Ref ∷ []) ∷ leaves (kinds.Long ∷ kinds.Ref ∷ []) ∷ leaves (kinds.Long ∷ kinds.Ref ∷ []) ∷ leaves (kinds.Long ∷ kinds.Ref ∷ []) ∷ leaves (kinds.Int ∷ kinds.Long ∷ kinds.Ref ∷ []) ∷ leaves (kinds.Int ∷ kinds.Long ∷ kinds.Ref ∷ []) ∷ leaves (kinds.Int ∷ kinds.Long ∷ kinds.Ref ∷ []) ∷ leaves (kinds.Int ∷ kinds.Long ∷ kinds.Ref ∷ []) ∷ leaves (kinds.Long ∷ kinds.Long ∷ kinds.Ref ∷ []) ∷ leaves (kinds.Long ∷ kinds.Long ∷ kinds.Ref ∷ []) ∷ leaves (kinds.Long ∷ kinds.Long ∷ kinds.Ref ∷ []) ∷ leaves (kinds.Long ∷ kinds.Long ∷ kinds.Ref ∷ []) ∷ leaves (kinds.Ref ∷ kinds.Long ∷ kinds.Ref ∷ []) ∷ leaves (kinds.Ref ∷ kinds.Long ∷ kinds.Ref ∷ []) ∷ leaves (kinds.Ref ∷ kinds.Long ∷ kinds.Ref ∷ []) ∷ leaves (kinds.Ref ∷ kinds.Long ∷ kinds.Ref ∷ []) ∷ leaves (kinds.Ref ∷ kinds.Long ∷ kinds.Ref ∷ []) ∷ leaves (kinds.Ref ∷ kinds.Long ∷ kinds.Ref ∷ []) ∷ leaves (kinds.Ref ∷ kinds.Long ∷ kinds.Ref ∷ []) ∷ leaves (kinds.Ref ∷ kinds.Long ∷ kinds.Ref ∷ []) ∷ leaves (kinds.Ref ∷ kinds.Long ∷ kinds.Ref ∷ []) ∷ leaves (kinds.Ref ∷ kinds.Long ∷ kinds.Ref ∷ []) ∷ leaves (kinds.Ref ∷ kinds.Long ∷ kinds.Ref ∷ []) ∷ leaves (kinds.Ref ∷ kinds.Long ∷ kinds.Ref ∷ []) ∷ leaves (kinds.Ref ∷ kinds.Long ∷ kinds.Ref ∷ []) ∷ leaves (kinds.Int ∷ kinds.Long ∷ kinds.Ref ∷ []) ∷ []
unfolding after instruction_of
members_and_classes = refl

-- one operand of another kind, and one too few
wrong_kinds_of_jumps : left (slot istore 0) (kinds.Long ∷ [])
    ∷ left (slot istore 0) []
    ∷ left (slot lstore 1) (kinds.Ref ∷ [])
    ∷ left (slot lstore 1) []
    ∷ left (slot astore 3) (kinds.Int ∷ [])
    ∷ left (slot astore 3) []
    ∷ left (jump ifeq 4) (kinds.Long ∷ [])
    ∷ left (jump ifeq 4) []
    ∷ left (jump ifne 4) (kinds.Long ∷ [])
    ∷ left (jump ifne 4) []
    ∷ left (jump iflt 4) (kinds.Long ∷ [])
    ∷ left (jump iflt 4) []
    ∷ left (jump ifge 4) (kinds.Long ∷ [])
    ∷ left (jump ifge 4) []
    ∷ left (jump ifgt 4) (kinds.Long ∷ [])
    ∷ left (jump ifgt 4) []
    ∷ left (jump ifle 4) (kinds.Long ∷ [])
    ∷ left (jump ifle 4) []
    ∷ left (jump if_icmpeq 4) (kinds.Long ∷ kinds.Int ∷ [])
    ∷ left (jump if_icmpeq 4) (kinds.Int ∷ kinds.Long ∷ [])
    ∷ left (jump if_icmpeq 4) (kinds.Int ∷ [])
    ∷ left (jump if_icmpne 4) (kinds.Long ∷ kinds.Int ∷ [])
    ∷ left (jump if_icmpne 4) (kinds.Int ∷ kinds.Long ∷ [])
    ∷ left (jump if_icmpne 4) (kinds.Int ∷ [])
    ∷ left (jump if_icmplt 4) (kinds.Long ∷ kinds.Int ∷ [])
    ∷ left (jump if_icmplt 4) (kinds.Int ∷ kinds.Long ∷ [])
    ∷ left (jump if_icmplt 4) (kinds.Int ∷ [])
    ∷ left (jump if_icmpge 4) (kinds.Long ∷ kinds.Int ∷ [])
    ∷ left (jump if_icmpge 4) (kinds.Int ∷ kinds.Long ∷ [])
    ∷ left (jump if_icmpge 4) (kinds.Int ∷ [])
    ∷ left (jump if_icmpgt 4) (kinds.Long ∷ kinds.Int ∷ [])
    ∷ left (jump if_icmpgt 4) (kinds.Int ∷ kinds.Long ∷ [])
    ∷ left (jump if_icmpgt 4) (kinds.Int ∷ [])
    ∷ left (jump if_icmple 4) (kinds.Long ∷ kinds.Int ∷ [])
    ∷ left (jump if_icmple 4) (kinds.Int ∷ kinds.Long ∷ [])
    ∷ left (jump if_icmple 4) (kinds.Int ∷ [])
    ∷ left (jump if_acmpeq 4) (kinds.Int ∷ kinds.Ref ∷ [])
    ∷ left (jump if_acmpeq 4) (kinds.Ref ∷ kinds.Int ∷ [])
    ∷ left (jump if_acmpeq 4) (kinds.Ref ∷ [])
    ∷ left (jump if_acmpne 4) (kinds.Int ∷ kinds.Ref ∷ [])
    ∷ left (jump if_acmpne 4) (kinds.Ref ∷ kinds.Int ∷ [])
    ∷ left (jump if_acmpne 4) (kinds.Ref ∷ [])
    ∷ left (jump ifnull 4) (kinds.Int ∷ [])
    ∷ left (jump ifnull 4) []
    ∷ left (jump ifnonnull 4) (kinds.Int ∷ [])
    ∷ left (jump ifnonnull 4) []
    ∷ left (table 4 (pos 2 ∷ pos 3 ∷ [])) (kinds.Long ∷ [])
    ∷ left (table 4 (pos 2 ∷ pos 3 ∷ [])) []
    ∷ left (lookup 4 ((pos 7, pos 2) ∷ (pos 9, pos 3) ∷ [])) (kinds.Long ∷ [])
    ∷ left (lookup 4 ((pos 7, pos 2) ∷ (pos 9, pos 3) ∷ [])) []
    ∷ []
    ≡ None ∷ None ∷ None ∷ None ∷ None ∷ None ∷ None ∷ None ∷ None ∷ None ∷ None ∷ None ∷ None ∷ None ∷ None ∷ None ∷ None ∷ None ∷ None ∷ None ∷ None ∷ None ∷ None ∷ None ∷ None ∷ None ∷ None ∷ None ∷ None ∷ None ∷ None ∷ None ∷ None ∷ None ∷ None ∷ None ∷ None ∷ None ∷ None ∷ None ∷ None ∷ None ∷ None ∷ None ∷ None ∷ None ∷ None ∷ None ∷ None ∷ None ∷ []
unfolding after instruction_of
wrong_kinds_of_jumps = refl

wrong_kinds_of_fields : left (field putstatic object (codes "f") int) (kinds.Long ∷ [])
    ∷ left (field putstatic object (codes "f") int) []
    ∷ left (field getfield object (codes "f") int) (kinds.Int ∷ [])
    ∷ left (field getfield object (codes "f") int) []
    ∷ left (field putfield object (codes "f") int) (kinds.Long ∷ kinds.Ref ∷ [])
    ∷ left (field putfield object (codes "f") int) (kinds.Int ∷ kinds.Int ∷ [])
    ∷ left (field putfield object (codes "f") int) (kinds.Int ∷ [])
    ∷ left (field putstatic object (codes "f") long) (kinds.Ref ∷ [])
    ∷ left (field putstatic object (codes "f") long) []
    ∷ left (field getfield object (codes "f") long) (kinds.Int ∷ [])
    ∷ left (field getfield object (codes "f") long) []
    ∷ left (field putfield object (codes "f") long) (kinds.Ref ∷ kinds.Ref ∷ [])
    ∷ left (field putfield object (codes "f") long) (kinds.Long ∷ kinds.Int ∷ [])
    ∷ left (field putfield object (codes "f") long) (kinds.Long ∷ [])
    ∷ left (field putstatic object (codes "f") object) (kinds.Int ∷ [])
    ∷ left (field putstatic object (codes "f") object) []
    ∷ left (field getfield object (codes "f") object) (kinds.Int ∷ [])
    ∷ left (field getfield object (codes "f") object) []
    ∷ left (field putfield object (codes "f") object) (kinds.Int ∷ kinds.Ref ∷ [])
    ∷ left (field putfield object (codes "f") object) (kinds.Ref ∷ kinds.Int ∷ [])
    ∷ left (field putfield object (codes "f") object) (kinds.Ref ∷ [])
    ∷ []
    ≡ None ∷ None ∷ None ∷ None ∷ None ∷ None ∷ None ∷ None ∷ None ∷ None ∷ None ∷ None ∷ None ∷ None ∷ None ∷ None ∷ None ∷ None ∷ None ∷ None ∷ None ∷ []
unfolding after instruction_of
wrong_kinds_of_fields = refl

wrong_kinds_of_calls : left (method invokevirtual object (codes "m") (int ∷ long ∷ object ∷ []) None) (kinds.Int ∷ kinds.Long ∷ kinds.Int ∷ kinds.Ref ∷ [])
    ∷ left (method invokevirtual object (codes "m") (int ∷ long ∷ object ∷ []) None) (kinds.Ref ∷ kinds.Ref ∷ kinds.Int ∷ kinds.Ref ∷ [])
    ∷ left (method invokevirtual object (codes "m") (int ∷ long ∷ object ∷ []) None) (kinds.Ref ∷ kinds.Long ∷ kinds.Long ∷ kinds.Ref ∷ [])
    ∷ left (method invokevirtual object (codes "m") (int ∷ long ∷ object ∷ []) None) (kinds.Ref ∷ kinds.Long ∷ kinds.Int ∷ kinds.Int ∷ [])
    ∷ left (method invokevirtual object (codes "m") (int ∷ long ∷ object ∷ []) None) (kinds.Ref ∷ kinds.Long ∷ kinds.Int ∷ [])
    ∷ left (method invokespecial object (codes "m") (int ∷ long ∷ object ∷ []) None) (kinds.Int ∷ kinds.Long ∷ kinds.Int ∷ kinds.Ref ∷ [])
    ∷ left (method invokespecial object (codes "m") (int ∷ long ∷ object ∷ []) None) (kinds.Ref ∷ kinds.Ref ∷ kinds.Int ∷ kinds.Ref ∷ [])
    ∷ left (method invokespecial object (codes "m") (int ∷ long ∷ object ∷ []) None) (kinds.Ref ∷ kinds.Long ∷ kinds.Long ∷ kinds.Ref ∷ [])
    ∷ left (method invokespecial object (codes "m") (int ∷ long ∷ object ∷ []) None) (kinds.Ref ∷ kinds.Long ∷ kinds.Int ∷ kinds.Int ∷ [])
    ∷ left (method invokespecial object (codes "m") (int ∷ long ∷ object ∷ []) None) (kinds.Ref ∷ kinds.Long ∷ kinds.Int ∷ [])
    ∷ left (interface_method 5 object (codes "m") (int ∷ long ∷ object ∷ []) None) (kinds.Int ∷ kinds.Long ∷ kinds.Int ∷ kinds.Ref ∷ [])
    ∷ left (interface_method 5 object (codes "m") (int ∷ long ∷ object ∷ []) None) (kinds.Ref ∷ kinds.Ref ∷ kinds.Int ∷ kinds.Ref ∷ [])
    ∷ left (interface_method 5 object (codes "m") (int ∷ long ∷ object ∷ []) None) (kinds.Ref ∷ kinds.Long ∷ kinds.Long ∷ kinds.Ref ∷ [])
    ∷ left (interface_method 5 object (codes "m") (int ∷ long ∷ object ∷ []) None) (kinds.Ref ∷ kinds.Long ∷ kinds.Int ∷ kinds.Int ∷ [])
    ∷ left (interface_method 5 object (codes "m") (int ∷ long ∷ object ∷ []) None) (kinds.Ref ∷ kinds.Long ∷ kinds.Int ∷ [])
    ∷ left (method invokestatic object (codes "m") (int ∷ long ∷ object ∷ []) None) (kinds.Int ∷ kinds.Long ∷ kinds.Int ∷ [])
    ∷ left (method invokestatic object (codes "m") (int ∷ long ∷ object ∷ []) None) (kinds.Ref ∷ kinds.Ref ∷ kinds.Int ∷ [])
    ∷ left (method invokestatic object (codes "m") (int ∷ long ∷ object ∷ []) None) (kinds.Ref ∷ kinds.Long ∷ kinds.Long ∷ [])
    ∷ left (method invokestatic object (codes "m") (int ∷ long ∷ object ∷ []) None) (kinds.Ref ∷ kinds.Long ∷ [])
    ∷ []
    ≡ None ∷ None ∷ None ∷ None ∷ None ∷ None ∷ None ∷ None ∷ None ∷ None ∷ None ∷ None ∷ None ∷ None ∷ None ∷ None ∷ None ∷ None ∷ None ∷ []
unfolding after instruction_of
wrong_kinds_of_calls = refl

wrong_kinds_of_classes : left (newarray 4) (kinds.Long ∷ [])
    ∷ left (newarray 4) []
    ∷ left (newarray 5) (kinds.Long ∷ [])
    ∷ left (newarray 5) []
    ∷ left (newarray 8) (kinds.Long ∷ [])
    ∷ left (newarray 8) []
    ∷ left (newarray 9) (kinds.Long ∷ [])
    ∷ left (newarray 9) []
    ∷ left (newarray 10) (kinds.Long ∷ [])
    ∷ left (newarray 10) []
    ∷ left (newarray 11) (kinds.Long ∷ [])
    ∷ left (newarray 11) []
    ∷ left (class anewarray object) (kinds.Long ∷ [])
    ∷ left (class anewarray object) []
    ∷ left (class checkcast object) (kinds.Int ∷ [])
    ∷ left (class checkcast object) []
    ∷ left (class instanceof object) (kinds.Int ∷ [])
    ∷ left (class instanceof object) []
    ∷ []
    ≡ None ∷ None ∷ None ∷ None ∷ None ∷ None ∷ None ∷ None ∷ None ∷ None ∷ None ∷ None ∷ None ∷ None ∷ None ∷ None ∷ None ∷ None ∷ []
unfolding after instruction_of
wrong_kinds_of_classes = refl

-- a constant, a type, a member or a count that the instruction has no use for, and local variables of another kind
refused_operands : left (instruction_of (instrs.Literal ldc2_w 7) (AnInt (pos 5))) []
    ∷ left (instruction_of (instrs.Literal ldc2_w 7) (AText [])) []
    ∷ left (instruction_of (instrs.Literal ldc 7) (ALong (pos 5))) []
    ∷ left (instruction_of (instrs.Literal ldc_w 7) (ALong (pos 5))) []
    ∷ left (instruction_of (instrs.Literal ldc 7) (AClass object)) []
    ∷ left (instruction_of (instrs.Literal ldc 7) (Nothing)) []
    ∷ left (slot iload 1) []
    ∷ left (slot lload 0) []
    ∷ left (slot aload 0) []
    ∷ left (slot fload 0) []
    ∷ left (slot dload 0) []
    ∷ left (iinc 1 (pos 1)) []
    ∷ left (iinc 3 (pos 1)) []
    ∷ left (newarray 6) (kinds.Int ∷ [])
    ∷ left (newarray 7) (kinds.Int ∷ [])
    ∷ left (class multianewarray object) (kinds.Int ∷ [])
    ∷ left (jump jsr 4) []
    ∷ left (jump jsr_w 4) []
    ∷ left (interface_method 4 object (codes "m") (int ∷ long ∷ object ∷ []) None) (kinds.Ref ∷ kinds.Long ∷ kinds.Int ∷ kinds.Ref ∷ [])
    ∷ left (interface_method 6 object (codes "m") (int ∷ long ∷ object ∷ []) None) (kinds.Ref ∷ kinds.Long ∷ kinds.Int ∷ kinds.Ref ∷ [])
    ∷ left (instruction_of (instrs.Multi 7 1) (AClass object)) (kinds.Int ∷ [])
    ∷ left (instruction_of (instrs.Dynamic 7) Nothing) []
    ∷ left (field invokevirtual object (codes "f") int) (kinds.Ref ∷ [])
    ∷ left (method getstatic object (codes "m") [] (Some int)) []
    ∷ left (method 185 object (codes "m") [] None) (kinds.Ref ∷ [])
    ∷ left (field getstatic object (codes "f") float) []
    ∷ left (field getfield object (codes "f") float) (kinds.Ref ∷ [])
    ∷ left (method invokestatic object (codes "m") (float ∷ []) None) (kinds.Int ∷ [])
    ∷ left (method invokestatic object (codes "m") [] (Some float)) []
    ∷ []
    ≡ None ∷ None ∷ None ∷ None ∷ None ∷ None ∷ None ∷ None ∷ None ∷ None ∷ None ∷ None ∷ None ∷ None ∷ None ∷ None ∷ None ∷ None ∷ None ∷ None ∷ None ∷ None ∷ None ∷ None ∷ None ∷ None ∷ None ∷ None ∷ None ∷ []
unfolding after instruction_of
refused_operands = refl

-- seven operands are the most, and a long counts as two
full_stack : left (push bipush (pos 5)) (kinds.Int ∷ kinds.Int ∷ kinds.Int ∷ kinds.Int ∷ kinds.Int ∷ kinds.Int ∷ kinds.Int ∷ [])
    ∷ left (push sipush (pos 5)) (kinds.Int ∷ kinds.Int ∷ kinds.Int ∷ kinds.Int ∷ kinds.Int ∷ kinds.Int ∷ kinds.Int ∷ [])
    ∷ left (instruction_of (instrs.Literal ldc 7) (AnInt (pos 5))) (kinds.Int ∷ kinds.Int ∷ kinds.Int ∷ kinds.Int ∷ kinds.Int ∷ kinds.Int ∷ kinds.Int ∷ [])
    ∷ left (instruction_of (instrs.Literal ldc_w 7) (AnInt (pos 5))) (kinds.Int ∷ kinds.Int ∷ kinds.Int ∷ kinds.Int ∷ kinds.Int ∷ kinds.Int ∷ kinds.Int ∷ [])
    ∷ left (instruction_of (instrs.Literal ldc 7) (AText (codes "ab"))) (kinds.Int ∷ kinds.Int ∷ kinds.Int ∷ kinds.Int ∷ kinds.Int ∷ kinds.Int ∷ kinds.Int ∷ [])
    ∷ left (instruction_of (instrs.Literal ldc_w 7) (AText (codes "ab"))) (kinds.Int ∷ kinds.Int ∷ kinds.Int ∷ kinds.Int ∷ kinds.Int ∷ kinds.Int ∷ kinds.Int ∷ [])
    ∷ left (instruction_of (instrs.Literal ldc2_w 7) (ALong (pos 5))) (kinds.Int ∷ kinds.Int ∷ kinds.Int ∷ kinds.Int ∷ kinds.Int ∷ kinds.Int ∷ kinds.Int ∷ [])
    ∷ left (instruction_of (instrs.Literal ldc2_w 7) (ALong (pos 5))) (kinds.Int ∷ kinds.Int ∷ kinds.Int ∷ kinds.Int ∷ kinds.Int ∷ kinds.Int ∷ [])
    ∷ left (slot iload 0) (kinds.Int ∷ kinds.Int ∷ kinds.Int ∷ kinds.Int ∷ kinds.Int ∷ kinds.Int ∷ kinds.Int ∷ [])
    ∷ left (slot lload 1) (kinds.Int ∷ kinds.Int ∷ kinds.Int ∷ kinds.Int ∷ kinds.Int ∷ kinds.Int ∷ kinds.Int ∷ [])
    ∷ left (slot lload 1) (kinds.Int ∷ kinds.Int ∷ kinds.Int ∷ kinds.Int ∷ kinds.Int ∷ kinds.Int ∷ [])
    ∷ left (slot aload 3) (kinds.Int ∷ kinds.Int ∷ kinds.Int ∷ kinds.Int ∷ kinds.Int ∷ kinds.Int ∷ kinds.Int ∷ [])
    ∷ left (field getstatic object (codes "f") int) (kinds.Int ∷ kinds.Int ∷ kinds.Int ∷ kinds.Int ∷ kinds.Int ∷ kinds.Int ∷ kinds.Int ∷ [])
    ∷ left (field getstatic object (codes "f") long) (kinds.Int ∷ kinds.Int ∷ kinds.Int ∷ kinds.Int ∷ kinds.Int ∷ kinds.Int ∷ kinds.Int ∷ [])
    ∷ left (field getstatic object (codes "f") long) (kinds.Int ∷ kinds.Int ∷ kinds.Int ∷ kinds.Int ∷ kinds.Int ∷ kinds.Int ∷ [])
    ∷ left (field getstatic object (codes "f") object) (kinds.Int ∷ kinds.Int ∷ kinds.Int ∷ kinds.Int ∷ kinds.Int ∷ kinds.Int ∷ kinds.Int ∷ [])
    ∷ left (class new object) (kinds.Int ∷ kinds.Int ∷ kinds.Int ∷ kinds.Int ∷ kinds.Int ∷ kinds.Int ∷ kinds.Int ∷ [])
    ∷ []
    ≡ None ∷ None ∷ None ∷ None ∷ None ∷ None ∷ None ∷ None ∷ None ∷ None ∷ None ∷ None ∷ None ∷ None ∷ None ∷ None ∷ None ∷ []
unfolding after instruction_of
full_stack = refl
