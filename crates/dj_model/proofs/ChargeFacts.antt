-- What each instruction is charged, by plain values.
use Rattle.std.proofs.Common.{◌≡◌, ℕ, pos, negsuc, List, [], ◌∷◌, ◌++◌, map, Some, None, codes, refl, true, false, Option}
use Rattle.dj_names.specs.declared.run.Charge.{Charge}
use Rattle.dj_names.specs.declared.run.Charge.TheVariants as charges
use Rattle.dj_names.specs.declared.run.Value.{Value}
use Rattle.dj_names.specs.declared.run.Value.TheVariants as values
use Rattle.dj_names.specs.trusted.Types.{class_type}
use Rattle.dj_names.specs.trusted.Library.{object, string, int}
use Rattle.dj_ops.specs.declared.instruction.Instr.TheVariants as instrs
use Rattle.dj_model.specs.trusted.Instructions.{Instruction, Nothing, AText}
use Rattle.dj_model.specs.trusted.Opcodes.{instruction_of, simple}
use Rattle.dj_model.specs.trusted.Program.{Program, Abstract, Native, has_code, is_initialiser}
use Rattle.dj_model.specs.trusted.Linking.{most_classes, chain_of, field_count}
use Rattle.dj_model.specs.Libraries.{metered_program}
use Rattle.dj_model.specs.Charging.{Amount}
use Rattle.dj_model.specs.Effects.{pays}
use Rattle.dj_model.specs.SmallRuns.{op, push, constant, slot, iinc, jump, newarray, class, field, method, interface_method, class_with, field_with, code, method_desc, at_most}
use Rattle.dj_ops.specs.Mnemonics.{nop, aconst_null, fconst_0, bipush, iload_0, iaload, istore, iastore, pop, iadd, ineg, ireturn, return, getstatic, putstatic, getfield, putfield, invokevirtual, invokespecial, invokestatic, new, anewarray, arraylength, athrow, checkcast, instanceof, monitorenter, monitorexit}
use Rattle.dj_model.specs.trusted.Charging.{no_costs, Over, Fine, charge_one}
use Rattle.dj_model.specs.trusted.Step.{stopped_by}
use Rattle.dj_names.specs.declared.descriptor.Ty.{Ty}
use Rattle.dj_names.specs.declared.run.Outcome.TheVariants as outcomes
use Rattle.dj_names.specs.declared.native.NativeId.TheVariants as natives

-- C has two fields, D below it one and a static one
abbrev program : Program
program = metered_program (class_with (codes "C") (field_with 0 (codes "i") int None ∷ field_with 0 (codes "r") object None ∷ []) []
    ∷ record (class_with (codes "D") (field_with 0 (codes "i") int None ∷ field_with 8 (codes "s") int None ∷ []) []) { superclass = Some (codes "C") } ∷ [])

abbrev charged : List Value → Instruction → List Amount
charged operands i = pays program [] i operands

abbrev once : Charge → List Amount
once charge = record { charge = charge; amount = 1 } ∷ []

abbrev bytes_of : ℕ → List Amount
bytes_of n = record { charge = charges.Alloc; amount = n } ∷ []

abbrev jumps : List Instruction
jumps = map (λ (n : ℕ). jump n 3) (153 ∷ 154 ∷ 155 ∷ 156 ∷ 157 ∷ 158 ∷ 159 ∷ 160 ∷ 161 ∷ 162 ∷ 163 ∷ 164 ∷ 165 ∷ 166 ∷ 167 ∷ 198 ∷ 199 ∷ 200 ∷ [])
    ++ instruction_of (instrs.Table (pos 0) (pos 1) (pos 2 ∷ [])) Nothing ∷ instruction_of (instrs.Lookup (pos 1) []) Nothing ∷ []

-- taken or not
jumps_charged : map (charged (values.Int (pos 1) ∷ values.Int (pos 2) ∷ [])) jumps ≡ map (λ (i : Instruction). once charges.Jump) jumps
unfolding pays instruction_of
jumps_charged = refl

calls_and_throws : map (charged []) (method invokevirtual object (codes "m") [] None ∷ method invokespecial object (codes "m") [] None ∷ method invokestatic object (codes "m") [] None ∷ interface_method 1 object (codes "m") [] None ∷ op athrow ∷ [])
    ≡ once charges.Invoke ∷ once charges.Invoke ∷ once charges.Invoke ∷ once charges.Invoke ∷ once charges.Throw ∷ []
unfolding pays instruction_of simple
calls_and_throws = refl

-- inherited fields count, static ones don't
objects_charged : map (λ name. charged [] (class new (class_type name))) (codes "java/lang/Object" ∷ codes "C" ∷ codes "D" ∷ codes "java/lang/Error" ∷ codes "java/lang/StringBuilder" ∷ [])
    ≡ bytes_of 16 ∷ bytes_of 32 ∷ bytes_of 40 ∷ bytes_of 32 ∷ bytes_of 24 ∷ []
unfolding pays instruction_of metered_program most_classes chain_of field_count
objects_charged = refl

abbrev arrays : List Instruction
arrays = newarray 4 ∷ newarray 5 ∷ newarray 8 ∷ newarray 9 ∷ newarray 10 ∷ newarray 11 ∷ class anewarray string ∷ []

-- the length is rounded up to 8 bytes; a negative one costs nothing, and so does what is no length
arrays_charged : map (charged (values.Int (pos 5) ∷ [])) arrays ∷ map (charged (values.Int (pos 0) ∷ [])) arrays ∷ map (charged (values.Int (negsuc 0) ∷ [])) arrays ∷ map (charged []) arrays ∷ []
    ≡ (bytes_of 24 ∷ bytes_of 32 ∷ bytes_of 24 ∷ bytes_of 32 ∷ bytes_of 40 ∷ bytes_of 56 ∷ bytes_of 40 ∷ [])
    ∷ (bytes_of 16 ∷ bytes_of 16 ∷ bytes_of 16 ∷ bytes_of 16 ∷ bytes_of 16 ∷ bytes_of 16 ∷ bytes_of 16 ∷ [])
    ∷ (bytes_of 0 ∷ bytes_of 0 ∷ bytes_of 0 ∷ bytes_of 0 ∷ bytes_of 0 ∷ bytes_of 0 ∷ bytes_of 0 ∷ [])
    ∷ (bytes_of 0 ∷ bytes_of 0 ∷ bytes_of 0 ∷ bytes_of 0 ∷ bytes_of 0 ∷ bytes_of 0 ∷ bytes_of 0 ∷ []) ∷ []
unfolding pays instruction_of
arrays_charged = refl

abbrev others : List Instruction
others = op nop ∷ op aconst_null ∷ push bipush (pos 1) ∷ constant (AText []) ∷ op iload_0 ∷ slot istore 1 ∷ iinc 1 (pos 1) ∷ op iaload ∷ op iastore ∷ op pop ∷ op iadd ∷ op ineg ∷ op ireturn ∷ op return ∷ field getstatic object (codes "f") int ∷ field putstatic object (codes "f") int
    ∷ field getfield object (codes "f") int ∷ field putfield object (codes "f") int ∷ op arraylength ∷ class checkcast object ∷ class instanceof object ∷ op monitorenter ∷ op monitorexit ∷ op fconst_0 ∷ []

others_free : map (charged (values.Int (pos 5) ∷ [])) others ≡ map (λ (i : Instruction). []) others
unfolding pays instruction_of simple
others_free = refl

-- ---- after a charge has passed its threshold

-- it is told again, and nothing is added; before that the charge is added
first_told : charge_one (at_most 9 9 9 9) (record { costs = no_costs; exceeded = Some charges.Jump }) charges.Alloc 5 ∷ charge_one (at_most 9 9 9 9) (record { costs = no_costs; exceeded = None }) charges.Alloc 5 ∷ []
    ≡ Over charges.Jump (record { costs = no_costs; exceeded = Some charges.Jump }) ∷ Fine (record { costs = record no_costs { alloc = 5 }; exceeded = None }) ∷ []
unfolding charge_one
first_told = refl

-- what stops the run is told by the charge that passed, and is any other object where none has
stops_told : map (λ (charge : Option Charge). stopped_by charge outcomes.OkNull) (None ∷ Some charges.Jump ∷ []) ≡ outcomes.OkNull ∷ outcomes.Stopped charges.Jump ∷ []
stops_told = refl

-- ---- code and initialisers

bodies_with_code : map has_code (Native natives.ObjectNew ∷ Abstract ∷ code [] [] ∷ []) ≡ false ∷ false ∷ true ∷ []
bodies_with_code = refl

-- an initialiser has neither parameters nor a result
initialisers : map (λ (params : List Ty). is_initialiser (record { class = codes "A"; name = codes "<clinit>"; desc = method_desc params None })) ([] ∷ (int ∷ []) ∷ []) ≡ true ∷ false ∷ []
initialisers = refl
