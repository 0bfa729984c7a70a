-- The shape of small codes.
use Rattle.std.proofs.Common.{◌≡◌, true, false, pos, ℕ, zero, suc, List, [], ◌∷◌, length, map, Option, Some, None, nat_le, codes, refl, if◌then◌else◌, inl, inr, arith}
use Rattle.dj_names.specs.declared.descriptor.Kind.{Kind}
use Rattle.dj_names.specs.declared.descriptor.Kind.TheVariants as kinds
use Rattle.dj_names.specs.declared.descriptor.Base.TheVariants as bases
use Rattle.dj_names.specs.declared.descriptor.Ty.{Ty}
use Rattle.dj_names.specs.trusted.Types.{base_type}
use Rattle.dj_names.specs.trusted.Library.{object, int, long}
use Rattle.dj_ops.specs.declared.frames.VType.{VType}
use Rattle.dj_ops.specs.declared.frames.VType.TheVariants as types
use Rattle.dj_ops.specs.declared.frames.Form.{Form}
use Rattle.dj_ops.specs.declared.frames.Form.TheVariants as forms
use Rattle.dj_ops.specs.declared.frames.Frame.{Frame}
use Rattle.dj_ops.specs.declared.instruction.Instr.TheVariants as instrs
use Rattle.dj_model.specs.trusted.Instructions.{Nothing, Instruction}
use Rattle.dj_model.specs.trusted.Opcodes.{instruction_of, simple}
use Rattle.dj_model.specs.trusted.Numbers.{is_wide}
use Rattle.dj_model.specs.trusted.Program.{Code, Range}
use Rattle.dj_model.specs.trusted.Values.{in_slots, moved}
use Rattle.dj_model.specs.trusted.Kinds.{Signature, signature_of, Placed, Map, Read, Faulty, NoMap, frames_after, map_of}
use Rattle.dj_model.specs.trusted.Shape.{after, state_before, ParametersFit, IsShapeFault}
use Rattle.dj_model.specs.SmallRuns.{op, iinc, jump, class, field, method, interface_method, catch_all, method_desc}
use Rattle.dj_model.proofs.Shapes.{holds_test}
use Rattle.dj_ops.specs.Mnemonics.{nop, aconst_null, iconst_0, lconst_0, fconst_0, iload_1, iload_2, lload_1, aload_0, istore_1, istore_2, istore_3, lstore_1, lstore_2, pop, pop2, ifeq, goto, ireturn, areturn, return, getstatic, putstatic, getfield, putfield, invokevirtual, invokestatic, new, athrow}

-- the number of the first of this many instructions that doesn't hold, from this one on
abbrev first_from : Signature → Code → List Placed → ℕ → ℕ → Option ℕ
first_from signature code placed n zero = None
first_from signature code placed n (suc more) = if holds_test signature code placed n then first_from signature code placed (suc n) more else Some n

pub data Judged : Type 0 where
  Shape : Judged
  Fault : Option ℕ → Judged

abbrev judged_by : Option ℕ → Judged
judged_by None = Shape
judged_by (Some n) = Fault (Some n)

abbrev judged_map : Signature → Code → Map → Judged
judged_map signature code (Read placed) = judged_by (first_from signature code placed 0 (length code.instructions))
judged_map signature code (Faulty at) = Fault (Some at)
judged_map signature code NoMap = Fault None

abbrev judged : Signature → Code → Judged
judged signature code =
    if nat_le (length (in_slots is_wide signature.parameters)) code.max_locals then judged_map signature code (map_of signature code) else Fault (Some 0)

-- a method that takes and gives a reference
abbrev takes_array : Signature
takes_array = record { parameters = kinds.Ref ∷ []; result = Some kinds.Ref }

abbrev of : List Instruction → List Frame → List Range → Judged
of instructions frames ranges = judged takes_array (record { max_stack = 2; max_locals = 3; instructions = instructions; ranges = ranges; frames = Some frames })

abbrev frame : ℕ → Form → Frame
frame at form = record { at = at; form = form }

abbrev plain : List Instruction → Judged
plain instructions = of instructions [] []

straight : plain (op aload_0 ∷ op areturn ∷ []) ∷ plain (op areturn ∷ []) ∷ plain (op aload_0 ∷ []) ∷ plain (op iconst_0 ∷ op ireturn ∷ []) ∷ plain (op iconst_0 ∷ op areturn ∷ []) ∷ plain (op return ∷ []) ∷ plain (op nop ∷ op fconst_0 ∷ op areturn ∷ [])
    ∷ plain (op aload_0 ∷ op aload_0 ∷ op aload_0 ∷ op areturn ∷ []) ∷ plain (op aload_0 ∷ op areturn ∷ op aload_0 ∷ op areturn ∷ []) ∷ []
    ≡ Shape ∷ Fault (Some 0) ∷ Fault (Some 0) ∷ Fault (Some 1) ∷ Fault (Some 1) ∷ Fault (Some 0) ∷ Fault (Some 1) ∷ Fault (Some 2) ∷ Fault (Some 2) ∷ []
unfolding after instruction_of simple state_before frames_after moved
straight = refl

-- iconst_0, istore_1, L: iload_1, ifeq E, iinc 1 1, goto L, E: aload_0, areturn
abbrev loop : List Instruction
loop = op iconst_0 ∷ op istore_1 ∷ op iload_1 ∷ jump ifeq 6 ∷ iinc 1 (pos 1) ∷ jump goto 2 ∷ op aload_0 ∷ op areturn ∷ []

loops : of loop (frame 2 (forms.Append (types.Integer ∷ [])) ∷ frame 6 forms.Same ∷ []) []
    ∷ of loop (frame 6 (forms.Append (types.Integer ∷ [])) ∷ []) []
    ∷ of loop (frame 2 (forms.Append (types.Integer ∷ [])) ∷ []) []
    ∷ of loop (frame 2 (forms.Append (types.Null ∷ [])) ∷ frame 6 forms.Same ∷ []) []
    ∷ of loop (frame 2 (forms.Append (types.Integer ∷ [])) ∷ frame 6 (forms.Chop 1) ∷ []) []
    ∷ of loop (frame 2 (forms.Append (types.Integer ∷ [])) ∷ frame 6 (forms.Append (types.Integer ∷ [])) ∷ []) []
    ∷ of loop (frame 2 (forms.Append (types.Integer ∷ [])) ∷ frame 6 (forms.Append (types.Top ∷ [])) ∷ []) []
    ∷ of loop (frame 2 (forms.Append (types.Integer ∷ [])) ∷ frame 6 (forms.Stack1 types.Null) ∷ []) []
    ∷ of loop (frame 2 forms.Same ∷ frame 6 forms.Same ∷ []) []
    ∷ of loop (frame 2 (forms.Full (types.Object 5 ∷ types.Integer ∷ []) []) ∷ frame 6 (forms.Full (types.UninitializedThis ∷ []) []) ∷ []) []
    ∷ []
    ≡ Shape ∷ Fault (Some 5) ∷ Fault (Some 3) ∷ Fault (Some 1) ∷ Shape ∷ Fault (Some 3) ∷ Shape ∷ Fault (Some 3) ∷ Fault (Some 2) ∷ Shape ∷ []
unfolding after instruction_of simple state_before frames_after moved
loops = refl

-- after a jump there has to be a frame; a jump to itself is one
ends_need_frames : of (jump goto 2 ∷ op nop ∷ op aload_0 ∷ op areturn ∷ []) (frame 2 forms.Same ∷ []) [] ∷ of (jump goto 2 ∷ op nop ∷ op aload_0 ∷ op areturn ∷ []) (frame 1 forms.Same ∷ frame 2 forms.Same ∷ []) []
    ∷ of (jump goto 0 ∷ []) (frame 0 forms.Same ∷ []) [] ∷ of (jump goto 0 ∷ []) [] [] ∷ of (op aconst_null ∷ op athrow ∷ []) [] [] ∷ of (op aconst_null ∷ op athrow ∷ op aload_0 ∷ op areturn ∷ []) [] [] ∷ []
    ≡ Fault (Some 1) ∷ Shape ∷ Shape ∷ Fault (Some 0) ∷ Shape ∷ Fault (Some 2) ∷ []
unfolding after instruction_of simple state_before frames_after moved
ends_need_frames = refl

-- a switch takes an int; each of its targets has a frame, and so has the instruction after it
abbrev switching : Instruction → List ℕ → Judged
switching switch framed = of (op iconst_0 ∷ switch ∷ op aload_0 ∷ op areturn ∷ op aload_0 ∷ op areturn ∷ op aload_0 ∷ op areturn ∷ []) (map (λ at. frame at forms.Same) framed) []

abbrev table : Instruction
table = instruction_of (instrs.Table (pos 1) (pos 6) (pos 2 ∷ pos 4 ∷ [])) Nothing

abbrev lookup : Instruction
lookup = instruction_of (instrs.Lookup (pos 6) ((pos 3, pos 2) ∷ (pos 7, pos 4) ∷ [])) Nothing

-- the last goes to 4 alone
abbrev lookup_one : Instruction
lookup_one = instruction_of (instrs.Lookup (pos 4) ((pos 3, pos 6) ∷ [])) Nothing

switches : map (switching table) ((2 ∷ 4 ∷ 6 ∷ []) ∷ (2 ∷ 4 ∷ []) ∷ (2 ∷ 6 ∷ []) ∷ (4 ∷ 6 ∷ []) ∷ []) ∷ map (switching lookup) ((2 ∷ 4 ∷ 6 ∷ []) ∷ (2 ∷ 4 ∷ []) ∷ (2 ∷ 6 ∷ []) ∷ (4 ∷ 6 ∷ []) ∷ [])
    ∷ map (switching lookup_one) ((2 ∷ 4 ∷ 6 ∷ []) ∷ (2 ∷ 6 ∷ []) ∷ (2 ∷ 4 ∷ []) ∷ (4 ∷ 6 ∷ []) ∷ []) ∷ []
    ≡ (Shape ∷ Fault (Some 1) ∷ Fault (Some 1) ∷ Fault (Some 1) ∷ []) ∷ (Shape ∷ Fault (Some 1) ∷ Fault (Some 1) ∷ Fault (Some 1) ∷ [])
    ∷ (Shape ∷ Fault (Some 1) ∷ Fault (Some 1) ∷ Fault (Some 2) ∷ []) ∷ []
unfolding after instruction_of simple state_before frames_after moved
switches = refl

-- a switch may stand last, and its int has to be there
last_switches : of (op iconst_0 ∷ instruction_of (instrs.Lookup (pos 0) []) Nothing ∷ []) (frame 0 forms.Same ∷ []) [] ∷ of (op iconst_0 ∷ instruction_of (instrs.Table (pos 1) (pos 0) []) Nothing ∷ []) (frame 0 forms.Same ∷ []) []
    ∷ of (op aload_0 ∷ instruction_of (instrs.Lookup (pos 0) []) Nothing ∷ []) (frame 0 forms.Same ∷ []) [] ∷ of (op iconst_0 ∷ instruction_of (instrs.Lookup (pos 0) []) Nothing ∷ []) [] []
    ∷ of (op iconst_0 ∷ instruction_of (instrs.Lookup (pos 1) []) Nothing ∷ []) (frame 1 forms.Same ∷ []) [] ∷ []
    ≡ Shape ∷ Shape ∷ Fault (Some 1) ∷ Fault (Some 1) ∷ Fault (Some 0) ∷ []
unfolding after instruction_of simple state_before frames_after moved
last_switches = refl

-- the parameters flow into a frame of the first instruction
first_frames : of (op aload_0 ∷ op areturn ∷ []) (frame 0 (forms.Append (types.Integer ∷ [])) ∷ []) [] ∷ of (op aload_0 ∷ op areturn ∷ []) (frame 0 (forms.Append (types.Top ∷ [])) ∷ []) []
    ∷ of (op aconst_null ∷ op areturn ∷ []) (frame 0 (forms.Chop 1) ∷ []) [] ∷ of (op aload_0 ∷ op areturn ∷ []) (frame 0 (forms.Chop 1) ∷ []) [] ∷ of (op aload_0 ∷ op areturn ∷ []) (frame 0 (forms.Stack1 types.Null) ∷ []) [] ∷ []
    ≡ Fault (Some 0) ∷ Shape ∷ Shape ∷ Fault (Some 0) ∷ Fault (Some 0) ∷ []
unfolding after instruction_of simple state_before frames_after moved
first_frames = refl

-- frames that declare no kinds, or don't fit; two slots each for two longs
abbrev before_end : Form → Judged
before_end form = of (op nop ∷ op nop ∷ op aconst_null ∷ op areturn ∷ []) (frame 2 form ∷ []) []

reported_frames : before_end (forms.Append (types.Float ∷ [])) ∷ before_end (forms.Append (types.Double ∷ [])) ∷ before_end (forms.Append (types.Uninitialized 0 ∷ [])) ∷ before_end (forms.Append (types.Uninitialized 9 ∷ []))
    ∷ before_end (forms.Chop 1) ∷ before_end (forms.Chop 2) ∷ before_end (forms.Stack1 types.Top) ∷ before_end (forms.Append (types.Top ∷ types.Top ∷ types.Top ∷ [])) ∷ before_end (forms.Append (types.Top ∷ types.Top ∷ []))
    ∷ before_end (forms.Full [] (types.Null ∷ types.Null ∷ types.Null ∷ [])) ∷ before_end (forms.Full (types.Long ∷ types.Long ∷ []) []) ∷ before_end (forms.Full [] (types.Long ∷ types.Null ∷ [])) ∷ []
    ≡ Fault (Some 2) ∷ Fault (Some 2) ∷ Fault (Some 2) ∷ Fault (Some 2) ∷ Shape ∷ Fault (Some 2) ∷ Fault (Some 2) ∷ Fault (Some 2) ∷ Shape
    ∷ Fault (Some 2) ∷ Fault (Some 2) ∷ Fault (Some 2) ∷ []
unfolding after instruction_of simple state_before frames_after moved
reported_frames = refl

-- goto N, D: aload_0, areturn, N: new, goto D: what new made is named by its number
abbrev made_at : ℕ → Judged
made_at n = of (jump goto 3 ∷ op aload_0 ∷ op areturn ∷ class new object ∷ jump goto 5 ∷ op pop ∷ jump goto 1 ∷ [])
    (frame 1 forms.Same ∷ frame 3 forms.Same ∷ frame 5 (forms.Stack1 (types.Uninitialized n)) ∷ []) []

uninitialised : made_at 3 ∷ made_at 1 ∷ made_at 7 ∷ [] ≡ Shape ∷ Fault (Some 5) ∷ Fault (Some 5) ∷ []
unfolding after instruction_of simple state_before frames_after moved
uninitialised = refl

-- frames start from the one before, and the first from the parameters
abbrev two_frames : Form → Form → Judged
two_frames a b = of (op iconst_0 ∷ op istore_1 ∷ op nop ∷ op nop ∷ op aload_0 ∷ op areturn ∷ []) (frame 2 a ∷ frame 3 b ∷ []) []

frames_in_order : two_frames (forms.Append (types.Integer ∷ [])) (forms.Chop 2) ∷ two_frames (forms.Append (types.Integer ∷ [])) (forms.Chop 1) ∷ two_frames forms.Same (forms.Append (types.Integer ∷ []))
    ∷ two_frames (forms.Append (types.Integer ∷ [])) (forms.Append (types.Top ∷ types.Top ∷ [])) ∷ two_frames (forms.Chop 1) (forms.Append (types.Null ∷ [])) ∷ []
    ≡ Fault (Some 4) ∷ Shape ∷ Fault (Some 2) ∷ Fault (Some 3) ∷ Fault (Some 2) ∷ []
unfolding after instruction_of simple state_before frames_after moved
frames_in_order = refl

-- operands of a frame stand as it declares them, the last on top; a long takes two slots and two operands
abbrev with_operands : List VType → List Instruction → Judged
with_operands stack instructions = of (jump goto 1 ∷ instructions) (frame 1 (forms.Full (types.Null ∷ []) stack) ∷ []) []

operands_in_order : with_operands (types.Integer ∷ types.Null ∷ []) (op areturn ∷ []) ∷ of (op iconst_0 ∷ op aload_0 ∷ jump goto 3 ∷ op areturn ∷ []) (frame 3 (forms.Full (types.Null ∷ []) (types.Integer ∷ types.Null ∷ [])) ∷ []) []
    ∷ of (op iconst_0 ∷ op aload_0 ∷ jump goto 3 ∷ op areturn ∷ []) (frame 3 (forms.Full (types.Null ∷ []) (types.Null ∷ types.Integer ∷ [])) ∷ []) []
    ∷ of (op aload_0 ∷ op iconst_0 ∷ jump goto 3 ∷ op pop ∷ op areturn ∷ []) (frame 3 (forms.Full (types.Null ∷ []) (types.Null ∷ types.Integer ∷ [])) ∷ []) [] ∷ []
    ≡ Fault (Some 0) ∷ Shape ∷ Fault (Some 2) ∷ Shape ∷ []
unfolding after instruction_of simple state_before frames_after moved
operands_in_order = refl

-- of three slots: a long's second one has to be there, an increment wants an int, and a store over a half of a long leaves none
long_slots : plain (op lconst_0 ∷ op lstore_1 ∷ op aload_0 ∷ op areturn ∷ []) ∷ plain (op lconst_0 ∷ op lstore_2 ∷ op aload_0 ∷ op areturn ∷ []) ∷ plain (op iconst_0 ∷ op istore_2 ∷ op aload_0 ∷ op areturn ∷ []) ∷ plain (op iconst_0 ∷ op istore_3 ∷ op aload_0 ∷ op areturn ∷ [])
    ∷ plain (op lconst_0 ∷ op lstore_1 ∷ op lload_1 ∷ op pop2 ∷ op aload_0 ∷ op areturn ∷ []) ∷ plain (op lconst_0 ∷ op lstore_1 ∷ op iconst_0 ∷ op istore_2 ∷ op lload_1 ∷ op pop2 ∷ op aload_0 ∷ op areturn ∷ []) ∷ plain (op iconst_0 ∷ op istore_2 ∷ op lconst_0 ∷ op lstore_1 ∷ op iload_2 ∷ op pop ∷ op aload_0 ∷ op areturn ∷ [])
    ∷ plain (op iconst_0 ∷ op istore_1 ∷ op iconst_0 ∷ op istore_2 ∷ iinc 2 (pos 1) ∷ op aload_0 ∷ op areturn ∷ []) ∷ plain (iinc 0 (pos 1) ∷ op aload_0 ∷ op areturn ∷ []) ∷ plain (iinc 1 (pos 1) ∷ op aload_0 ∷ op areturn ∷ []) ∷ plain (op lconst_0 ∷ op lstore_1 ∷ iinc 1 (pos 1) ∷ op aload_0 ∷ op areturn ∷ []) ∷ []
    ≡ Shape ∷ Fault (Some 1) ∷ Shape ∷ Fault (Some 1) ∷ Shape ∷ Fault (Some 4) ∷ Fault (Some 4) ∷ Shape ∷ Fault (Some 0) ∷ Fault (Some 0) ∷ Fault (Some 2) ∷ []
unfolding after instruction_of simple state_before frames_after moved
long_slots = refl

-- handlers: iconst_0, istore_1, iconst_0, istore_1, aload_0, areturn, H: pop, aload_0, areturn
abbrev handling : List Frame → ℕ → ℕ → Judged
handling frames start end =
    of (op iconst_0 ∷ op istore_1 ∷ op iconst_0 ∷ op istore_1 ∷ op aload_0 ∷ op areturn ∷ op pop ∷ op aload_0 ∷ op areturn ∷ []) frames (catch_all start end 6 ∷ [])

abbrev caught_with : List VType → List VType → List Frame
caught_with locals stack = frame 6 (forms.Full locals stack) ∷ []

handlers : handling (caught_with (types.Null ∷ []) (types.Null ∷ [])) 0 6 ∷ handling [] 0 6 ∷ handling (caught_with (types.Null ∷ []) (types.Integer ∷ [])) 0 6
    ∷ handling (caught_with (types.Null ∷ []) []) 0 6 ∷ handling (caught_with (types.Null ∷ []) (types.Null ∷ types.Null ∷ [])) 0 6
    ∷ handling (caught_with (types.Null ∷ types.Integer ∷ []) (types.Null ∷ [])) 2 6 ∷ handling (caught_with (types.Null ∷ types.Integer ∷ []) (types.Null ∷ [])) 1 6
    ∷ handling (caught_with (types.Null ∷ types.Integer ∷ []) (types.Null ∷ [])) 0 2 ∷ handling (caught_with (types.Null ∷ types.Top ∷ types.Integer ∷ []) (types.Null ∷ [])) 5 5 ∷ []
    ≡ Shape ∷ Fault (Some 6) ∷ Fault (Some 6) ∷ Fault (Some 6) ∷ Fault (Some 6) ∷ Shape ∷ Fault (Some 1) ∷ Fault (Some 0) ∷ Shape ∷ []
unfolding after instruction_of simple state_before frames_after moved
handlers = refl

-- parameters
abbrev with_parameters : List Kind → ℕ → Judged
with_parameters parameters max_locals =
    judged (record { parameters = parameters; result = None }) (record { max_stack = 0; max_locals = max_locals; instructions = op return ∷ []; ranges = []; frames = Some [] })

parameters_fit : with_parameters [] 0 ∷ with_parameters (kinds.Ref ∷ []) 0 ∷ with_parameters (kinds.Ref ∷ kinds.Long ∷ []) 2 ∷ with_parameters (kinds.Ref ∷ kinds.Long ∷ []) 3 ∷ []
    ≡ Shape ∷ Fault (Some 0) ∷ Fault (Some 0) ∷ Shape ∷ []
unfolding after instruction_of simple state_before frames_after
parameters_fit = refl

no_map : judged takes_array (record { max_stack = 2; max_locals = 3; instructions = op aload_0 ∷ op areturn ∷ []; ranges = []; frames = None }) ≡ Fault None
no_map = refl

-- calls and fields, by their descriptors
abbrev f_type : Ty
f_type = base_type bases.Float

calls_and_fields : plain (op aload_0 ∷ op iconst_0 ∷ method invokevirtual object (codes "m") (int ∷ []) (Some object) ∷ op areturn ∷ []) ∷ plain (op aload_0 ∷ op aload_0 ∷ method invokevirtual object (codes "m") (int ∷ []) (Some object) ∷ op areturn ∷ [])
    ∷ plain (op iconst_0 ∷ op iconst_0 ∷ method invokevirtual object (codes "m") (int ∷ []) (Some object) ∷ op areturn ∷ []) ∷ plain (op iconst_0 ∷ method invokestatic object (codes "m") (int ∷ []) (Some object) ∷ op areturn ∷ [])
    ∷ plain (op aload_0 ∷ method invokestatic object (codes "m") [] None ∷ op areturn ∷ []) ∷ plain (op aload_0 ∷ method invokestatic object (codes "m") [] (Some long) ∷ op pop2 ∷ op areturn ∷ []) ∷ plain (op aload_0 ∷ method invokestatic object (codes "m") [] (Some f_type) ∷ op pop ∷ op areturn ∷ [])
    ∷ plain (method invokestatic object (codes "m") [] (Some long) ∷ op pop2 ∷ op aload_0 ∷ op areturn ∷ []) ∷ plain (op aload_0 ∷ method invokestatic object (codes "m") (f_type ∷ []) None ∷ op areturn ∷ [])
    ∷ plain (op aload_0 ∷ op iconst_0 ∷ interface_method 2 object (codes "m") (int ∷ []) (Some object) ∷ op areturn ∷ []) ∷ plain (op aload_0 ∷ op iconst_0 ∷ interface_method 1 object (codes "m") (int ∷ []) (Some object) ∷ op areturn ∷ [])
    ∷ plain (op aload_0 ∷ field getfield object (codes "f") object ∷ op areturn ∷ []) ∷ plain (op iconst_0 ∷ field getfield object (codes "f") object ∷ op areturn ∷ []) ∷ plain (op aload_0 ∷ op iconst_0 ∷ field putfield object (codes "f") int ∷ op aload_0 ∷ op areturn ∷ [])
    ∷ plain (op aload_0 ∷ op aload_0 ∷ field putfield object (codes "f") int ∷ op aload_0 ∷ op areturn ∷ []) ∷ plain (field getstatic object (codes "f") object ∷ op areturn ∷ []) ∷ plain (op iconst_0 ∷ field putstatic object (codes "f") int ∷ op aload_0 ∷ op areturn ∷ [])
    ∷ plain (op aload_0 ∷ field putstatic object (codes "f") int ∷ op aload_0 ∷ op areturn ∷ []) ∷ plain (field getstatic object (codes "f") f_type ∷ op pop ∷ op aload_0 ∷ op areturn ∷ []) ∷ []
    ≡ Shape ∷ Fault (Some 2) ∷ Fault (Some 2) ∷ Shape ∷ Shape ∷ Fault (Some 1) ∷ Fault (Some 1) ∷ Shape ∷ Fault (Some 1) ∷ Shape ∷ Fault (Some 2) ∷ Shape ∷ Fault (Some 1) ∷ Shape ∷ Fault (Some 2)
    ∷ Shape ∷ Shape ∷ Fault (Some 1) ∷ Fault (Some 0) ∷ []
unfolding after instruction_of simple state_before frames_after moved
calls_and_fields = refl

signatures : signature_of true (method_desc (int ∷ long ∷ object ∷ []) None) ∷ signature_of false (method_desc (int ∷ []) (Some long)) ∷ signature_of true (method_desc (f_type ∷ []) None) ∷ signature_of true (method_desc [] (Some f_type)) ∷ []
    ≡ Some (record { parameters = kinds.Int ∷ kinds.Long ∷ kinds.Ref ∷ []; result = None }) ∷ Some (record { parameters = kinds.Ref ∷ kinds.Int ∷ []; result = Some kinds.Long }) ∷ None ∷ None ∷ []
signatures = refl

-- ---- parameters that don't fit

abbrev long_taken : Signature
long_taken = record { parameters = kinds.Long ∷ []; result = None }

abbrev narrow : Code
narrow = record { max_stack = 0; max_locals = 1; instructions = op return ∷ []; ranges = []; frames = Some [] }

-- a long takes two local variables
long_fits : ParametersFit long_taken (record narrow { max_locals = 2 })
long_fits = omega arith

long_fits_not : ParametersFit long_taken narrow → ⊥
long_fits_not few = absurd (omega (arith, few))

-- where it has one, the fault is at 0 and at no other number
narrow_fault : IsShapeFault long_taken narrow (Some 0)
narrow_fault = (refl, inl (λ few. absurd (omega (arith, few)), refl))

narrow_fault_not : IsShapeFault long_taken narrow (Some 1) → ⊥
narrow_fault_not f = elim f.1 [ inl is ↦ absurd (omega (arith, is.1)) | inr is ↦ absurd (omega (arith, is.0)) ]

-- without a stack map the fault has no number
abbrev unmapped : Code
unmapped = record narrow { frames = None }

unmapped_fault : IsShapeFault long_taken unmapped None
unmapped_fault = refl

unmapped_fault_not : (IsShapeFault long_taken unmapped (Some 0) → ⊥) × (IsShapeFault long_taken narrow None → ⊥)
unmapped_fault_not = ((λ f. let e = f.0 in absurd cc), (λ e. absurd cc))
