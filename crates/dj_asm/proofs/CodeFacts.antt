-- Instructions, ranges and frames of bodies, at plain values.
use Rattle.std.proofs.Common.{◌≡◌, ℕ, arith, true, false, pos, negsuc, List, [], ◌∷◌, map, Some, None, codes, refl}
use Rattle.std.specs.List.{flat_map}
use Rattle.dj_names.specs.declared.descriptor.Base.TheVariants as bases
use Rattle.dj_names.specs.declared.descriptor.Of.TheVariants as ofs
use Rattle.dj_names.specs.trusted.Descriptors.{Describes}
use Rattle.dj_names.specs.declared.descriptor.Desc.{Desc}
use Rattle.dj_names.specs.declared.descriptor.Desc.TheVariants as descs
use Rattle.dj_ops.specs.declared.instruction.Instr.TheVariants as instrs
use Rattle.dj_ops.specs.declared.frames.VType.TheVariants as types
use Rattle.dj_ops.specs.declared.frames.Form.TheVariants as forms
use Rattle.dj_ops.specs.Mnemonics.{nop, bipush, ldc, ldc_w, ldc2_w, iload, pop, goto, ret, return, putstatic, invokestatic, invokeinterface, new, goto_w}
use Rattle.dj_asm_source.specs.trusted.Lines.{IntLiteral, StringLiteral, ClassLiteral, Object, New, Same, Stack1, Chop, Append, Full, Operation, Plain, Push, Local, Increment, Load, LoadLong, Jump, Table, Lookup, Member, Dynamic, ClassOf, Array, Multi, Labelled, Catch, Line, Beside, Framed, Does}
use Rattle.dj_asm_source.specs.trusted.Labels.{label_number}
use Rattle.dj_asm_pool.specs.trusted.Entries as entries
use Rattle.dj_asm_pool.specs.trusted.Entries.{Entry, index_of}
use Rattle.dj_asm.specs.trusted.Codes.{Places, IsInstrOf, AreInstrsOf, ranges_in, simple_type, type_of, form_of, frames_in, stack_map_of}

abbrev a : List ℕ
a = codes "a"

abbrev b : List ℕ
b = codes "b"

abbrev c : List ℕ
c = codes "c"

-- ---- labels

-- `a` stands before the first instruction, `b` before the second, and `c` after the last; a second line of `a` doesn't count
abbrev body : List Line
body =
    Beside (Labelled a) ∷ Framed Same ∷ Does (Plain nop) ∷ Beside (Labelled b) ∷ Beside (Catch None a b c) ∷ Does (Plain pop)
    ∷ Beside (Labelled c) ∷ Beside (Labelled a) ∷ []

numbers : map (label_number body) (a ∷ b ∷ c ∷ []) ≡ 0 ∷ 1 ∷ 2 ∷ []
unfolding label_number
numbers = refl

-- ---- instructions

abbrev pool : List Entry
pool = entries.Integer (pos 5) ∷ entries.Long (pos 5) ∷ entries.Text a ∷ entries.Class a ∷ entries.Field a b c ∷ entries.Method a b (codes "(JI)V") ∷ entries.InterfaceMethod a b (codes "(JI)V") ∷ entries.Dynamic 3 b c ∷ []

abbrev places : Places
places = record { number = label_number body; index = index_of pool }

abbrev operations : List Operation
operations =
    Plain nop ∷ Push bipush (negsuc 4) ∷ Local false iload (pos 3) ∷ Local true ret (pos 300) ∷ Increment false (pos 3) (negsuc 4) ∷ Increment true (pos 300) (negsuc 499)
    ∷ Load 18 (IntLiteral (pos 5)) ∷ Load 19 (StringLiteral (97 ∷ [])) ∷ Load 18 (ClassLiteral a) ∷ LoadLong (pos 5)
    ∷ Jump goto c ∷ Jump goto_w b ∷ Table (negsuc 0) (a ∷ b ∷ []) c ∷ Lookup ((negsuc 0, b) ∷ (pos 7, a) ∷ []) c
    ∷ Member putstatic a b c false ∷ Member invokestatic a b (codes "(JI)V") false ∷ Member invokestatic a b (codes "(JI)V") true ∷ Dynamic (pos 3) b c ∷ ClassOf new a ∷ Array 8 ∷ Multi a (pos 2) ∷ []

are_instrs : AreInstrsOf places (map Does operations)
    (instrs.Simple nop ∷ instrs.Push bipush (negsuc 4) ∷ instrs.Local iload 3 false ∷ instrs.Local ret 300 true ∷ instrs.Inc 3 (negsuc 4) false ∷ instrs.Inc 300 (negsuc 499) true
    ∷ instrs.Literal ldc 1 ∷ instrs.Literal ldc_w 4 ∷ instrs.Literal ldc 5 ∷ instrs.Literal ldc2_w 2
    ∷ instrs.Branch goto (pos 2) ∷ instrs.Branch goto_w (pos 1) ∷ instrs.Table (negsuc 0) (pos 2) (pos 0 ∷ pos 1 ∷ []) ∷ instrs.Lookup (pos 2) ((negsuc 0, pos 1) ∷ (pos 7, pos 0) ∷ [])
    ∷ instrs.Member putstatic 6 ∷ instrs.Member invokestatic 7 ∷ instrs.Member invokestatic 8 ∷ instrs.Dynamic 9 ∷ instrs.Class new 5 ∷ instrs.Array 8 ∷ instrs.Multi 5 2 ∷ [])
unfolding label_number index_of
are_instrs = (refl, (refl, (refl, (refl, (refl, (refl, (refl, (refl, (refl, (refl, (refl, (refl, (refl, (refl, (refl, (refl, (refl, (refl, (refl, (refl, (refl, tt)))))))))))))))))))))

-- the count of an interface's call is the slots of its parameters, a long's being two, and one
abbrev described : Desc
described = descs.Method (record { dims = 0; of = ofs.Base bases.Long } ∷ record { dims = 0; of = ofs.Base bases.Int } ∷ []) None

text_describes : Describes (codes "(JI)V") described
text_describes = record {
  text_is = refl;
  valid = ((record { few = omega arith; named = tt }, (record { few = omega arith; named = tt }, tt)), tt, omega arith);
}

interface_call : IsInstrOf places (Member invokeinterface a b (codes "(JI)V") false) (instrs.Interface 8 4)
unfolding index_of
interface_call = record { described = described; describes = text_describes; instruction = refl }

-- ---- ranges and frames

range : flat_map (ranges_in places) (Beside (Catch None a c b) ∷ Beside (Labelled b) ∷ Beside (Catch (Some a) b c a) ∷ Does (Plain nop) ∷ [])
    ≡ record { start = 0; end = 2; handler = 1; catch_type = 0 } ∷ record { start = 1; end = 2; handler = 0; catch_type = 5 } ∷ []
unfolding label_number index_of
range = refl

words : map simple_type (codes "top" ∷ codes "int" ∷ codes "float" ∷ codes "double" ∷ codes "long" ∷ codes "null" ∷ codes "this" ∷ [])
    ≡ types.Top ∷ types.Integer ∷ types.Float ∷ types.Double ∷ types.Long ∷ types.Null ∷ types.UninitializedThis ∷ []
words = refl

of_pool_and_label : map (type_of places) (Object a ∷ New b ∷ []) ≡ types.Object 5 ∷ types.Uninitialized 1 ∷ []
unfolding label_number index_of
of_pool_and_label = refl

-- the locals of a full frame stand before its operands
form : map (form_of places) (Same ∷ Stack1 (New b) ∷ Chop (pos 2) ∷ Append (Object a ∷ []) ∷ Full (New b ∷ []) (Object a ∷ New c ∷ []) ∷ [])
    ≡ forms.Same ∷ forms.Stack1 (types.Uninitialized 1) ∷ forms.Chop 2 ∷ forms.Append (types.Object 5 ∷ []) ∷ forms.Full (types.Uninitialized 1 ∷ []) (types.Object 5 ∷ types.Uninitialized 2 ∷ []) ∷ []
unfolding label_number index_of
form = refl

-- a frame is that of the next instruction, whatever stands between
frame : frames_in places 0 (Does (Plain nop) ∷ Framed Same ∷ Beside (Labelled a) ∷ Beside (Catch None a b c) ∷ Does (Plain nop) ∷ Does (Plain nop) ∷ Framed (Chop (pos 1)) ∷ Does (Plain return) ∷ [])
    ≡ record { at = 1; form = forms.Same } ∷ record { at = 3; form = forms.Chop 1 } ∷ []
unfolding frames_in
frame = refl

no_frame : stack_map_of places (0 ∷ []) [] ≡ []
no_frame = refl
