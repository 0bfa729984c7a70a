-- What sources need of the pool, in its order, at plain values.
use Rattle.std.proofs.Common.{◌≡◌, ℕ, true, false, pos, List, [], ◌∷◌, map, Some, None, codes, refl}
use Rattle.dj_asm_source.specs.trusted.Lines as lines
use Rattle.dj_asm_source.specs.trusted.Lines.{IntValue, LongValue, StringValue, IntLiteral, StringLiteral, ClassLiteral, Simple, Object, New, Same, Stack1, Chop, Append, Full, Plain, Push, Jump, Load, LoadLong, Member, ClassOf, Array, Multi, Labelled, Catch, Framed, Does, Beside, Stack, End}
use Rattle.dj_asm_source.specs.trusted.Sources.{Source, Mark, Step, FrameStep, Bodiless, Coded}
use Rattle.dj_pool.specs.trusted.Pool as pool
use Rattle.dj_pool.specs.trusted.Pool.{indexed}
use Rattle.dj_asm_pool.specs.trusted.Entries.{Utf8, Integer, Long, Class, Text, Field, Method, InterfaceMethod, Dynamic, each_once, index_of, pool_of}
use Rattle.dj_asm_pool.specs.trusted.Needs.{Need, operation_entries, types_entries, value_entry, head_entries, instruction_entries, catch_entries, stack_map_entries, frame_entries, needs_of, methods_needs, entries_of}
use Rattle.dj_ops.specs.Mnemonics.{nop, bipush, goto, areturn, getstatic, putstatic, putfield, invokevirtual, invokespecial, invokestatic, invokeinterface, new, anewarray}

abbrev s : List ℕ
s = codes "S"

abbrev desc : List ℕ
desc = codes "LS;"

-- ---- single lines

-- a number needs itself, and a string or a class its text too
literals : map operation_entries (Load 18 (IntLiteral (pos 5)) ∷ Load 19 (StringLiteral (65 ∷ [])) ∷ Load 18 (ClassLiteral s) ∷ LoadLong (pos 5) ∷ [])
    ≡ (Integer (pos 5) ∷ []) ∷ (Text (65 ∷ []) ∷ []) ∷ (Class s ∷ []) ∷ (Long (pos 5) ∷ []) ∷ []
literals = refl

-- a unit of a string is written as modified UTF-8
null_unit : value_entry (StringValue (0 ∷ 233 ∷ [])) ≡ Text (192 ∷ 128 ∷ 195 ∷ 169 ∷ [])
null_unit = refl

-- 178 to 181 need a field, 182 to 184 a method, 185 an interface's method, and so do 183 and 184 with `interface`
members : map operation_entries
    (Member getstatic s s desc false ∷ Member putfield s s desc false ∷ Member invokevirtual s s desc false ∷ Member invokespecial s s desc false ∷ Member invokestatic s s desc true ∷ Member invokespecial s s desc true ∷ Member invokeinterface s s desc false ∷ [])
    ≡ (Field s s desc ∷ []) ∷ (Field s s desc ∷ []) ∷ (Method s s desc ∷ []) ∷ (Method s s desc ∷ []) ∷ (InterfaceMethod s s desc ∷ []) ∷ (InterfaceMethod s s desc ∷ []) ∷ (InterfaceMethod s s desc ∷ []) ∷ []
members = refl

classes : map operation_entries (ClassOf new s ∷ Multi desc (pos 2) ∷ lines.Dynamic (pos 3) s desc ∷ [])
    ≡ (Class s ∷ []) ∷ (Class desc ∷ []) ∷ (Dynamic 3 s desc ∷ []) ∷ []
classes = refl

nothing : map operation_entries (Plain nop ∷ Push bipush (pos 5) ∷ Jump goto s ∷ Array 8 ∷ []) ≡ [] ∷ [] ∷ [] ∷ [] ∷ []
nothing = refl

frames : map types_entries (Same ∷ Stack1 (Object s) ∷ Chop (pos 1) ∷ Append (Simple (codes "int") ∷ Object s ∷ []) ∷ Full (Object desc ∷ New s ∷ []) (Object s ∷ []) ∷ [])
    ≡ [] ∷ (Class s ∷ []) ∷ [] ∷ (Class s ∷ []) ∷ (Class desc ∷ Class s ∷ []) ∷ []
frames = refl

fields : map head_entries (lines.Field 1 s desc None ∷ lines.Field 1 s desc (Some (IntValue (pos 5))) ∷ lines.Field 1 s desc (Some (LongValue (pos 5))) ∷ [])
    ≡ (Utf8 s ∷ Utf8 desc ∷ []) ∷ (Utf8 s ∷ Utf8 desc ∷ Utf8 (codes "ConstantValue") ∷ Integer (pos 5) ∷ []) ∷ (Utf8 s ∷ Utf8 desc ∷ Utf8 (codes "ConstantValue") ∷ Long (pos 5) ∷ []) ∷ []
fields = refl

-- a method without code has no `Code`
heads : map head_entries (lines.Class 1 s ∷ lines.Version (pos 1) (pos 1) ∷ lines.Super s ∷ lines.Implements s ∷ lines.Abstract 1 s desc ∷ lines.Method 1 s desc ∷ Stack (pos 1) ∷ End ∷ [])
    ≡ (Class s ∷ []) ∷ [] ∷ (Class s ∷ []) ∷ (Class s ∷ []) ∷ (Utf8 s ∷ Utf8 desc ∷ []) ∷ (Utf8 s ∷ Utf8 desc ∷ Utf8 (codes "Code") ∷ []) ∷ [] ∷ [] ∷ []
heads = refl

-- each kind of need is of its own lines
asides : map catch_entries (Beside (Catch None s s s) ∷ Beside (Catch (Some desc) s s s) ∷ Beside (Labelled s) ∷ Does (ClassOf new s) ∷ Framed (Stack1 (Object s)) ∷ [])
    ≡ [] ∷ (Class desc ∷ []) ∷ [] ∷ [] ∷ [] ∷ []
asides = refl

instructions : map instruction_entries (Beside (Catch (Some desc) s s s) ∷ Does (ClassOf new s) ∷ Framed (Stack1 (Object s)) ∷ []) ≡ [] ∷ (Class s ∷ []) ∷ [] ∷ []
instructions = refl

stack_maps : map stack_map_entries (Does (ClassOf new s) ∷ Framed Same ∷ []) ≡ [] ∷ (Utf8 (codes "StackMapTable") ∷ []) ∷ []
stack_maps = refl

frame_types : map frame_entries (Does (ClassOf new s) ∷ Framed (Stack1 (Object s)) ∷ []) ≡ [] ∷ (Class s ∷ []) ∷ []
frame_types = refl

-- ---- a whole source, whose texts serve several needs: instructions come before catch types, and these before the frames

abbrev whole : Source
whole = record {
  flags = 1;
  name = s;
  version = None;
  super = s;
  interfaces = s ∷ [];
  fields =
      record { flags = 1; name = s; desc = desc; value = None }
      ∷ record { flags = 9; name = codes "t"; desc = desc; value = Some (StringValue s) } ∷ [];
  methods =
      Coded 9 s (codes "()LS;") (pos 2) (pos 2)
      (Mark (Labelled (codes "C"))
      ∷ FrameStep (Full (Object s ∷ []) (Object (codes "U") ∷ New (codes "C") ∷ [])) [] (Load 18 (StringLiteral (codes "Code")))
      ∷ Mark (Catch (Some (codes "T")) (codes "C") (codes "D") (codes "C"))
      ∷ Step (Load 18 (ClassLiteral s))
      ∷ Step (Member putstatic s s desc false)
      ∷ Step (ClassOf anewarray (codes "[LS;"))
      ∷ Step (Plain areturn)
      ∷ Mark (Labelled (codes "D")) ∷ [])
      ∷ Bodiless 1025 s (codes "()V") ∷ [];
}

whole_pool : pool_of (entries_of whole)
    ≡ pool.Utf8 s ∷ pool.Class 1 ∷ pool.Utf8 desc ∷ pool.Utf8 (codes "t") ∷ pool.Utf8 (codes "ConstantValue") ∷ pool.Text 1
    ∷ pool.Utf8 (codes "()LS;") ∷ pool.Utf8 (codes "Code") ∷ pool.Text 8 ∷ pool.NameAndType 1 3 ∷ pool.Field 2 10
    ∷ pool.Utf8 (codes "[LS;") ∷ pool.Class 12 ∷ pool.Utf8 (codes "T") ∷ pool.Class 14 ∷ pool.Utf8 (codes "StackMapTable") ∷ pool.Utf8 (codes "U") ∷ pool.Class 17
    ∷ pool.Utf8 (codes "()V") ∷ []
unfolding each_once index_of indexed methods_needs
whole_pool = refl

abbrev place_of : Need → ℕ
place_of need = need.place

-- what each place needs: the class, its superclass, the interface, two fields, then the method's lines by their kinds of needs
whole_places : map place_of (needs_of whole)
    ≡ 0 ∷ 0 ∷ 1 ∷ 1 ∷ 2 ∷ 2 ∷ 3 ∷ 3 ∷ 4 ∷ 4 ∷ 4 ∷ 4 ∷ 4
    ∷ 5 ∷ 5 ∷ 5 ∷ 10 ∷ 10 ∷ 12 ∷ 12 ∷ 13 ∷ 13 ∷ 13 ∷ 13 ∷ 13 ∷ 13 ∷ 14 ∷ 14 ∷ 11 ∷ 11 ∷ 9 ∷ 9 ∷ 9 ∷ 9 ∷ 9
    ∷ 18 ∷ 18 ∷ []
unfolding methods_needs
whole_places = refl
