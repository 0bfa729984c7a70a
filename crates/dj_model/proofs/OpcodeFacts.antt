-- Each opcode, by its number.
use Rattle.std.proofs.Common.{◌≡◌, true, false, pos, negsuc, List, [], ◌∷◌, map, Some, None, codes, refl}
use Rattle.dj_names.specs.declared.descriptor.Kind.TheVariants as kinds
use Rattle.dj_names.specs.declared.descriptor.Base.TheVariants as bases
use Rattle.dj_names.specs.declared.run.Value.TheVariants as values
use Rattle.dj_names.specs.declared.run.Element.TheVariants as elements
use Rattle.dj_names.specs.declared.descriptor.Desc.TheVariants as descs
use Rattle.dj_names.specs.trusted.Types.{base_array}
use Rattle.dj_names.specs.trusted.Library.{object, int}
use Rattle.dj_ops.specs.declared.instruction.Instr.{Instr}
use Rattle.dj_ops.specs.declared.instruction.Instr.TheVariants as instrs
use Rattle.dj_model.specs.trusted.Types.{Member}
use Rattle.dj_model.specs.trusted.Instructions.{Named, Nothing, AnInt, ALong, AText, AClass, AField, AMethod, AnInterfaceMethod, Another, Instruction, Nop, Push, PushText, Load, Store, Increment, LoadElement, StoreElement, Move, Compute, Convert, Branch, Goto, Switch, Return, GetStatic, PutStatic, GetField, PutField, Invoke, New, NewArray, ArrayLength, Throw, CheckCast, InstanceOf, Monitor, Other, Add, Subtract, Multiply, Divide, Remainder, ShiftLeft, ShiftRight, ShiftRightUnsigned, And, Or, Xor, CompareLongs, Negate, IntToLong, LongToInt, IntToByte, IntToChar, IntToShort, Pop, Pop2, Dup, DupX1, DupX2, Dup2, Dup2X1, Dup2X2, Swap, Bytes, Chars, Shorts, Ints, Longs, References, Equal, NotEqual, Less, GreaterOrEqual, Greater, LessOrEqual, WithZero, OfInts, OfReferences, OfNull, Virtual, Special, Static, Interface}
use Rattle.dj_model.specs.trusted.Opcodes.{simple, instruction_of}

abbrev plainly : Instr → Instruction
plainly i = instruction_of i Nothing

constants_and_loads : map (λ op. plainly (instrs.Simple op)) (0 ∷ 1 ∷ 2 ∷ 3 ∷ 4 ∷ 5 ∷ 6 ∷ 7 ∷ 8 ∷ 9 ∷ 10 ∷ 11 ∷ 12 ∷ 13 ∷ 14 ∷ 15 ∷ 26 ∷ 27 ∷ 28 ∷ 29 ∷ 30 ∷ 31 ∷ 32 ∷ 33 ∷ 34 ∷ 35 ∷ 36 ∷ 37 ∷ 38 ∷ 39 ∷ 40 ∷ 41 ∷ 42 ∷ 43 ∷ 44 ∷ 45 ∷ []) ≡ Nop ∷ Push (values.Ref 0) ∷ Push (values.Int (negsuc 0)) ∷ Push (values.Int (pos 0)) ∷ Push (values.Int (pos 1)) ∷ Push (values.Int (pos 2)) ∷ Push (values.Int (pos 3)) ∷ Push (values.Int (pos 4)) ∷ Push (values.Int (pos 5)) ∷ Push (values.Long (pos 0)) ∷ Push (values.Long (pos 1)) ∷ Other 11 Nothing ∷ Other 12 Nothing ∷ Other 13 Nothing ∷ Other 14 Nothing ∷ Other 15 Nothing ∷ Load kinds.Int 0 ∷ Load kinds.Int 1 ∷ Load kinds.Int 2 ∷ Load kinds.Int 3 ∷ Load kinds.Long 0 ∷ Load kinds.Long 1 ∷ Load kinds.Long 2 ∷ Load kinds.Long 3 ∷ Other 34 Nothing ∷ Other 35 Nothing ∷ Other 36 Nothing ∷ Other 37 Nothing ∷ Other 38 Nothing ∷ Other 39 Nothing ∷ Other 40 Nothing ∷ Other 41 Nothing ∷ Load kinds.Ref 0 ∷ Load kinds.Ref 1 ∷ Load kinds.Ref 2 ∷ Load kinds.Ref 3 ∷ []
unfolding instruction_of simple
constants_and_loads = refl

array_loads : map (λ op. plainly (instrs.Simple op)) (46 ∷ 47 ∷ 48 ∷ 49 ∷ 50 ∷ 51 ∷ 52 ∷ 53 ∷ []) ≡ LoadElement Ints ∷ LoadElement Longs ∷ Other 48 Nothing ∷ Other 49 Nothing ∷ LoadElement References ∷ LoadElement Bytes ∷ LoadElement Chars ∷ LoadElement Shorts ∷ []
unfolding instruction_of simple
array_loads = refl

stores : map (λ op. plainly (instrs.Simple op)) (59 ∷ 60 ∷ 61 ∷ 62 ∷ 63 ∷ 64 ∷ 65 ∷ 66 ∷ 67 ∷ 68 ∷ 69 ∷ 70 ∷ 71 ∷ 72 ∷ 73 ∷ 74 ∷ 75 ∷ 76 ∷ 77 ∷ 78 ∷ []) ≡ Store kinds.Int 0 ∷ Store kinds.Int 1 ∷ Store kinds.Int 2 ∷ Store kinds.Int 3 ∷ Store kinds.Long 0 ∷ Store kinds.Long 1 ∷ Store kinds.Long 2 ∷ Store kinds.Long 3 ∷ Other 67 Nothing ∷ Other 68 Nothing ∷ Other 69 Nothing ∷ Other 70 Nothing ∷ Other 71 Nothing ∷ Other 72 Nothing ∷ Other 73 Nothing ∷ Other 74 Nothing ∷ Store kinds.Ref 0 ∷ Store kinds.Ref 1 ∷ Store kinds.Ref 2 ∷ Store kinds.Ref 3 ∷ []
unfolding instruction_of simple
stores = refl

array_stores : map (λ op. plainly (instrs.Simple op)) (79 ∷ 80 ∷ 81 ∷ 82 ∷ 83 ∷ 84 ∷ 85 ∷ 86 ∷ []) ≡ StoreElement Ints ∷ StoreElement Longs ∷ Other 81 Nothing ∷ Other 82 Nothing ∷ StoreElement References ∷ StoreElement Bytes ∷ StoreElement Chars ∷ StoreElement Shorts ∷ []
unfolding instruction_of simple
array_stores = refl

stack_operations : map (λ op. plainly (instrs.Simple op)) (87 ∷ 88 ∷ 89 ∷ 90 ∷ 91 ∷ 92 ∷ 93 ∷ 94 ∷ 95 ∷ []) ≡ Move Pop ∷ Move Pop2 ∷ Move Dup ∷ Move DupX1 ∷ Move DupX2 ∷ Move Dup2 ∷ Move Dup2X1 ∷ Move Dup2X2 ∷ Move Swap ∷ []
unfolding instruction_of simple
stack_operations = refl

numbers : map (λ op. plainly (instrs.Simple op)) (96 ∷ 97 ∷ 98 ∷ 99 ∷ 100 ∷ 101 ∷ 102 ∷ 103 ∷ 104 ∷ 105 ∷ 106 ∷ 107 ∷ 108 ∷ 109 ∷ 110 ∷ 111 ∷ 112 ∷ 113 ∷ 114 ∷ 115 ∷ 116 ∷ 117 ∷ 118 ∷ 119 ∷ []) ≡ Compute (Add kinds.Int) ∷ Compute (Add kinds.Long) ∷ Other 98 Nothing ∷ Other 99 Nothing ∷ Compute (Subtract kinds.Int) ∷ Compute (Subtract kinds.Long) ∷ Other 102 Nothing ∷ Other 103 Nothing ∷ Compute (Multiply kinds.Int) ∷ Compute (Multiply kinds.Long) ∷ Other 106 Nothing ∷ Other 107 Nothing ∷ Compute (Divide kinds.Int) ∷ Compute (Divide kinds.Long) ∷ Other 110 Nothing ∷ Other 111 Nothing ∷ Compute (Remainder kinds.Int) ∷ Compute (Remainder kinds.Long) ∷ Other 114 Nothing ∷ Other 115 Nothing ∷ Convert (Negate kinds.Int) ∷ Convert (Negate kinds.Long) ∷ Other 118 Nothing ∷ Other 119 Nothing ∷ []
unfolding instruction_of simple
numbers = refl

bits : map (λ op. plainly (instrs.Simple op)) (120 ∷ 121 ∷ 122 ∷ 123 ∷ 124 ∷ 125 ∷ 126 ∷ 127 ∷ 128 ∷ 129 ∷ 130 ∷ 131 ∷ []) ≡ Compute (ShiftLeft kinds.Int) ∷ Compute (ShiftLeft kinds.Long) ∷ Compute (ShiftRight kinds.Int) ∷ Compute (ShiftRight kinds.Long) ∷ Compute (ShiftRightUnsigned kinds.Int) ∷ Compute (ShiftRightUnsigned kinds.Long) ∷ Compute (And kinds.Int) ∷ Compute (And kinds.Long) ∷ Compute (Or kinds.Int) ∷ Compute (Or kinds.Long) ∷ Compute (Xor kinds.Int) ∷ Compute (Xor kinds.Long) ∷ []
unfolding instruction_of simple
bits = refl

conversions : map (λ op. plainly (instrs.Simple op)) (133 ∷ 134 ∷ 135 ∷ 136 ∷ 137 ∷ 138 ∷ 139 ∷ 140 ∷ 141 ∷ 142 ∷ 143 ∷ 144 ∷ 145 ∷ 146 ∷ 147 ∷ 148 ∷ 149 ∷ 150 ∷ 151 ∷ 152 ∷ []) ≡ Convert IntToLong ∷ Other 134 Nothing ∷ Other 135 Nothing ∷ Convert LongToInt ∷ Other 137 Nothing ∷ Other 138 Nothing ∷ Other 139 Nothing ∷ Other 140 Nothing ∷ Other 141 Nothing ∷ Other 142 Nothing ∷ Other 143 Nothing ∷ Other 144 Nothing ∷ Convert IntToByte ∷ Convert IntToChar ∷ Convert IntToShort ∷ Compute CompareLongs ∷ Other 149 Nothing ∷ Other 150 Nothing ∷ Other 151 Nothing ∷ Other 152 Nothing ∷ []
unfolding instruction_of simple
conversions = refl

returns_and_the_rest : map (λ op. plainly (instrs.Simple op)) (172 ∷ 173 ∷ 174 ∷ 175 ∷ 176 ∷ 177 ∷ 190 ∷ 191 ∷ 194 ∷ 195 ∷ 202 ∷ []) ≡ Return (Some kinds.Int) ∷ Return (Some kinds.Long) ∷ Other 174 Nothing ∷ Other 175 Nothing ∷ Return (Some kinds.Ref) ∷ Return None ∷ ArrayLength ∷ Throw ∷ Monitor ∷ Monitor ∷ Other 202 Nothing ∷ []
unfolding instruction_of simple
returns_and_the_rest = refl

locals : map (λ op. plainly (instrs.Local op 300 true)) (21 ∷ 22 ∷ 23 ∷ 24 ∷ 25 ∷ 54 ∷ 55 ∷ 56 ∷ 57 ∷ 58 ∷ 169 ∷ []) ≡ Load kinds.Int 300 ∷ Load kinds.Long 300 ∷ Other 23 Nothing ∷ Other 24 Nothing ∷ Load kinds.Ref 300 ∷ Store kinds.Int 300 ∷ Store kinds.Long 300 ∷ Other 56 Nothing ∷ Other 57 Nothing ∷ Store kinds.Ref 300 ∷ Other 169 Nothing ∷ []
unfolding instruction_of simple
locals = refl

jumps : map (λ op. plainly (instrs.Branch op (pos 7))) (153 ∷ 154 ∷ 155 ∷ 156 ∷ 157 ∷ 158 ∷ 159 ∷ 160 ∷ 161 ∷ 162 ∷ 163 ∷ 164 ∷ 165 ∷ 166 ∷ 167 ∷ 168 ∷ 198 ∷ 199 ∷ 200 ∷ 201 ∷ []) ≡ Branch (WithZero Equal) 7 ∷ Branch (WithZero NotEqual) 7 ∷ Branch (WithZero Less) 7 ∷ Branch (WithZero GreaterOrEqual) 7 ∷ Branch (WithZero Greater) 7 ∷ Branch (WithZero LessOrEqual) 7 ∷ Branch (OfInts Equal) 7 ∷ Branch (OfInts NotEqual) 7 ∷ Branch (OfInts Less) 7 ∷ Branch (OfInts GreaterOrEqual) 7 ∷ Branch (OfInts Greater) 7 ∷ Branch (OfInts LessOrEqual) 7 ∷ Branch (OfReferences true) 7 ∷ Branch (OfReferences false) 7 ∷ Goto 7 ∷ Other 168 Nothing ∷ Branch (OfNull true) 7 ∷ Branch (OfNull false) 7 ∷ Goto 7 ∷ Other 201 Nothing ∷ []
unfolding instruction_of simple
jumps = refl

pushes : plainly (instrs.Push 16 (negsuc 127)) ∷ plainly (instrs.Push 17 (pos 300)) ∷ plainly (instrs.Inc 3 (negsuc 0) false) ∷ [] ≡ Push (values.Int (negsuc 127)) ∷ Push (values.Int (pos 300)) ∷ Increment 3 (negsuc 0) ∷ []
unfolding instruction_of simple
pushes = refl

switches : plainly (instrs.Table (negsuc 0) (pos 9) (pos 4 ∷ pos 5 ∷ pos 6 ∷ [])) ∷ plainly (instrs.Lookup (pos 9) ((negsuc 6, pos 4) ∷ (pos 80, pos 5) ∷ [])) ∷ [] ≡ Switch ((negsuc 0, 4) ∷ (pos 0, 5) ∷ (pos 1, 6) ∷ []) 9 ∷ Switch ((negsuc 6, 4) ∷ (pos 80, 5) ∷ []) 9 ∷ []
unfolding instruction_of simple
switches = refl

new_arrays : map (λ base. plainly (instrs.Array base)) (4 ∷ 5 ∷ 6 ∷ 7 ∷ 8 ∷ 9 ∷ 10 ∷ 11 ∷ []) ≡ NewArray (base_array bases.Boolean) elements.Boolean ∷ NewArray (base_array bases.Char) elements.Char ∷ Other 188 Nothing ∷ Other 188 Nothing ∷ NewArray (base_array bases.Byte) elements.Byte ∷ NewArray (base_array bases.Short) elements.Short ∷ NewArray (base_array bases.Int) elements.Int ∷ NewArray (base_array bases.Long) elements.Long ∷ []
unfolding instruction_of simple
new_arrays = refl

abbrev m : Member
m = record { class = object; name = codes "m"; desc = descs.Field int }

abbrev each_named : List Named
each_named = Nothing ∷ AnInt (pos 1) ∷ ALong (pos 2) ∷ AText (codes "a") ∷ AClass object ∷ AField m ∷ AMethod m ∷ AnInterfaceMethod m ∷ Another ∷ []

literals_18 : map (λ named. instruction_of (instrs.Literal 18 5) named) each_named ≡ Other 18 Nothing ∷ Push (values.Int (pos 1)) ∷ Other 18 (ALong (pos 2)) ∷ PushText (codes "a") ∷ Other 18 (AClass object) ∷ Other 18 (AField m) ∷ Other 18 (AMethod m) ∷ Other 18 (AnInterfaceMethod m) ∷ Other 18 Another ∷ []
unfolding instruction_of simple
literals_18 = refl

literals_19 : map (λ named. instruction_of (instrs.Literal 19 5) named) each_named ≡ Other 19 Nothing ∷ Push (values.Int (pos 1)) ∷ Other 19 (ALong (pos 2)) ∷ PushText (codes "a") ∷ Other 19 (AClass object) ∷ Other 19 (AField m) ∷ Other 19 (AMethod m) ∷ Other 19 (AnInterfaceMethod m) ∷ Other 19 Another ∷ []
unfolding instruction_of simple
literals_19 = refl

literals_20 : map (λ named. instruction_of (instrs.Literal 20 5) named) each_named ≡ Other 20 Nothing ∷ Other 20 (AnInt (pos 1)) ∷ Push (values.Long (pos 2)) ∷ Other 20 (AText (codes "a")) ∷ Other 20 (AClass object) ∷ Other 20 (AField m) ∷ Other 20 (AMethod m) ∷ Other 20 (AnInterfaceMethod m) ∷ Other 20 Another ∷ []
unfolding instruction_of simple
literals_20 = refl

members_178 : map (λ named. instruction_of (instrs.Member 178 5) named) each_named ≡ Other 178 Nothing ∷ Other 178 (AnInt (pos 1)) ∷ Other 178 (ALong (pos 2)) ∷ Other 178 (AText (codes "a")) ∷ Other 178 (AClass object) ∷ GetStatic m ∷ Other 178 (AMethod m) ∷ Other 178 (AnInterfaceMethod m) ∷ Other 178 Another ∷ []
unfolding instruction_of simple
members_178 = refl

members_179 : map (λ named. instruction_of (instrs.Member 179 5) named) each_named ≡ Other 179 Nothing ∷ Other 179 (AnInt (pos 1)) ∷ Other 179 (ALong (pos 2)) ∷ Other 179 (AText (codes "a")) ∷ Other 179 (AClass object) ∷ PutStatic m ∷ Other 179 (AMethod m) ∷ Other 179 (AnInterfaceMethod m) ∷ Other 179 Another ∷ []
unfolding instruction_of simple
members_179 = refl

members_180 : map (λ named. instruction_of (instrs.Member 180 5) named) each_named ≡ Other 180 Nothing ∷ Other 180 (AnInt (pos 1)) ∷ Other 180 (ALong (pos 2)) ∷ Other 180 (AText (codes "a")) ∷ Other 180 (AClass object) ∷ GetField m ∷ Other 180 (AMethod m) ∷ Other 180 (AnInterfaceMethod m) ∷ Other 180 Another ∷ []
unfolding instruction_of simple
members_180 = refl

members_181 : map (λ named. instruction_of (instrs.Member 181 5) named) each_named ≡ Other 181 Nothing ∷ Other 181 (AnInt (pos 1)) ∷ Other 181 (ALong (pos 2)) ∷ Other 181 (AText (codes "a")) ∷ Other 181 (AClass object) ∷ PutField m ∷ Other 181 (AMethod m) ∷ Other 181 (AnInterfaceMethod m) ∷ Other 181 Another ∷ []
unfolding instruction_of simple
members_181 = refl

members_182 : map (λ named. instruction_of (instrs.Member 182 5) named) each_named ≡ Other 182 Nothing ∷ Other 182 (AnInt (pos 1)) ∷ Other 182 (ALong (pos 2)) ∷ Other 182 (AText (codes "a")) ∷ Other 182 (AClass object) ∷ Other 182 (AField m) ∷ Invoke Virtual m ∷ Other 182 (AnInterfaceMethod m) ∷ Other 182 Another ∷ []
unfolding instruction_of simple
members_182 = refl

members_183 : map (λ named. instruction_of (instrs.Member 183 5) named) each_named ≡ Other 183 Nothing ∷ Other 183 (AnInt (pos 1)) ∷ Other 183 (ALong (pos 2)) ∷ Other 183 (AText (codes "a")) ∷ Other 183 (AClass object) ∷ Other 183 (AField m) ∷ Invoke Special m ∷ Invoke Special m ∷ Other 183 Another ∷ []
unfolding instruction_of simple
members_183 = refl

members_184 : map (λ named. instruction_of (instrs.Member 184 5) named) each_named ≡ Other 184 Nothing ∷ Other 184 (AnInt (pos 1)) ∷ Other 184 (ALong (pos 2)) ∷ Other 184 (AText (codes "a")) ∷ Other 184 (AClass object) ∷ Other 184 (AField m) ∷ Invoke Static m ∷ Invoke Static m ∷ Other 184 Another ∷ []
unfolding instruction_of simple
members_184 = refl

interface_calls : map (λ named. instruction_of (instrs.Interface 5 3) named) each_named ≡ Other 185 Nothing ∷ Other 185 (AnInt (pos 1)) ∷ Other 185 (ALong (pos 2)) ∷ Other 185 (AText (codes "a")) ∷ Other 185 (AClass object) ∷ Other 185 (AField m) ∷ Other 185 (AMethod m) ∷ Invoke (Interface 3) m ∷ Other 185 Another ∷ []
unfolding instruction_of simple
interface_calls = refl

dynamic_calls : map (λ named. instruction_of (instrs.Dynamic 5) named) each_named ≡ Other 186 Nothing ∷ Other 186 (AnInt (pos 1)) ∷ Other 186 (ALong (pos 2)) ∷ Other 186 (AText (codes "a")) ∷ Other 186 (AClass object) ∷ Other 186 (AField m) ∷ Other 186 (AMethod m) ∷ Other 186 (AnInterfaceMethod m) ∷ Other 186 Another ∷ []
unfolding instruction_of simple
dynamic_calls = refl

classes_187 : map (λ named. instruction_of (instrs.Class 187 5) named) each_named ≡ Other 187 Nothing ∷ Other 187 (AnInt (pos 1)) ∷ Other 187 (ALong (pos 2)) ∷ Other 187 (AText (codes "a")) ∷ New object ∷ Other 187 (AField m) ∷ Other 187 (AMethod m) ∷ Other 187 (AnInterfaceMethod m) ∷ Other 187 Another ∷ []
unfolding instruction_of simple
classes_187 = refl

classes_189 : map (λ named. instruction_of (instrs.Class 189 5) named) each_named ≡ Other 189 Nothing ∷ Other 189 (AnInt (pos 1)) ∷ Other 189 (ALong (pos 2)) ∷ Other 189 (AText (codes "a")) ∷ NewArray (record { dims = 1; of = object.of }) elements.Ref ∷ Other 189 (AField m) ∷ Other 189 (AMethod m) ∷ Other 189 (AnInterfaceMethod m) ∷ Other 189 Another ∷ []
unfolding instruction_of simple
classes_189 = refl

classes_192 : map (λ named. instruction_of (instrs.Class 192 5) named) each_named ≡ Other 192 Nothing ∷ Other 192 (AnInt (pos 1)) ∷ Other 192 (ALong (pos 2)) ∷ Other 192 (AText (codes "a")) ∷ CheckCast object ∷ Other 192 (AField m) ∷ Other 192 (AMethod m) ∷ Other 192 (AnInterfaceMethod m) ∷ Other 192 Another ∷ []
unfolding instruction_of simple
classes_192 = refl

classes_193 : map (λ named. instruction_of (instrs.Class 193 5) named) each_named ≡ Other 193 Nothing ∷ Other 193 (AnInt (pos 1)) ∷ Other 193 (ALong (pos 2)) ∷ Other 193 (AText (codes "a")) ∷ InstanceOf object ∷ Other 193 (AField m) ∷ Other 193 (AMethod m) ∷ Other 193 (AnInterfaceMethod m) ∷ Other 193 Another ∷ []
unfolding instruction_of simple
classes_193 = refl

many_dimensions : map (λ named. instruction_of (instrs.Multi 5 2) named) each_named ≡ Other 197 Nothing ∷ Other 197 (AnInt (pos 1)) ∷ Other 197 (ALong (pos 2)) ∷ Other 197 (AText (codes "a")) ∷ Other 197 (AClass object) ∷ Other 197 (AField m) ∷ Other 197 (AMethod m) ∷ Other 197 (AnInterfaceMethod m) ∷ Other 197 Another ∷ []
unfolding instruction_of simple
many_dimensions = refl
