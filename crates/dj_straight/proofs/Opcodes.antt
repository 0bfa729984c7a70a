-- What each opcode does, written by hand from JVMS 6.5.
use Rattle.std.proofs.Common.{◌≡◌, ℕ, true, false, List, [], ◌∷◌, map, Some, pos, negsuc, codes, refl}
use Rattle.dj_names.specs.declared.descriptor.Kind.TheVariants as kinds
use Rattle.dj_names.specs.declared.run.Value.TheVariants as values
use Rattle.dj_names.specs.declared.run.Element.TheVariants as elements
use Rattle.dj_ops.specs.declared.instruction.Instr.TheVariants as instrs
use Rattle.dj_straight.specs.trusted.Instructions.{Instruction, Nop, Push, Load, Store, LoadElement, StoreElement, Move, Compute, Return, ArrayLength, NewArray, Other, Pop, Dup, Add, Subtract, Multiply, And, Or, Xor, Bytes, simple, instruction_of}

run_alone : List ℕ
run_alone =
    0 ∷ 1 ∷ 2 ∷ 3 ∷ 4 ∷ 5 ∷ 6 ∷ 7 ∷ 8 ∷ 26 ∷ 27 ∷ 28 ∷ 29 ∷ 42 ∷ 43 ∷ 44 ∷ 45 ∷ 51 ∷ 59 ∷ 60 ∷ 61 ∷ 62 ∷ 75 ∷ 76 ∷ 77 ∷ 78 ∷
    84 ∷ 87 ∷ 89 ∷ 96 ∷ 100 ∷ 104 ∷ 126 ∷ 128 ∷ 130 ∷ 176 ∷ 190 ∷ []

they_do : List Instruction
they_do =
    Nop ∷ Push (values.Ref 0) ∷ Push (values.Int (negsuc 0)) ∷ Push (values.Int (pos 0)) ∷ Push (values.Int (pos 1)) ∷
    Push (values.Int (pos 2)) ∷ Push (values.Int (pos 3)) ∷ Push (values.Int (pos 4)) ∷ Push (values.Int (pos 5)) ∷
    Load kinds.Int 0 ∷ Load kinds.Int 1 ∷ Load kinds.Int 2 ∷ Load kinds.Int 3 ∷ Load kinds.Ref 0 ∷ Load kinds.Ref 1 ∷
    Load kinds.Ref 2 ∷ Load kinds.Ref 3 ∷ LoadElement Bytes ∷ Store kinds.Int 0 ∷ Store kinds.Int 1 ∷ Store kinds.Int 2 ∷
    Store kinds.Int 3 ∷ Store kinds.Ref 0 ∷ Store kinds.Ref 1 ∷ Store kinds.Ref 2 ∷ Store kinds.Ref 3 ∷ StoreElement Bytes ∷
    Move Pop ∷ Move Dup ∷ Compute Add ∷ Compute Subtract ∷ Compute Multiply ∷ Compute And ∷ Compute Or ∷ Compute Xor ∷
    Return (Some kinds.Ref) ∷ ArrayLength ∷ []

-- the opcodes without operands that run
simple_runs : map simple run_alone ≡ they_do
unfolding simple run_alone they_do
simple_runs = refl

all_others : List ℕ
all_others =
    9 ∷ 10 ∷ 11 ∷ 12 ∷ 13 ∷ 14 ∷ 15 ∷ 16 ∷ 17 ∷ 18 ∷ 19 ∷ 20 ∷ 21 ∷ 22 ∷ 23 ∷ 24 ∷ 25 ∷ 30 ∷ 31 ∷ 32 ∷ 33 ∷ 34 ∷ 35 ∷ 36 ∷
    37 ∷ 38 ∷ 39 ∷ 40 ∷ 41 ∷ 46 ∷ 47 ∷ 48 ∷ 49 ∷ 50 ∷ 52 ∷ 53 ∷ 54 ∷ 55 ∷ 56 ∷ 57 ∷ 58 ∷ 63 ∷ 64 ∷ 65 ∷ 66 ∷ 67 ∷ 68 ∷ 69 ∷
    70 ∷ 71 ∷ 72 ∷ 73 ∷ 74 ∷ 79 ∷ 80 ∷ 81 ∷ 82 ∷ 83 ∷ 85 ∷ 86 ∷ 88 ∷ 90 ∷ 91 ∷ 92 ∷ 93 ∷ 94 ∷ 95 ∷ 97 ∷ 98 ∷ 99 ∷ 101 ∷
    102 ∷ 103 ∷ 105 ∷ 106 ∷ 107 ∷ 108 ∷ 109 ∷ 110 ∷ 111 ∷ 112 ∷ 113 ∷ 114 ∷ 115 ∷ 116 ∷ 117 ∷ 118 ∷ 119 ∷ 120 ∷ 121 ∷ 122 ∷
    123 ∷ 124 ∷ 125 ∷ 127 ∷ 129 ∷ 131 ∷ 132 ∷ 133 ∷ 134 ∷ 135 ∷ 136 ∷ 137 ∷ 138 ∷ 139 ∷ 140 ∷ 141 ∷ 142 ∷ 143 ∷ 144 ∷ 145 ∷
    146 ∷ 147 ∷ 148 ∷ 149 ∷ 150 ∷ 151 ∷ 152 ∷ 153 ∷ 154 ∷ 155 ∷ 156 ∷ 157 ∷ 158 ∷ 159 ∷ 160 ∷ 161 ∷ 162 ∷ 163 ∷ 164 ∷ 165 ∷
    166 ∷ 167 ∷ 168 ∷ 169 ∷ 170 ∷ 171 ∷ 172 ∷ 173 ∷ 174 ∷ 175 ∷ 177 ∷ 178 ∷ 179 ∷ 180 ∷ 181 ∷ 182 ∷ 183 ∷ 184 ∷ 185 ∷ 186 ∷
    187 ∷ 188 ∷ 189 ∷ 191 ∷ 192 ∷ 193 ∷ 194 ∷ 195 ∷ 196 ∷ 197 ∷ 198 ∷ 199 ∷ 200 ∷ 201 ∷ 202 ∷ 203 ∷ 204 ∷ 205 ∷ 206 ∷ 207 ∷
    208 ∷ 209 ∷ 210 ∷ 211 ∷ 212 ∷ 213 ∷ 214 ∷ 215 ∷ 216 ∷ 217 ∷ 218 ∷ 219 ∷ 220 ∷ 221 ∷ 222 ∷ 223 ∷ 224 ∷ 225 ∷ 226 ∷ 227 ∷
    228 ∷ 229 ∷ 230 ∷ 231 ∷ 232 ∷ 233 ∷ 234 ∷ 235 ∷ 236 ∷ 237 ∷ 238 ∷ 239 ∷ 240 ∷ 241 ∷ 242 ∷ 243 ∷ 244 ∷ 245 ∷ 246 ∷ 247 ∷
    248 ∷ 249 ∷ 250 ∷ 251 ∷ 252 ∷ 253 ∷ 254 ∷ 255 ∷ []

-- none of the others runs without operands
simple_others : map simple all_others ≡ map Other all_others
unfolding simple all_others
simple_others = refl

-- iload, aload, istore and astore, with a slot of one byte and of two
slots : map (λ op. instruction_of (instrs.Local op 7 false)) (21 ∷ 25 ∷ 54 ∷ 58 ∷ [])
    ≡ Load kinds.Int 7 ∷ Load kinds.Ref 7 ∷ Store kinds.Int 7 ∷ Store kinds.Ref 7 ∷ []
unfolding instruction_of
slots = refl

wide_slots : map (λ op. instruction_of (instrs.Local op 700 true)) (21 ∷ 25 ∷ 54 ∷ 58 ∷ [])
    ≡ Load kinds.Int 700 ∷ Load kinds.Ref 700 ∷ Store kinds.Int 700 ∷ Store kinds.Ref 700 ∷ []
unfolding instruction_of
wide_slots = refl

-- bipush and sipush, and newarray of each type
pushes : map (λ op. instruction_of (instrs.Push op (negsuc 4))) (16 ∷ 17 ∷ []) ≡ Push (values.Int (negsuc 4)) ∷ Push (values.Int (negsuc 4)) ∷ []
unfolding instruction_of
pushes = refl

arrays : map (λ base. instruction_of (instrs.Array base)) (4 ∷ 5 ∷ 6 ∷ 7 ∷ 8 ∷ 9 ∷ 10 ∷ 11 ∷ [])
    ≡ Other 188 ∷ Other 188 ∷ Other 188 ∷ Other 188 ∷ NewArray (codes "[B") elements.Byte ∷ Other 188 ∷ Other 188 ∷ Other 188 ∷ []
unfolding instruction_of
arrays = refl
