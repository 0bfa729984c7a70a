-- The operands of every opcode, written out from JVMS 6.5 and chapter 7: `form_of` says the same.
use Rattle.std.specs.Prelude.{◌≡◌, ℕ, ◌+◌, ◌-◌, List, [], ◌∷◌, Some, None, map}
use Rattle.std.specs.List.{flat_map, range_with_len}
use Rattle.std.proofs.Common.{refl}
use Rattle.dj_ops.specs.trusted.Forms.{OperandForm, Bare, SignedByte, SignedShort, ShortLiteral, LongLiteral, Slot, SlotAndByte, ShortOffset, LongOffset, MemberIndex, InterfaceIndex, DynamicIndex, ClassIndex, ArrayType, MultiIndex, TableSwitch, LookupSwitch, WidePrefix, Reserved, form_of}
use Rattle.dj_ops.specs.Forms.{operand_count}

-- opcodes side by side that have the same operands
pub record Group : Type 0 where
  pub first : ℕ
  pub last : ℕ
  pub form : OperandForm

abbrev pub group : ℕ → ℕ → OperandForm → Group
group first last form = record { first = first; last = last; form = form }

abbrev pub members : Group → List (ℕ × OperandForm)
members g = map (λ op. (op, g.form)) (range_with_len g.first (g.last - g.first + 1))

abbrev pub groups : List Group
groups =
    -- nop, aconst_null, iconst, lconst, fconst and dconst
    group 0 15 Bare
    -- bipush
    ∷ group 16 16 SignedByte
    -- sipush
    ∷ group 17 17 SignedShort
    -- ldc
    ∷ group 18 18 ShortLiteral
    -- ldc_w and ldc2_w
    ∷ group 19 20 LongLiteral
    -- iload, lload, fload, dload and aload
    ∷ group 21 25 Slot
    -- iload_0 to aload_3
    ∷ group 26 45 Bare
    -- iaload to saload
    ∷ group 46 53 Bare
    -- istore, lstore, fstore, dstore and astore
    ∷ group 54 58 Slot
    -- istore_0 to astore_3
    ∷ group 59 78 Bare
    -- iastore to sastore
    ∷ group 79 86 Bare
    -- pop to swap
    ∷ group 87 95 Bare
    -- iadd to lxor
    ∷ group 96 131 Bare
    -- iinc
    ∷ group 132 132 SlotAndByte
    -- i2l to i2s
    ∷ group 133 147 Bare
    -- lcmp to dcmpg
    ∷ group 148 152 Bare
    -- ifeq to ifle, and if_icmpeq to if_acmpne
    ∷ group 153 166 ShortOffset
    -- goto and jsr
    ∷ group 167 168 ShortOffset
    -- ret
    ∷ group 169 169 Slot
    -- tableswitch
    ∷ group 170 170 TableSwitch
    -- lookupswitch
    ∷ group 171 171 LookupSwitch
    -- ireturn to return
    ∷ group 172 177 Bare
    -- getstatic, putstatic, getfield and putfield
    ∷ group 178 181 MemberIndex
    -- invokevirtual, invokespecial and invokestatic
    ∷ group 182 184 MemberIndex
    -- invokeinterface
    ∷ group 185 185 InterfaceIndex
    -- invokedynamic
    ∷ group 186 186 DynamicIndex
    -- new
    ∷ group 187 187 ClassIndex
    -- newarray
    ∷ group 188 188 ArrayType
    -- anewarray
    ∷ group 189 189 ClassIndex
    -- arraylength and athrow
    ∷ group 190 191 Bare
    -- checkcast and instanceof
    ∷ group 192 193 ClassIndex
    -- monitorenter and monitorexit
    ∷ group 194 195 Bare
    -- wide
    ∷ group 196 196 WidePrefix
    -- multianewarray
    ∷ group 197 197 MultiIndex
    -- ifnull and ifnonnull
    ∷ group 198 199 ShortOffset
    -- goto_w and jsr_w
    ∷ group 200 201 LongOffset
    -- breakpoint
    ∷ group 202 202 Bare
    -- opcodes that JVMS leaves open
    ∷ group 203 253 Reserved
    -- impdep1 and impdep2
    ∷ group 254 255 Reserved
    ∷ []

-- of all opcodes, in order
forms : map (λ op. (op, form_of op)) (range_with_len 0 256) ≡ flat_map members groups
unfolding form_of
forms = refl

-- the bytes of operands, of each form where they are always as many
counts : map operand_count (Bare ∷ SignedByte ∷ SignedShort ∷ ShortLiteral ∷ LongLiteral ∷ Slot ∷ SlotAndByte ∷ ShortOffset ∷ LongOffset ∷ [])
    ≡ Some 0 ∷ Some 1 ∷ Some 2 ∷ Some 1 ∷ Some 2 ∷ Some 1 ∷ Some 2 ∷ Some 2 ∷ Some 4 ∷ []
counts = refl

more_counts : map operand_count (MemberIndex ∷ InterfaceIndex ∷ DynamicIndex ∷ ClassIndex ∷ ArrayType ∷ MultiIndex ∷ [])
    ≡ Some 2 ∷ Some 4 ∷ Some 4 ∷ Some 2 ∷ Some 1 ∷ Some 3 ∷ []
more_counts = refl

no_counts : map operand_count (TableSwitch ∷ LookupSwitch ∷ WidePrefix ∷ Reserved ∷ []) ≡ None ∷ None ∷ None ∷ None ∷ []
no_counts = refl
