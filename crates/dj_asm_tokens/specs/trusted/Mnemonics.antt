-- The words of the instructions (JVMS chapter 6 and table 7.1), and of the base types that arrays have (JVMS table 6.5.newarray-A).
use Rattle.std.specs.Prelude.{ℕ, ◌-◌, List, [], ◌∷◌, codes, slice_get}
use Rattle.std.specs.Option.{unwrap_or}

-- the words of the opcodes, from opcode 0 on
unfoldable pub mnemonics : List (List ℕ)
mnemonics =
    codes "nop" ∷ codes "aconst_null" ∷ codes "iconst_m1" ∷ codes "iconst_0" ∷ codes "iconst_1" ∷ codes "iconst_2" ∷ codes "iconst_3" ∷ codes "iconst_4" ∷ codes "iconst_5" ∷ codes "lconst_0" ∷
    codes "lconst_1" ∷ codes "fconst_0" ∷ codes "fconst_1" ∷ codes "fconst_2" ∷ codes "dconst_0" ∷ codes "dconst_1" ∷ codes "bipush" ∷ codes "sipush" ∷ codes "ldc" ∷ codes "ldc_w" ∷
    codes "ldc2_w" ∷ codes "iload" ∷ codes "lload" ∷ codes "fload" ∷ codes "dload" ∷ codes "aload" ∷ codes "iload_0" ∷ codes "iload_1" ∷ codes "iload_2" ∷ codes "iload_3" ∷
    codes "lload_0" ∷ codes "lload_1" ∷ codes "lload_2" ∷ codes "lload_3" ∷ codes "fload_0" ∷ codes "fload_1" ∷ codes "fload_2" ∷ codes "fload_3" ∷ codes "dload_0" ∷ codes "dload_1" ∷
    codes "dload_2" ∷ codes "dload_3" ∷ codes "aload_0" ∷ codes "aload_1" ∷ codes "aload_2" ∷ codes "aload_3" ∷ codes "iaload" ∷ codes "laload" ∷ codes "faload" ∷ codes "daload" ∷
    codes "aaload" ∷ codes "baload" ∷ codes "caload" ∷ codes "saload" ∷ codes "istore" ∷ codes "lstore" ∷ codes "fstore" ∷ codes "dstore" ∷ codes "astore" ∷ codes "istore_0" ∷
    codes "istore_1" ∷ codes "istore_2" ∷ codes "istore_3" ∷ codes "lstore_0" ∷ codes "lstore_1" ∷ codes "lstore_2" ∷ codes "lstore_3" ∷ codes "fstore_0" ∷ codes "fstore_1" ∷ codes "fstore_2" ∷
    codes "fstore_3" ∷ codes "dstore_0" ∷ codes "dstore_1" ∷ codes "dstore_2" ∷ codes "dstore_3" ∷ codes "astore_0" ∷ codes "astore_1" ∷ codes "astore_2" ∷ codes "astore_3" ∷ codes "iastore" ∷
    codes "lastore" ∷ codes "fastore" ∷ codes "dastore" ∷ codes "aastore" ∷ codes "bastore" ∷ codes "castore" ∷ codes "sastore" ∷ codes "pop" ∷ codes "pop2" ∷ codes "dup" ∷
    codes "dup_x1" ∷ codes "dup_x2" ∷ codes "dup2" ∷ codes "dup2_x1" ∷ codes "dup2_x2" ∷ codes "swap" ∷ codes "iadd" ∷ codes "ladd" ∷ codes "fadd" ∷ codes "dadd" ∷
    codes "isub" ∷ codes "lsub" ∷ codes "fsub" ∷ codes "dsub" ∷ codes "imul" ∷ codes "lmul" ∷ codes "fmul" ∷ codes "dmul" ∷ codes "idiv" ∷ codes "ldiv" ∷
    codes "fdiv" ∷ codes "ddiv" ∷ codes "irem" ∷ codes "lrem" ∷ codes "frem" ∷ codes "drem" ∷ codes "ineg" ∷ codes "lneg" ∷ codes "fneg" ∷ codes "dneg" ∷
    codes "ishl" ∷ codes "lshl" ∷ codes "ishr" ∷ codes "lshr" ∷ codes "iushr" ∷ codes "lushr" ∷ codes "iand" ∷ codes "land" ∷ codes "ior" ∷ codes "lor" ∷
    codes "ixor" ∷ codes "lxor" ∷ codes "iinc" ∷ codes "i2l" ∷ codes "i2f" ∷ codes "i2d" ∷ codes "l2i" ∷ codes "l2f" ∷ codes "l2d" ∷ codes "f2i" ∷
    codes "f2l" ∷ codes "f2d" ∷ codes "d2i" ∷ codes "d2l" ∷ codes "d2f" ∷ codes "i2b" ∷ codes "i2c" ∷ codes "i2s" ∷ codes "lcmp" ∷ codes "fcmpl" ∷
    codes "fcmpg" ∷ codes "dcmpl" ∷ codes "dcmpg" ∷ codes "ifeq" ∷ codes "ifne" ∷ codes "iflt" ∷ codes "ifge" ∷ codes "ifgt" ∷ codes "ifle" ∷ codes "if_icmpeq" ∷
    codes "if_icmpne" ∷ codes "if_icmplt" ∷ codes "if_icmpge" ∷ codes "if_icmpgt" ∷ codes "if_icmple" ∷ codes "if_acmpeq" ∷ codes "if_acmpne" ∷ codes "goto" ∷ codes "jsr" ∷ codes "ret" ∷
    codes "tableswitch" ∷ codes "lookupswitch" ∷ codes "ireturn" ∷ codes "lreturn" ∷ codes "freturn" ∷ codes "dreturn" ∷ codes "areturn" ∷ codes "return" ∷ codes "getstatic" ∷ codes "putstatic" ∷
    codes "getfield" ∷ codes "putfield" ∷ codes "invokevirtual" ∷ codes "invokespecial" ∷ codes "invokestatic" ∷ codes "invokeinterface" ∷ codes "invokedynamic" ∷ codes "new" ∷ codes "newarray" ∷ codes "anewarray" ∷
    codes "arraylength" ∷ codes "athrow" ∷ codes "checkcast" ∷ codes "instanceof" ∷ codes "monitorenter" ∷ codes "monitorexit" ∷ codes "wide" ∷ codes "multianewarray" ∷ codes "ifnull" ∷ codes "ifnonnull" ∷
    codes "goto_w" ∷ codes "jsr_w" ∷ codes "breakpoint" ∷ []

-- the word of an opcode
abbrev pub mnemonic : ℕ → List ℕ
mnemonic op = unwrap_or (slice_get mnemonics op) []

-- the words of the base types, from number 4 on
abbrev pub base_words : List (List ℕ)
base_words = codes "boolean" ∷ codes "char" ∷ codes "float" ∷ codes "double" ∷ codes "byte" ∷ codes "short" ∷ codes "int" ∷ codes "long" ∷ []

-- the word of a base type
abbrev pub base_word : ℕ → List ℕ
base_word base = unwrap_or (slice_get base_words (base - 4)) []
