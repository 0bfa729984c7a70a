-- The opcodes of floats and doubles (JVMS 6.5), by what they do.
use Rattle.std.specs.Prelude.{ℕ, Bool, ◌&&◌, ◌||◌, nat_le, nat_eq}

-- from one opcode to another
abbrev pub within : ℕ → ℕ → ℕ → Bool
within low high op = nat_le low op && nat_le op high

-- fconst_0 to fconst_2, dconst_0 and dconst_1
abbrev pub pushes_float : ℕ → Bool
pushes_float op = within 11 15 op

-- fload, dload, fload_0 to dload_3, faload and daload
abbrev pub loads_float : ℕ → Bool
loads_float op = within 23 24 op || (within 34 41 op || within 48 49 op)

-- fstore, dstore, fstore_0 to dstore_3, fastore and dastore
abbrev pub stores_float : ℕ → Bool
stores_float op = within 56 57 op || (within 67 74 op || within 81 82 op)

-- fadd, dadd, fsub, dsub, fmul, dmul
abbrev pub adds_float : ℕ → Bool
adds_float op = within 98 99 op || (within 102 103 op || within 106 107 op)

-- fdiv, ddiv, frem, drem, fneg, dneg
abbrev pub divides_float : ℕ → Bool
divides_float op = within 110 111 op || (within 114 115 op || within 118 119 op)

-- i2f, i2d, l2f to d2f
abbrev pub converts_float : ℕ → Bool
converts_float op = within 134 135 op || within 137 144 op

-- fcmpl to dcmpg, freturn and dreturn
abbrev pub ends_float : ℕ → Bool
ends_float op = within 149 152 op || within 174 175 op

-- an opcode of floats or doubles
abbrev pub is_float_op : ℕ → Bool
is_float_op op =
    pushes_float op || (loads_float op || (stores_float op || (adds_float op || (divides_float op || (converts_float op || ends_float op)))))

-- newarray of floats or of doubles (JVMS table 6.5.newarray-A)
abbrev pub is_float_base : ℕ → Bool
is_float_base base = within 6 7 base

-- ldc and ldc_w
abbrev pub is_short_literal : ℕ → Bool
is_short_literal op = within 18 19 op

-- jsr and jsr_w
abbrev pub is_subroutine_jump : ℕ → Bool
is_subroutine_jump op = nat_eq op 168 || nat_eq op 201
