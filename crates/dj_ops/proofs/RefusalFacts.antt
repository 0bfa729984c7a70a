-- Bytes that are refused, and that aren't, by hand from JVMS 6.5: what is missed, and where an instruction stands.
use Rattle.std.proofs.Common.{pos, negsuc, [], ◌∷◌, true, false, Ok, Err, refl, arith, inl, inr}
use Rattle.std.proofs.Math.Facts.{sfits_lit}
use Rattle.std.proofs.lemmas.Int.{ints}
use Rattle.dj_ops.specs.declared.instruction.Instr.TheVariants as instrs
use Rattle.dj_ops.specs.declared.read.OpError.TheVariants as errors
use Rattle.dj_ops.specs.trusted.Forms.{form_of}
use Rattle.dj_ops.specs.trusted.Instructions.{Stands}
use Rattle.dj_ops.specs.Instructions.{Appended}
use Rattle.dj_ops.specs.Refusals.{Refuses, IsRefused, Yields}

-- ---- where an instruction stands

-- bipush -128 behind nop
stands : Stands (0 ∷ 16 ∷ 128 ∷ 0 ∷ []) 1 (instrs.Push 16 (negsuc 127)) 3
    × (Stands (0 ∷ 16 ∷ 128 ∷ 0 ∷ []) 1 (instrs.Push 16 (negsuc 127)) 2 → ⊥)
    × (Stands (0 ∷ 16 ∷ 128 ∷ 0 ∷ []) 0 (instrs.Push 16 (negsuc 127)) 2 → ⊥)
    × (Stands (0 ∷ 16 ∷ 128 ∷ 0 ∷ []) 1 (instrs.Push 16 (pos 128)) 3 → ⊥)
unfolding form_of
stands = (
  record { later = omega arith; within = omega arith; spelled = record { padding = []; padded = refl; offsets = tt; are = refl }; proper = sfits_lit tt },
  λ h. absurd cc (h.spelled.are),
  λ h. absurd cc (h.spelled.are),
  λ h. omega (arith, ints, h.proper),
)

-- wide iinc 1 by 256, and iinc by 256 stands nowhere
wide_stands : Stands (196 ∷ 132 ∷ 0 ∷ 1 ∷ 1 ∷ 0 ∷ []) 0 (instrs.Inc 1 (pos 256) true) 6
    × (Stands (132 ∷ 1 ∷ 0 ∷ []) 0 (instrs.Inc 1 (pos 256) false) 3 → ⊥)
wide_stands = (
  record { later = omega arith; within = omega arith; spelled = record { padding = []; padded = refl; offsets = tt; are = refl }; proper = (omega arith, sfits_lit tt) },
  λ h. omega (arith, ints, h.proper.1),
)

-- ---- Cut

-- wide iinc has four bytes after its opcode, wide iload two
cut_wides : Refuses (196 ∷ 132 ∷ 0 ∷ 1 ∷ 1 ∷ []) 0 errors.Cut
    × (Refuses (196 ∷ 132 ∷ 0 ∷ 1 ∷ 1 ∷ 0 ∷ []) 0 errors.Cut → ⊥)
    × (Refuses (196 ∷ 132 ∷ 0 ∷ 1 ∷ 1 ∷ 0 ∷ []) 0 errors.BadOperand → ⊥)
    × Refuses (196 ∷ 169 ∷ 1 ∷ []) 0 errors.Cut
    × (Refuses (196 ∷ 169 ∷ 1 ∷ 0 ∷ []) 0 errors.Cut → ⊥)
    × (Refuses (196 ∷ 169 ∷ 1 ∷ 0 ∷ []) 0 errors.BadOperand → ⊥)
    × (Refuses (196 ∷ 0 ∷ []) 0 errors.Cut → ⊥)
unfolding form_of
cut_wides = (
  omega arith,
  λ h. omega (arith, h),
  λ h. h.1 (inr refl),
  omega arith,
  λ h. omega (arith, h),
  λ h. h.1 (inl refl),
  λ h. omega (arith, h),
)

-- goto_w behind nop, with 3 bytes and with 4; and nop, of which nothing is missed
cut_jumps : Refuses (0 ∷ 200 ∷ 0 ∷ 0 ∷ 0 ∷ []) 1 errors.Cut
    × (Refuses (0 ∷ 200 ∷ 0 ∷ 0 ∷ 0 ∷ 0 ∷ []) 1 errors.Cut → ⊥)
    × (Refuses (0 ∷ []) 0 errors.Cut → ⊥)
    × (Refuses (0 ∷ []) 0 errors.BadOperand → ⊥)
unfolding form_of
cut_jumps = (omega arith, λ h. omega (arith, h), λ h. omega (arith, h), λ h. h)

-- tableswitch at 2: a byte of padding, default, low and high have 13 bytes
cut_bounds : Refuses (0 ∷ 0 ∷ 170 ∷ 9 ∷ 0 ∷ 0 ∷ 0 ∷ 0 ∷ 0 ∷ 0 ∷ 0 ∷ 0 ∷ 0 ∷ 0 ∷ 0 ∷ []) 2 errors.Cut
unfolding form_of
cut_bounds = inl (omega arith)

-- tableswitch at 3 of 0 and 1, with the offset of one
cut_offsets : Refuses (0 ∷ 0 ∷ 0 ∷ 170 ∷ 0 ∷ 0 ∷ 0 ∷ 5 ∷ 0 ∷ 0 ∷ 0 ∷ 0 ∷ 0 ∷ 0 ∷ 0 ∷ 1 ∷ 0 ∷ 0 ∷ 0 ∷ 0 ∷ []) 3 errors.Cut
unfolding form_of
cut_offsets = inr (record {
  low = pos 0;
  high = pos 1;
  offsets = 0 ∷ 0 ∷ 0 ∷ 0 ∷ [];
  bounds = record { default = pos 5; default_fits = sfits_lit tt; low_fits = sfits_lit tt; high_fits = sfits_lit tt; are = refl };
  rising = omega (arith, ints);
  short = omega arith;
})

-- lookupswitch at 2: a byte of padding, default and npairs have 9 bytes
cut_count : Refuses (0 ∷ 0 ∷ 171 ∷ 9 ∷ 0 ∷ 0 ∷ 0 ∷ 0 ∷ 0 ∷ 0 ∷ 0 ∷ []) 2 errors.Cut
unfolding form_of
cut_count = inl (omega arith)

-- lookupswitch at 3 of one pair, with 7 bytes of it
cut_pairs : Refuses (0 ∷ 0 ∷ 0 ∷ 171 ∷ 0 ∷ 0 ∷ 0 ∷ 5 ∷ 0 ∷ 0 ∷ 0 ∷ 1 ∷ 0 ∷ 0 ∷ 0 ∷ 0 ∷ 0 ∷ 0 ∷ 0 ∷ []) 3 errors.Cut
unfolding form_of
cut_pairs = inr (record {
  count = 1;
  pairs = 0 ∷ 0 ∷ 0 ∷ 0 ∷ 0 ∷ 0 ∷ 0 ∷ [];
  counted = record { default = pos 5; default_fits = sfits_lit tt; count_fits = sfits_lit tt; are = refl };
  short = omega arith;
})

-- ---- BadOperand

-- tableswitch at 3 of 1 to 0
falling : Refuses (0 ∷ 0 ∷ 0 ∷ 170 ∷ 0 ∷ 0 ∷ 0 ∷ 5 ∷ 0 ∷ 0 ∷ 0 ∷ 1 ∷ 0 ∷ 0 ∷ 0 ∷ 0 ∷ []) 3 errors.BadOperand
unfolding form_of
falling = record {
  low = pos 1;
  high = pos 0;
  offsets = [];
  bounds = record { default = pos 5; default_fits = sfits_lit tt; low_fits = sfits_lit tt; high_fits = sfits_lit tt; are = refl };
  falling = omega (arith, ints);
}

-- lookupswitch at 3 of -1 pairs
negative : Refuses (0 ∷ 0 ∷ 0 ∷ 171 ∷ 0 ∷ 0 ∷ 0 ∷ 5 ∷ 255 ∷ 255 ∷ 255 ∷ 255 ∷ []) 3 errors.BadOperand
unfolding form_of
negative = inl (record {
  count = negsuc 0;
  pairs = [];
  counted = record { default = pos 5; default_fits = sfits_lit tt; count_fits = sfits_lit tt; are = refl };
  negative = omega (arith, ints);
})

-- lookupswitch at 3 of 2 and 1
unsorted : Refuses (0 ∷ 0 ∷ 0 ∷ 171 ∷ 0 ∷ 0 ∷ 0 ∷ 5 ∷ 0 ∷ 0 ∷ 0 ∷ 2 ∷ 0 ∷ 0 ∷ 0 ∷ 2 ∷ 0 ∷ 0 ∷ 0 ∷ 0 ∷ 0 ∷ 0 ∷ 0 ∷ 1 ∷ 0 ∷ 0 ∷ 0 ∷ 4 ∷ []) 3 errors.BadOperand
unfolding form_of
unsorted = inr (record {
  pairs = (pos 2, pos 3) ∷ (pos 1, pos 7) ∷ [];
  more = [];
  counted = record { default = pos 5; default_fits = sfits_lit tt; count_fits = sfits_lit tt; are = refl };
  fit = ((sfits_lit tt, sfits_lit tt), ((sfits_lit tt, sfits_lit tt), tt));
  unsorted = λ rising. let down = rising 0 1 (pos 0, pos 0) (omega arith) (omega arith) in omega (arith, ints, down);
})

-- ---- want of memory, and what is written

-- it has no cause in the code, and may be the answer of any
memory : IsRefused (0 ∷ []) 0 errors.Memory
    × (Refuses (0 ∷ []) 0 errors.Memory → ⊥)
    × (IsRefused (0 ∷ []) 0 errors.Cut → ⊥)
    × Yields (Err errors.Memory) (Ok (instrs.Simple 0, 1))
    × Yields (Ok (instrs.Simple 0, 1)) (Ok (instrs.Simple 0, 1))
unfolding form_of
memory = (tt, λ h. h, λ h. omega (arith, h), inr refl, inl refl)

-- another answer is none
no_other : (Yields (Err errors.Cut) (Ok (instrs.Simple 0, 1)) → ⊥) × (Yields (Ok (instrs.Simple 0, 1)) (Err errors.Cut) → ⊥)
no_other = (λ h. elim h [ inl e ↦ cc | inr e ↦ cc ], λ h. elim h [ inl e ↦ cc | inr e ↦ cc ])

-- the bytes stand behind what was there
appended : Appended (Ok tt) (1 ∷ []) (1 ∷ 2 ∷ 3 ∷ []) (2 ∷ 3 ∷ [])
    × (Appended (Ok tt) (1 ∷ []) (2 ∷ 3 ∷ 1 ∷ []) (2 ∷ 3 ∷ []) → ⊥)
    × (Appended (Err errors.Cut) (1 ∷ []) (1 ∷ []) (2 ∷ 3 ∷ []) → ⊥)
appended = (refl, λ h. absurd cc (h), λ h. absurd cc (h.0))
