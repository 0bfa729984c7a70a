-- Instructions that are proper and that aren't, at the ends of what JVMS 6.5 lets their operands be, and offsets at the ends of their fields.
use Rattle.std.proofs.Common.{◌≤◌, ◌^◌, ℤ, pos, negsuc, List, [], ◌∷◌, length, true, false, refl, arith, inl, inr}
use Rattle.std.proofs.Math.Facts.{sfits_lit}
use Rattle.std.proofs.lemmas.Int.{ints}
use Rattle.dj_ops.specs.declared.instruction.Instr.TheVariants as instrs
use Rattle.dj_ops.specs.trusted.Forms.{form_of}
use Rattle.dj_ops.specs.trusted.Instructions.{IsProper, AreOffsets, IsPaddingOf}
use Rattle.dj_ops.proofs.Rising.{rising_from}

-- ---- proper instructions

-- nop, istore_1 and breakpoint; bipush, wide and a reserved opcode aren't simple
simples : IsProper (instrs.Simple 0)
    × IsProper (instrs.Simple 60)
    × IsProper (instrs.Simple 202)
    × (IsProper (instrs.Simple 16) → ⊥)
    × (IsProper (instrs.Simple 196) → ⊥)
    × (IsProper (instrs.Simple 203) → ⊥)
unfolding form_of
simples = (refl, refl, refl, λ h. absurd cc (h), λ h. absurd cc (h), λ h. absurd cc (h))

-- bipush of a signed byte, sipush of two signed bytes, and ldc pushes no number
pushes : IsProper (instrs.Push 16 (negsuc 127))
    × IsProper (instrs.Push 16 (pos 127))
    × (IsProper (instrs.Push 16 (negsuc 128)) → ⊥)
    × (IsProper (instrs.Push 16 (pos 128)) → ⊥)
    × IsProper (instrs.Push 17 (negsuc 32767))
    × IsProper (instrs.Push 17 (pos 32767))
    × (IsProper (instrs.Push 17 (negsuc 32768)) → ⊥)
    × (IsProper (instrs.Push 17 (pos 32768)) → ⊥)
    × (IsProper (instrs.Push 18 (pos 1)) → ⊥)
unfolding form_of
pushes = (
  sfits_lit tt,
  sfits_lit tt,
  λ h. omega (arith, ints, h),
  λ h. omega (arith, ints, h),
  sfits_lit tt,
  sfits_lit tt,
  λ h. omega (arith, ints, h),
  λ h. omega (arith, ints, h),
  λ h. h,
)

-- ldc with a byte, ldc_w and ldc2_w with two, and iload has no constant
literals : IsProper (instrs.Literal 18 255)
    × (IsProper (instrs.Literal 18 256) → ⊥)
    × IsProper (instrs.Literal 19 65535)
    × (IsProper (instrs.Literal 19 65536) → ⊥)
    × IsProper (instrs.Literal 20 65535)
    × (IsProper (instrs.Literal 21 1) → ⊥)
unfolding form_of
literals = (omega arith, λ h. omega (arith, h), omega arith, λ h. omega (arith, h), omega arith, λ h. h)

-- iload and ret, narrow and wide; neither iinc nor istore_1 is a local's
locals : IsProper (instrs.Local 21 255 false)
    × IsProper (instrs.Local 169 255 false)
    × (IsProper (instrs.Local 21 256 false) → ⊥)
    × IsProper (instrs.Local 21 65535 true)
    × IsProper (instrs.Local 21 5 true)
    × (IsProper (instrs.Local 21 65536 true) → ⊥)
    × (IsProper (instrs.Local 132 1 false) → ⊥)
    × (IsProper (instrs.Local 60 1 true) → ⊥)
unfolding form_of
locals = (
  (refl, omega arith),
  (refl, omega arith),
  λ h. omega (arith, h.1),
  (refl, omega arith),
  (refl, omega arith),
  λ h. omega (arith, h.1),
  λ h. absurd cc (h.0),
  λ h. absurd cc (h.0),
)

-- iinc of a byte by a signed byte
increments : IsProper (instrs.Inc 255 (pos 127) false)
    × IsProper (instrs.Inc 255 (negsuc 127) false)
    × (IsProper (instrs.Inc 256 (pos 1) false) → ⊥)
    × (IsProper (instrs.Inc 1 (pos 128) false) → ⊥)
    × (IsProper (instrs.Inc 1 (negsuc 128) false) → ⊥)
increments = (
  (omega arith, sfits_lit tt),
  (omega arith, sfits_lit tt),
  λ h. omega (arith, h.0),
  λ h. omega (arith, ints, h.1),
  λ h. omega (arith, ints, h.1),
)

-- wide iinc of two bytes by two signed bytes
wide_increments : IsProper (instrs.Inc 256 (pos 128) true)
    × IsProper (instrs.Inc 65535 (pos 32767) true)
    × IsProper (instrs.Inc 1 (negsuc 32767) true)
    × (IsProper (instrs.Inc 65536 (pos 1) true) → ⊥)
    × (IsProper (instrs.Inc 1 (pos 32768) true) → ⊥)
    × (IsProper (instrs.Inc 1 (negsuc 32768) true) → ⊥)
wide_increments = (
  (omega arith, sfits_lit tt),
  (omega arith, sfits_lit tt),
  (omega arith, sfits_lit tt),
  λ h. omega (arith, h.0),
  λ h. omega (arith, ints, h.1),
  λ h. omega (arith, ints, h.1),
)

-- ifeq, ifnonnull and jsr_w are branches, and neither ret nor tableswitch
branches : IsProper (instrs.Branch 153 (pos 0))
    × IsProper (instrs.Branch 199 (pos 0))
    × IsProper (instrs.Branch 201 (pos 0))
    × (IsProper (instrs.Branch 169 (pos 0)) → ⊥)
    × (IsProper (instrs.Branch 170 (pos 0)) → ⊥)
unfolding form_of
branches = (inl refl, inl refl, inr refl, λ h. elim h [ inl e ↦ cc | inr e ↦ cc ], λ h. elim h [ inl e ↦ cc | inr e ↦ cc ])

-- getstatic to invokestatic, and neither return nor invokeinterface nor new
members : IsProper (instrs.Member 178 0)
    × IsProper (instrs.Member 184 65535)
    × (IsProper (instrs.Member 184 65536) → ⊥)
    × (IsProper (instrs.Member 177 1) → ⊥)
    × (IsProper (instrs.Member 185 1) → ⊥)
    × (IsProper (instrs.Member 187 1) → ⊥)
unfolding form_of
members = ((refl, omega arith), (refl, omega arith), λ h. omega (arith, h.1), λ h. absurd cc (h.0), λ h. absurd cc (h.0), λ h. absurd cc (h.0))

-- new, anewarray, checkcast and instanceof, and neither invokevirtual nor newarray nor multianewarray
classes : IsProper (instrs.Class 187 0)
    × IsProper (instrs.Class 189 65535)
    × IsProper (instrs.Class 192 65535)
    × IsProper (instrs.Class 193 65535)
    × (IsProper (instrs.Class 187 65536) → ⊥)
    × (IsProper (instrs.Class 182 1) → ⊥)
    × (IsProper (instrs.Class 188 1) → ⊥)
    × (IsProper (instrs.Class 197 1) → ⊥)
unfolding form_of
classes = (
  (refl, omega arith),
  (refl, omega arith),
  (refl, omega arith),
  (refl, omega arith),
  λ h. omega (arith, h.1),
  λ h. absurd cc (h.0),
  λ h. absurd cc (h.0),
  λ h. absurd cc (h.0),
)

-- an index has two bytes, a count and dimensions one
indexes : IsProper (instrs.Interface 65535 255)
    × (IsProper (instrs.Interface 65536 1) → ⊥)
    × (IsProper (instrs.Interface 1 256) → ⊥)
    × IsProper (instrs.Dynamic 65535)
    × (IsProper (instrs.Dynamic 65536) → ⊥)
    × IsProper (instrs.Multi 65535 255)
    × (IsProper (instrs.Multi 65536 1) → ⊥)
    × (IsProper (instrs.Multi 1 256) → ⊥)
indexes = (
  (omega arith, omega arith, omega arith),
  λ h. omega (arith, h.0),
  λ h. omega (arith, h.1),
  omega arith,
  λ h. omega (arith, h),
  (omega arith, omega arith, omega arith),
  λ h. omega (arith, h.0),
  λ h. omega (arith, h.1),
)

-- low and high at their ends, and low below its own
tables : IsProper (instrs.Table (negsuc 2147483647) (pos 0) (pos 0 ∷ []))
    × IsProper (instrs.Table (pos 2147483646) (pos 0) (pos 0 ∷ pos 0 ∷ []))
    × (IsProper (instrs.Table (negsuc 2147483648) (pos 0) (pos 0 ∷ [])) → ⊥)
tables = (
  record { some = omega arith; low_fits = sfits_lit tt; high_fits = sfits_lit tt },
  record { some = omega arith; low_fits = sfits_lit tt; high_fits = sfits_lit tt },
  λ h. omega (arith, ints, h.low_fits),
)

-- matches that rise, at the ends of their field, and no match at all
rising_matches : IsProper (instrs.Lookup (pos 0) ((negsuc 2147483647, pos 9) ∷ (negsuc 0, pos 5) ∷ (pos 2147483647, pos 7) ∷ [])) × IsProper (instrs.Lookup (pos 0) [])
rising_matches = (
  record { count = omega arith; matches = (sfits_lit tt, (sfits_lit tt, (sfits_lit tt, tt))); rising = rising_from ((negsuc 2147483647, pos 9) ∷ (negsuc 0, pos 5) ∷ (pos 2147483647, pos 7) ∷ []) refl },
  record { count = omega arith; matches = tt; rising = rising_from [] refl },
)

-- a match past its field
far_match : IsProper (instrs.Lookup (pos 0) ((pos 2147483648, pos 0) ∷ [])) → ⊥
far_match is = omega (arith, ints, is.matches.0)

-- this many pairs that their count is negative
many_pairs : (pairs : List (ℤ × ℤ)) → 2 ^ 31 ≤ length pairs → IsProper (instrs.Lookup (pos 0) pairs) → ⊥
many_pairs pairs many is = omega (arith, many, is.count)

-- ---- offsets

-- goto_w, on and back
wide_jumps : AreOffsets 1 (instrs.Branch 200 (pos 2147483648))
    × (AreOffsets 1 (instrs.Branch 200 (pos 2147483649)) → ⊥)
    × AreOffsets 0 (instrs.Branch 200 (negsuc 2147483647))
    × (AreOffsets 0 (instrs.Branch 200 (negsuc 2147483648)) → ⊥)
unfolding form_of
wide_jumps = (sfits_lit tt, λ h. omega (arith, ints, h), sfits_lit tt, λ h. omega (arith, ints, h))

-- the offsets of a switch have four bytes each: the default's, a target's and that of a pair's target
switch_jumps : AreOffsets 1 (instrs.Table (pos 0) (pos 2147483648) (pos 2147483648 ∷ []))
    × (AreOffsets 1 (instrs.Table (pos 0) (pos 2147483649) (pos 0 ∷ [])) → ⊥)
    × (AreOffsets 1 (instrs.Table (pos 0) (pos 0) (pos 0 ∷ pos 2147483649 ∷ [])) → ⊥)
    × AreOffsets 1 (instrs.Lookup (pos 2147483648) ((pos 0, pos 2147483648) ∷ []))
    × (AreOffsets 1 (instrs.Lookup (pos 2147483649) []) → ⊥)
    × (AreOffsets 1 (instrs.Lookup (pos 0) ((pos 0, pos 2147483649) ∷ [])) → ⊥)
switch_jumps = (
  (sfits_lit tt, (sfits_lit tt, tt)),
  λ h. omega (arith, ints, h.0),
  λ h. omega (arith, ints, h.1),
  (sfits_lit tt, (sfits_lit tt, tt)),
  λ h. omega (arith, ints, h.0),
  λ h. omega (arith, ints, h.1),
)

-- ---- padding

-- switches alone have some
unpadded : IsPaddingOf 0 (instrs.Simple 0) []
    × (IsPaddingOf 0 (instrs.Simple 0) (0 ∷ []) → ⊥)
    × (IsPaddingOf 0 (instrs.Branch 167 (pos 0)) (0 ∷ 0 ∷ 0 ∷ []) → ⊥)
    × (IsPaddingOf 0 (instrs.Table (pos 0) (pos 0) (pos 0 ∷ [])) [] → ⊥)
    × (IsPaddingOf 0 (instrs.Lookup (pos 0) []) [] → ⊥)
unpadded = (refl, λ h. absurd cc (h), λ h. absurd cc (h), λ h. omega (arith, h.aligned), λ h. omega (arith, h.aligned))
