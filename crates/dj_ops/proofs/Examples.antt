-- Bytes of instructions, by hand from JVMS 6.5: what the definitions say, and what they refuse.
use Rattle.std.proofs.Common.{◌≡◌, ◌≢◌, ℕ, ◌≤◌, pos, negsuc, List, [], ◌∷◌, length, true, false, Ok, Err, refl, arith, inl, inr}
use Rattle.std.proofs.Math.Facts.{sfits_lit}
use Rattle.std.proofs.lemmas.Int.{ints}
use Rattle.dj_cursor.specs.Reading.{cursor_at, many_at}
use Rattle.dj_ops.specs.declared.instruction.Instr.{Instr}
use Rattle.dj_ops.specs.declared.instruction.Instr.TheVariants as instrs
use Rattle.dj_ops.specs.declared.read.OpError.{OpError}
use Rattle.dj_ops.specs.declared.read.OpError.TheVariants as errors
use Rattle.dj_ops.specs.trusted.Forms.{Bare, Slot, ShortOffset, form_of}
use Rattle.dj_ops.specs.trusted.Instructions.{SpellsInstruction, IsProper, IsPadding, AreOffsets, written, length_at}
use Rattle.dj_ops.specs.Instructions.{Appended}
use Rattle.dj_ops.specs.Refusals.{Refuses}
use Rattle.dj_ops.proofs.Sizes.{spelled_length}
use Rattle.dj_ops.specs.Reading.{s4_at, wide_at, wide_local_at, target_at, pair_at, bounds_at, count_at, table_from, lookup_from, padded_at, instr_at}

-- goto to the opcode before it, at address 7
goto_back : SpellsInstruction 7 (instrs.Branch 167 (pos 6)) (167 ∷ 255 ∷ 255 ∷ [])
unfolding form_of
goto_back = record { padding = []; padded = refl; offsets = sfits_lit tt; are = refl }

-- goto_w 256 bytes on
goto_far : SpellsInstruction 7 (instrs.Branch 200 (pos 263)) (200 ∷ 0 ∷ 0 ∷ 1 ∷ 0 ∷ [])
unfolding form_of
goto_far = record { padding = []; padded = refl; offsets = sfits_lit tt; are = refl }

-- ldc 3, ldc2_w 256
literals : SpellsInstruction 0 (instrs.Literal 18 3) (18 ∷ 3 ∷ []) × SpellsInstruction 0 (instrs.Literal 20 256) (20 ∷ 1 ∷ 0 ∷ [])
unfolding form_of
literals = (record { padding = []; padded = refl; offsets = tt; are = refl }, record { padding = []; padded = refl; offsets = tt; are = refl })

-- wide iload 256, iinc 1 by -1, wide iinc 1 by 256
locals : SpellsInstruction 0 (instrs.Local 21 256 true) (196 ∷ 21 ∷ 1 ∷ 0 ∷ [])
    × SpellsInstruction 0 (instrs.Inc 1 (negsuc 0) false) (132 ∷ 1 ∷ 255 ∷ [])
    × SpellsInstruction 0 (instrs.Inc 1 (pos 256) true) (196 ∷ 132 ∷ 0 ∷ 1 ∷ 1 ∷ 0 ∷ [])
locals = (
  record { padding = []; padded = refl; offsets = tt; are = refl },
  record { padding = []; padded = refl; offsets = tt; are = refl },
  record { padding = []; padded = refl; offsets = tt; are = refl },
)

-- invokeinterface 5 with 1 slot, invokedynamic 258, multianewarray 7 with 2 dimensions
indexes : SpellsInstruction 0 (instrs.Interface 5 1) (185 ∷ 0 ∷ 5 ∷ 1 ∷ 0 ∷ [])
    × SpellsInstruction 0 (instrs.Dynamic 258) (186 ∷ 1 ∷ 2 ∷ 0 ∷ 0 ∷ [])
    × SpellsInstruction 0 (instrs.Multi 7 2) (197 ∷ 0 ∷ 7 ∷ 2 ∷ [])
indexes = (
  record { padding = []; padded = refl; offsets = tt; are = refl },
  record { padding = []; padded = refl; offsets = tt; are = refl },
  record { padding = []; padded = refl; offsets = tt; are = refl },
)

-- tableswitch at address 1, with 2 bytes of padding, of 3 and 4 to 13 and 14, and to 15 else
table : SpellsInstruction 1 (instrs.Table (pos 3) (pos 15) (pos 13 ∷ pos 14 ∷ []))
    (170 ∷ 9 ∷ 9 ∷ 0 ∷ 0 ∷ 0 ∷ 14 ∷ 0 ∷ 0 ∷ 0 ∷ 3 ∷ 0 ∷ 0 ∷ 0 ∷ 4 ∷ 0 ∷ 0 ∷ 0 ∷ 12 ∷ 0 ∷ 0 ∷ 0 ∷ 13 ∷ [])
table = record {
  padding = 9 ∷ 9 ∷ [];
  padded = record { few = omega arith; aligned = refl };
  offsets = (sfits_lit tt, (sfits_lit tt, (sfits_lit tt, tt)));
  are = refl;
}

table_proper : IsProper (instrs.Table (pos 3) (pos 15) (pos 13 ∷ pos 14 ∷ []))
table_proper = record { some = omega arith; low_fits = sfits_lit tt; high_fits = sfits_lit tt }

-- lookupswitch at address 3, without padding, of -1 to 0, and to itself else
lookup : SpellsInstruction 3 (instrs.Lookup (pos 3) ((negsuc 0, pos 0) ∷ []))
    (171 ∷ 0 ∷ 0 ∷ 0 ∷ 0 ∷ 0 ∷ 0 ∷ 0 ∷ 1 ∷ 255 ∷ 255 ∷ 255 ∷ 255 ∷ 255 ∷ 255 ∷ 255 ∷ 253 ∷ [])
lookup = record {
  padding = [];
  padded = record { few = omega arith; aligned = refl };
  offsets = (sfits_lit tt, (sfits_lit tt, tt));
  are = refl;
}

-- ifnull, ret and breakpoint are of the forms of ifeq, iload and nop
forms : (form_of 198 ≡ ShortOffset) × (form_of 169 ≡ Slot) × (form_of 202 ≡ Bare)
unfolding form_of
forms = (refl, refl, refl)

-- ---- padding

-- at each place of four
paddings : IsPadding 0 (1 ∷ 2 ∷ 3 ∷ []) × IsPadding 1 (1 ∷ 2 ∷ []) × IsPadding 2 (1 ∷ []) × IsPadding 3 [] × IsPadding 4 (0 ∷ 0 ∷ 0 ∷ [])
paddings = (
  record { few = omega arith; aligned = refl },
  record { few = omega arith; aligned = refl },
  record { few = omega arith; aligned = refl },
  record { few = omega arith; aligned = refl },
  record { few = omega arith; aligned = refl },
)

-- a switch isn't spelled with 4 zeros more
no_longer_switch : SpellsInstruction 3 (instrs.Lookup (pos 3) []) (171 ∷ 0 ∷ 0 ∷ 0 ∷ 0 ∷ 0 ∷ 0 ∷ 0 ∷ 0 ∷ [])
    × (SpellsInstruction 3 (instrs.Lookup (pos 3) []) (171 ∷ 0 ∷ 0 ∷ 0 ∷ 0 ∷ 0 ∷ 0 ∷ 0 ∷ 0 ∷ 0 ∷ 0 ∷ 0 ∷ 0 ∷ []) → ⊥)
no_longer_switch = (
  record { padding = []; padded = record { few = omega arith; aligned = refl }; offsets = (sfits_lit tt, tt); are = refl },
  λ h. omega (arith, spelled_length 3 (instrs.Lookup (pos 3) []) (171 ∷ 0 ∷ 0 ∷ 0 ∷ 0 ∷ 0 ∷ 0 ∷ 0 ∷ 0 ∷ 0 ∷ 0 ∷ 0 ∷ 0 ∷ []) h),
)

-- not 4 bytes more, whatever the place
no_more_padding : (at : ℕ) (padding : List ℕ) → 4 ≤ length padding → IsPadding at padding → ⊥
no_more_padding at padding many is = omega (arith, many, is.few)

-- nor fewer
no_less_padding : IsPadding 0 (1 ∷ 2 ∷ []) → ⊥
no_less_padding is = omega (arith, is.aligned)

-- ---- operands that no instruction has

-- high would be 2,147,483,648
high_past : IsProper (instrs.Table (pos 2147483647) (pos 0) (pos 0 ∷ pos 0 ∷ [])) → ⊥
high_past is = omega (arith, ints, is.high_fits)

no_targets : IsProper (instrs.Table (pos 0) (pos 0) []) → ⊥
no_targets is = omega (arith, is.some)

falling_matches : IsProper (instrs.Lookup (pos 0) ((pos 2, pos 0) ∷ (pos 1, pos 0) ∷ [])) → ⊥
falling_matches is = let down = is.rising 0 1 (pos 0, pos 0) (omega arith) (omega arith) in omega (arith, ints, down)

equal_matches : IsProper (instrs.Lookup (pos 0) ((pos 2, pos 0) ∷ (pos 2, pos 0) ∷ [])) → ⊥
equal_matches is = let same = is.rising 0 1 (pos 0, pos 0) (omega arith) (omega arith) in omega (arith, ints, same)

no_count : IsProper (instrs.Interface 1 0) → ⊥
no_count is = omega (arith, is.1)

no_dimensions : IsProper (instrs.Multi 1 0) → ⊥
no_dimensions is = omega (arith, is.1)

-- newarray has the types 4 to 11
array_types : IsProper (instrs.Array 4) × IsProper (instrs.Array 11) × (IsProper (instrs.Array 3) → ⊥) × (IsProper (instrs.Array 12) → ⊥)
array_types = ((omega arith, omega arith), (omega arith, omega arith), λ h. omega (arith, h.0), λ h. omega (arith, h.1))

-- ---- what is refused

-- an opcode that is no instruction's, and the last that is one's
reserved : Refuses (203 ∷ []) 0 (errors.Reserved 203) × (Refuses (202 ∷ []) 0 (errors.Reserved 202) → ⊥)
reserved = ((refl, omega arith), λ h. omega (arith, h.1))

-- invokeinterface with a count of 0, with a fourth byte, and with 3 bytes
interfaces : Refuses (185 ∷ 0 ∷ 1 ∷ 0 ∷ 0 ∷ []) 0 errors.BadOperand
    × Refuses (185 ∷ 0 ∷ 1 ∷ 1 ∷ 1 ∷ []) 0 errors.BadOperand
    × Refuses (185 ∷ 0 ∷ 1 ∷ 0 ∷ []) 0 errors.Cut
unfolding form_of
interfaces = ((omega arith, inl refl), (omega arith, inr (λ e. omega (arith, e))), omega arith)

-- invokedynamic with a third byte, with a fourth, and with zeros
dynamics : Refuses (186 ∷ 0 ∷ 1 ∷ 1 ∷ 0 ∷ []) 0 errors.BadOperand
    × Refuses (186 ∷ 0 ∷ 1 ∷ 0 ∷ 1 ∷ []) 0 errors.BadOperand
    × (Refuses (186 ∷ 0 ∷ 1 ∷ 0 ∷ 0 ∷ []) 0 errors.BadOperand → ⊥)
unfolding form_of
dynamics = ((omega arith, inl (λ e. omega (arith, e))), (omega arith, inr (λ e. omega (arith, e))), λ h. elim h.1 [ inl e ↦ e refl | inr e ↦ e refl ])

-- newarray of each type at an end, and of those next to them
arrays : Refuses (188 ∷ 3 ∷ []) 0 errors.BadOperand
    × Refuses (188 ∷ 12 ∷ []) 0 errors.BadOperand
    × (Refuses (188 ∷ 4 ∷ []) 0 errors.BadOperand → ⊥)
    × (Refuses (188 ∷ 11 ∷ []) 0 errors.BadOperand → ⊥)
unfolding form_of
arrays = (
  (omega arith, λ h. omega (arith, h.0)),
  (omega arith, λ h. omega (arith, h.1)),
  λ h. h.1 (omega arith, omega arith),
  λ h. h.1 (omega arith, omega arith),
)

-- multianewarray of no dimensions, and of one
dimensions : Refuses (197 ∷ 0 ∷ 1 ∷ 0 ∷ []) 0 errors.BadOperand × (Refuses (197 ∷ 0 ∷ 1 ∷ 1 ∷ []) 0 errors.BadOperand → ⊥)
unfolding form_of
dimensions = ((omega arith, refl), λ h. omega (arith, h.1))

-- the operands of an instruction that is cut are not judged: invokeinterface, invokedynamic and multianewarray without their last byte
cut_first : Refuses (185 ∷ 0 ∷ 1 ∷ 0 ∷ []) 0 errors.Cut
    × (Refuses (185 ∷ 0 ∷ 1 ∷ 0 ∷ []) 0 errors.BadOperand → ⊥)
    × Refuses (186 ∷ 0 ∷ 1 ∷ 1 ∷ []) 0 errors.Cut
    × (Refuses (186 ∷ 0 ∷ 1 ∷ 1 ∷ []) 0 errors.BadOperand → ⊥)
    × Refuses (197 ∷ 0 ∷ 1 ∷ []) 0 errors.Cut
    × (Refuses (197 ∷ 0 ∷ 1 ∷ []) 0 errors.BadOperand → ⊥)
unfolding form_of
cut_first = (omega arith, λ h. omega (arith, h.0), omega arith, λ h. omega (arith, h.0), omega arith, λ h. omega (arith, h.0))

-- wide before nop, alone, and before iload with one byte
wides : Refuses (196 ∷ 0 ∷ []) 0 errors.BadOperand × Refuses (196 ∷ []) 0 errors.Cut × Refuses (196 ∷ 21 ∷ 1 ∷ []) 0 errors.Cut
unfolding form_of
wides = ((omega arith, λ h. elim h [ inl e ↦ cc | inr e ↦ cc ]), tt, omega arith)

-- ---- what is read

abbrev read_at : ℕ → List ℕ → Instr → ℕ → Type 0
read_at at code instr next = instr_at (cursor_at at code) ≡ Ok (instr, cursor_at next code)

abbrev refused_at : ℕ → List ℕ → OpError → Type 0
refused_at at code e = instr_at (cursor_at at code) ≡ Err e

-- a switch at each place of four, with any padding
tables : read_at 0 (170 ∷ 1 ∷ 2 ∷ 3 ∷ 0 ∷ 0 ∷ 0 ∷ 20 ∷ 0 ∷ 0 ∷ 0 ∷ 0 ∷ 0 ∷ 0 ∷ 0 ∷ 0 ∷ 0 ∷ 0 ∷ 0 ∷ 24 ∷ []) (instrs.Table (pos 0) (pos 20) (pos 24 ∷ [])) 20
    × read_at 1 (0 ∷ 170 ∷ 1 ∷ 2 ∷ 0 ∷ 0 ∷ 0 ∷ 20 ∷ 0 ∷ 0 ∷ 0 ∷ 0 ∷ 0 ∷ 0 ∷ 0 ∷ 0 ∷ 0 ∷ 0 ∷ 0 ∷ 24 ∷ []) (instrs.Table (pos 0) (pos 21) (pos 25 ∷ [])) 20
    × read_at 2 (0 ∷ 0 ∷ 170 ∷ 1 ∷ 0 ∷ 0 ∷ 0 ∷ 20 ∷ 0 ∷ 0 ∷ 0 ∷ 0 ∷ 0 ∷ 0 ∷ 0 ∷ 0 ∷ 0 ∷ 0 ∷ 0 ∷ 24 ∷ []) (instrs.Table (pos 0) (pos 22) (pos 26 ∷ [])) 20
    × read_at 3 (0 ∷ 0 ∷ 0 ∷ 170 ∷ 0 ∷ 0 ∷ 0 ∷ 20 ∷ 0 ∷ 0 ∷ 0 ∷ 0 ∷ 0 ∷ 0 ∷ 0 ∷ 0 ∷ 0 ∷ 0 ∷ 0 ∷ 24 ∷ []) (instrs.Table (pos 0) (pos 23) (pos 27 ∷ [])) 20
unfolding form_of instr_at padded_at table_from bounds_at target_at s4_at many_at
tables = (refl, refl, refl, refl)

-- high below low, before the targets are missed
falling_bounds : refused_at 0 (170 ∷ 0 ∷ 0 ∷ 0 ∷ 0 ∷ 0 ∷ 0 ∷ 0 ∷ 0 ∷ 0 ∷ 0 ∷ 1 ∷ 0 ∷ 0 ∷ 0 ∷ 0 ∷ []) errors.BadOperand
unfolding form_of instr_at padded_at table_from bounds_at target_at s4_at many_at
falling_bounds = refl

-- matches that fall and that repeat, and a negative count
lookups : refused_at 3 (0 ∷ 0 ∷ 0 ∷ 171 ∷ 0 ∷ 0 ∷ 0 ∷ 0 ∷ 0 ∷ 0 ∷ 0 ∷ 2 ∷ 0 ∷ 0 ∷ 0 ∷ 1 ∷ 0 ∷ 0 ∷ 0 ∷ 0 ∷ 0 ∷ 0 ∷ 0 ∷ 0 ∷ 0 ∷ 0 ∷ 0 ∷ 4 ∷ []) errors.BadOperand
    × refused_at 3 (0 ∷ 0 ∷ 0 ∷ 171 ∷ 0 ∷ 0 ∷ 0 ∷ 0 ∷ 0 ∷ 0 ∷ 0 ∷ 2 ∷ 0 ∷ 0 ∷ 0 ∷ 1 ∷ 0 ∷ 0 ∷ 0 ∷ 0 ∷ 0 ∷ 0 ∷ 0 ∷ 1 ∷ 0 ∷ 0 ∷ 0 ∷ 4 ∷ []) errors.BadOperand
    × refused_at 3 (0 ∷ 0 ∷ 0 ∷ 171 ∷ 0 ∷ 0 ∷ 0 ∷ 0 ∷ 255 ∷ 255 ∷ 255 ∷ 255 ∷ []) errors.BadOperand
    -- a match more is missed before they are compared
    × refused_at 3 (0 ∷ 0 ∷ 0 ∷ 171 ∷ 0 ∷ 0 ∷ 0 ∷ 0 ∷ 0 ∷ 0 ∷ 0 ∷ 2 ∷ 0 ∷ 0 ∷ 0 ∷ 1 ∷ 0 ∷ 0 ∷ 0 ∷ 0 ∷ 0 ∷ 0 ∷ 0 ∷ 0 ∷ 0 ∷ 0 ∷ 0 ∷ []) errors.Cut
unfolding form_of instr_at padded_at lookup_from count_at pair_at target_at s4_at many_at
lookups = (refl, refl, refl, refl)

-- wide iload 258
wide_read : read_at 1 (0 ∷ 196 ∷ 21 ∷ 1 ∷ 2 ∷ []) (instrs.Local 21 258 true) 5
unfolding form_of instr_at wide_at wide_local_at
wide_read = refl

-- ---- what is written

-- goto to the opcode before it, and goto_w likewise
jumps_written : (written 7 (instrs.Branch 167 (pos 6)) ≡ 167 ∷ 255 ∷ 255 ∷ []) × (written 7 (instrs.Branch 200 (pos 6)) ≡ 200 ∷ 255 ∷ 255 ∷ 255 ∷ 255 ∷ [])
unfolding form_of
jumps_written = (refl, refl)

-- zeros are the padding, and not other bytes
padding_written : (written 2 (instrs.Lookup (pos 7) []) ≡ 171 ∷ 0 ∷ 0 ∷ 0 ∷ 0 ∷ 5 ∷ 0 ∷ 0 ∷ 0 ∷ 0 ∷ [])
    × (written 2 (instrs.Lookup (pos 7) []) ≢ 171 ∷ 9 ∷ 0 ∷ 0 ∷ 0 ∷ 5 ∷ 0 ∷ 0 ∷ 0 ∷ 0 ∷ [])
padding_written = (refl, λ e. absurd cc (e))

-- a switch is as long as its place wants
lengths_of_switches : (length_at 0 (instrs.Table (pos 0) (pos 30) (pos 0 ∷ [])) ≡ 20)
    × (length_at 1 (instrs.Table (pos 0) (pos 30) (pos 0 ∷ [])) ≡ 19)
    × (length_at 2 (instrs.Table (pos 0) (pos 30) (pos 0 ∷ [])) ≡ 18)
    × (length_at 3 (instrs.Table (pos 0) (pos 30) (pos 0 ∷ [])) ≡ 17)
    × (length_at 4 (instrs.Lookup (pos 9) ((pos 0, pos 4) ∷ [])) ≡ 20)
lengths_of_switches = (refl, refl, refl, refl, refl)

-- wide forms are longer, whatever the slot
lengths_of_locals : (length_at 0 (instrs.Local 21 5 true) ≡ 4) × (length_at 0 (instrs.Local 21 5 false) ≡ 2) × (length_at 0 (instrs.Inc 5 (pos 1) true) ≡ 6) × (length_at 0 (instrs.Inc 5 (pos 1) false) ≢ 6)
lengths_of_locals = (refl, refl, refl, λ e. omega (arith, e))

-- after want of memory no byte is there
none_is_left : Appended (Err errors.Memory) (1 ∷ []) (1 ∷ []) (2 ∷ 3 ∷ []) × (Appended (Err errors.Memory) (1 ∷ []) (1 ∷ 2 ∷ []) (2 ∷ 3 ∷ []) → ⊥)
none_is_left = ((refl, refl), λ h. absurd cc (h.1))

-- a jump of 32,767 bytes has an offset of two bytes, and one of 32,768 has none
far_jumps : AreOffsets 0 (instrs.Branch 167 (pos 32767)) × (AreOffsets 0 (instrs.Branch 167 (pos 32768)) → ⊥) × AreOffsets 0 (instrs.Branch 200 (pos 32768))
unfolding form_of
far_jumps = (sfits_lit tt, λ h. omega (arith, ints, h), sfits_lit tt)

far_back : AreOffsets 32768 (instrs.Branch 167 (pos 0)) × (AreOffsets 32769 (instrs.Branch 167 (pos 0)) → ⊥)
unfolding form_of
far_back = (sfits_lit tt, λ h. omega (arith, ints, h))
