-- Instructions of every family with their bytes, by hand from JVMS 6.5: what is read of the bytes, and what is written of the instruction.
use Rattle.std.proofs.Common.{◌≡◌, ℕ, ◌+◌, pos, negsuc, List, [], ◌∷◌, ◌++◌, length, replicate, map, true, false, Ok, Err, refl, Result, Option, Some, None, ◌≢◌}
use Rattle.dj_cursor.specs.Reading.{Cursor, cursor_at, many_at}
use Rattle.dj_ops.specs.declared.instruction.Instr.{Instr}
use Rattle.dj_ops.specs.declared.instruction.Instr.TheVariants as instrs
use Rattle.dj_ops.specs.declared.read.OpError.{OpError}
use Rattle.dj_ops.specs.trusted.Forms.{form_of}
use Rattle.dj_ops.specs.trusted.Instructions.{written}
use Rattle.dj_ops.specs.Reading.{s1_at, s2_at, s4_at, short_literal_at, long_literal_at, byte_push_at, short_push_at, local_at, increment_at, short_branch_at, long_branch_at, member_at, class_at, index_and_two_at, interface_at, dynamic_at, array_at, multi_at, wide_local_at, wide_increment_at, wide_at, target_at, pair_at, bounds_at, table_from, count_at, lookup_from, padded_at, instr_at}

-- an instruction at an address, and its bytes there
pub record Row : Type 0 where
  pub at : ℕ
  pub instr : Instr
  pub bytes : List ℕ

abbrev pub row : ℕ → Instr → List ℕ → Row
row at instr bytes = record { at = at; instr = instr; bytes = bytes }

abbrev pub rows : List Row
rows =
    -- istore_1 and breakpoint
    row 0 (instrs.Simple 60) (60 ∷ [])
    ∷ row 5 (instrs.Simple 202) (202 ∷ [])
    -- bipush and sipush
    ∷ row 0 (instrs.Push 16 (negsuc 127)) (16 ∷ 128 ∷ [])
    ∷ row 0 (instrs.Push 16 (pos 127)) (16 ∷ 127 ∷ [])
    ∷ row 0 (instrs.Push 17 (pos 32767)) (17 ∷ 127 ∷ 255 ∷ [])
    ∷ row 0 (instrs.Push 17 (negsuc 1)) (17 ∷ 255 ∷ 254 ∷ [])
    -- ldc, ldc_w and ldc2_w
    ∷ row 0 (instrs.Literal 18 5) (18 ∷ 5 ∷ [])
    ∷ row 0 (instrs.Literal 19 258) (19 ∷ 1 ∷ 2 ∷ [])
    ∷ row 0 (instrs.Literal 20 258) (20 ∷ 1 ∷ 2 ∷ [])
    -- iload, astore and ret, and the wide ones
    ∷ row 0 (instrs.Local 21 5 false) (21 ∷ 5 ∷ [])
    ∷ row 0 (instrs.Local 58 200 false) (58 ∷ 200 ∷ [])
    ∷ row 0 (instrs.Local 169 5 false) (169 ∷ 5 ∷ [])
    ∷ row 0 (instrs.Local 21 256 true) (196 ∷ 21 ∷ 1 ∷ 0 ∷ [])
    ∷ row 0 (instrs.Local 58 5 true) (196 ∷ 58 ∷ 0 ∷ 5 ∷ [])
    ∷ row 0 (instrs.Local 169 258 true) (196 ∷ 169 ∷ 1 ∷ 2 ∷ [])
    -- iinc, and the wide one
    ∷ row 0 (instrs.Inc 1 (negsuc 0) false) (132 ∷ 1 ∷ 255 ∷ [])
    ∷ row 0 (instrs.Inc 1 (pos 256) true) (196 ∷ 132 ∷ 0 ∷ 1 ∷ 1 ∷ 0 ∷ [])
    ∷ row 0 (instrs.Inc 258 (negsuc 1) true) (196 ∷ 132 ∷ 1 ∷ 2 ∷ 255 ∷ 254 ∷ [])
    -- ifeq, goto, jsr and ifnonnull, on and back
    ∷ row 2 (instrs.Branch 153 (pos 260)) (153 ∷ 1 ∷ 2 ∷ [])
    ∷ row 2 (instrs.Branch 167 (pos 1)) (167 ∷ 255 ∷ 255 ∷ [])
    ∷ row 2 (instrs.Branch 168 (pos 5)) (168 ∷ 0 ∷ 3 ∷ [])
    ∷ row 2 (instrs.Branch 199 (pos 0)) (199 ∷ 255 ∷ 254 ∷ [])
    -- goto_w and jsr_w
    ∷ row 2 (instrs.Branch 200 (pos 16909062)) (200 ∷ 1 ∷ 2 ∷ 3 ∷ 4 ∷ [])
    ∷ row 2 (instrs.Branch 201 (pos 1)) (201 ∷ 255 ∷ 255 ∷ 255 ∷ 255 ∷ [])
    -- getstatic, putfield, invokevirtual and invokestatic
    ∷ row 0 (instrs.Member 178 258) (178 ∷ 1 ∷ 2 ∷ [])
    ∷ row 0 (instrs.Member 181 258) (181 ∷ 1 ∷ 2 ∷ [])
    ∷ row 0 (instrs.Member 182 258) (182 ∷ 1 ∷ 2 ∷ [])
    ∷ row 0 (instrs.Member 184 258) (184 ∷ 1 ∷ 2 ∷ [])
    -- invokeinterface and invokedynamic
    ∷ row 0 (instrs.Interface 258 1) (185 ∷ 1 ∷ 2 ∷ 1 ∷ 0 ∷ [])
    ∷ row 0 (instrs.Interface 258 255) (185 ∷ 1 ∷ 2 ∷ 255 ∷ 0 ∷ [])
    ∷ row 0 (instrs.Dynamic 258) (186 ∷ 1 ∷ 2 ∷ 0 ∷ 0 ∷ [])
    -- new, anewarray, checkcast and instanceof
    ∷ row 0 (instrs.Class 187 258) (187 ∷ 1 ∷ 2 ∷ [])
    ∷ row 0 (instrs.Class 189 258) (189 ∷ 1 ∷ 2 ∷ [])
    ∷ row 0 (instrs.Class 192 258) (192 ∷ 1 ∷ 2 ∷ [])
    ∷ row 0 (instrs.Class 193 258) (193 ∷ 1 ∷ 2 ∷ [])
    -- newarray and multianewarray
    ∷ row 0 (instrs.Array 8) (188 ∷ 8 ∷ [])
    ∷ row 0 (instrs.Multi 258 3) (197 ∷ 1 ∷ 2 ∷ 3 ∷ [])
    -- tableswitch, of 2 bytes of padding, of none and of one: of -1 and 0, of 7, and of 7
    ∷ row 1 (instrs.Table (negsuc 0) (pos 0) (pos 259 ∷ pos 1 ∷ [])) (170 ∷ 0 ∷ 0 ∷ 255 ∷ 255 ∷ 255 ∷ 255 ∷ 255 ∷ 255 ∷ 255 ∷ 255 ∷ 0 ∷ 0 ∷ 0 ∷ 0 ∷ 0 ∷ 0 ∷ 1 ∷ 2 ∷ 0 ∷ 0 ∷ 0 ∷ 0 ∷ [])
    ∷ row 3 (instrs.Table (pos 7) (pos 10) (pos 2 ∷ [])) (170 ∷ 0 ∷ 0 ∷ 0 ∷ 7 ∷ 0 ∷ 0 ∷ 0 ∷ 7 ∷ 0 ∷ 0 ∷ 0 ∷ 7 ∷ 255 ∷ 255 ∷ 255 ∷ 255 ∷ [])
    ∷ row 2 (instrs.Table (pos 7) (pos 2) (pos 3 ∷ [])) (170 ∷ 0 ∷ 0 ∷ 0 ∷ 0 ∷ 0 ∷ 0 ∷ 0 ∷ 0 ∷ 7 ∷ 0 ∷ 0 ∷ 0 ∷ 7 ∷ 0 ∷ 0 ∷ 0 ∷ 1 ∷ [])
    -- lookupswitch, of 3 bytes of padding and of one: of -2 and 258, and of none
    ∷ row 0 (instrs.Lookup (pos 9) ((negsuc 1, pos 3) ∷ (pos 258, pos 0) ∷ [])) (171 ∷ 0 ∷ 0 ∷ 0 ∷ 0 ∷ 0 ∷ 0 ∷ 9 ∷ 0 ∷ 0 ∷ 0 ∷ 2 ∷ 255 ∷ 255 ∷ 255 ∷ 254 ∷ 0 ∷ 0 ∷ 0 ∷ 3 ∷ 0 ∷ 0 ∷ 1 ∷ 2 ∷ 0 ∷ 0 ∷ 0 ∷ 0 ∷ [])
    ∷ row 2 (instrs.Lookup (pos 7) []) (171 ∷ 0 ∷ 0 ∷ 0 ∷ 0 ∷ 5 ∷ 0 ∷ 0 ∷ 0 ∷ 0 ∷ [])
    ∷ []

-- the code that ends with the bytes
abbrev pub code_of : Row → List ℕ
code_of r = replicate r.at 0 ++ r.bytes

-- these bytes are this instruction, and the next address is behind them
are_read : map (λ r. instr_at (cursor_at r.at (code_of r))) rows ≡ map (λ r. Ok (r.instr, cursor_at (r.at + length r.bytes) (code_of r))) rows
unfolding form_of instr_at s1_at s2_at s4_at short_literal_at long_literal_at byte_push_at short_push_at local_at increment_at short_branch_at long_branch_at member_at class_at index_and_two_at interface_at dynamic_at array_at multi_at wide_local_at wide_increment_at wide_at target_at pair_at bounds_at table_from count_at lookup_from padded_at many_at
are_read = refl

-- this instruction is these bytes
are_written : map (λ r. written r.at r.instr) rows ≡ map (λ r. r.bytes) rows
unfolding form_of
are_written = refl

-- ---- and no other

abbrev first : Result (Instr × Cursor) OpError → Option Instr
first (Ok x) = Some x.0
first (Err e) = None

-- new is no member, invokevirtual no class, ldc no push, and the byte after sipush is the high one
not_read : (first (instr_at (cursor_at 0 (187 ∷ 1 ∷ 2 ∷ []))) ≢ Some (instrs.Member 187 258))
    × (first (instr_at (cursor_at 0 (182 ∷ 1 ∷ 2 ∷ []))) ≢ Some (instrs.Class 182 258))
    × (first (instr_at (cursor_at 0 (18 ∷ 5 ∷ []))) ≢ Some (instrs.Push 18 (pos 5)))
    × (first (instr_at (cursor_at 0 (17 ∷ 127 ∷ 255 ∷ []))) ≢ Some (instrs.Push 17 (negsuc 128)))
unfolding form_of instr_at s2_at short_literal_at short_push_at member_at class_at
not_read = (λ e. absurd cc (e), λ e. absurd cc (e), λ e. absurd cc (e), λ e. absurd cc (e))

-- the padding is zeros and not other bytes, an offset is counted from the opcode and not from the operands, and wide stands before the opcode
not_written : (written 1 (instrs.Table (pos 7) (pos 2) (pos 3 ∷ [])) ≢ 170 ∷ 9 ∷ 9 ∷ 0 ∷ 0 ∷ 0 ∷ 1 ∷ 0 ∷ 0 ∷ 0 ∷ 7 ∷ 0 ∷ 0 ∷ 0 ∷ 7 ∷ 0 ∷ 0 ∷ 0 ∷ 2 ∷ [])
    × (written 2 (instrs.Branch 167 (pos 5)) ≢ 167 ∷ 0 ∷ 2 ∷ [])
    × (written 0 (instrs.Local 21 256 true) ≢ 21 ∷ 196 ∷ 1 ∷ 0 ∷ [])
    × (written 0 (instrs.Multi 258 3) ≢ 197 ∷ 3 ∷ 1 ∷ 2 ∷ [])
unfolding form_of
not_written = (λ e. absurd cc (e), λ e. absurd cc (e), λ e. absurd cc (e), λ e. absurd cc (e))
