-- An address of bytes has an instruction or a refusal, and one of them alone.
use Rattle.std.proofs.Common.{◌≡◌, ℕ, ◌<◌, ◌⊎◌, List, length, Result, Ok, Err, refl, arith, inl, inr}
use Rattle.dj_cursor.specs.Reading.{Cursor, cursor_at}
use Rattle.dj_cursor.proofs.Bytes.{IsBytes}
use Rattle.dj_ops.specs.declared.instruction.Instr.{Instr}
use Rattle.dj_ops.specs.declared.read.OpError.{OpError}
use Rattle.dj_ops.specs.Laws.{OneRefusal, NoInstructionWhereRefused, HasInstruction, HasRefusal, InstructionOrRefusal}
use Rattle.dj_ops.specs.Reading.{instr_at}
use Rattle.dj_ops.proofs.Whole.{what_is_read, reads_again, has_cause, cause_refuses}

one_error : {r : Result (Instr × Cursor) OpError} {a b : OpError} → r ≡ Err a → r ≡ Err b → a ≡ b
one_error p q = cc

pub one_refusal : OneRefusal
one_refusal code at a b fits lt p q = one_error (cause_refuses code at a fits lt p) (cause_refuses code at b fits lt q)

not_both : {r : Result (Instr × Cursor) OpError} {e : OpError} {x : Instr × Cursor} → r ≡ Err e → r ≡ Ok x → ⊥
not_both p q = absurd cc

pub no_instruction_where_refused : NoInstructionWhereRefused
no_instruction_where_refused code at next instr e fits stands cause =
    not_both (cause_refuses code at e fits (omega (arith, stands.later, stands.within)) cause) (reads_again code at instr next stands)

judged : (code : List ℕ) (at : ℕ) (r : Result (Instr × Cursor) OpError) → IsBytes code → at < length code → instr_at (cursor_at at code) ≡ r → HasInstruction code at ⊎ HasRefusal code at
judged code at (Ok x) fits lt e = inl (record { instr = x.0; next = x.1.place; stands = what_is_read code at x fits lt e })
judged code at (Err d) fits lt e = inr (record { error = d; cause = has_cause code at d fits lt e })

pub instruction_or_refusal : InstructionOrRefusal
instruction_or_refusal code at fits lt = judged code at (instr_at (cursor_at at code)) fits lt refl
