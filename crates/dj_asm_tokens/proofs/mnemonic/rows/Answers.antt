use Rattle.std.proofs.Common.{sym, ap, inl, inr, arith}
use Rattle.std.proofs.lemmas.Bool.{cases_lt}
use Rattle.dj_asm_tokens.proofs.TableLaws.{no_rows}
use Rattle.dj_asm_tokens.specs.trusted.Mnemonics.{mnemonics}
use Rattle.dj_asm_tokens.specs.Tables.{rows_of_length}
use Rattle.dj_asm_tokens.proofs.mnemonic.rows.Goals as goal

pub returns-in-3 : goal.returns-in-3
unfolding mnemonics
returns-in-3 c = ap rows_of_length (sym c.in-3.is)

pub returns-in-4 : goal.returns-in-4
unfolding mnemonics
returns-in-4 c = ap rows_of_length (sym c.in-4.is)

pub returns-in-5 : goal.returns-in-5
unfolding mnemonics
returns-in-5 c = ap rows_of_length (sym c.in-5.is)

pub returns-in-6 : goal.returns-in-6
unfolding mnemonics
returns-in-6 c = ap rows_of_length (sym c.in-6.is)

pub returns-in-7 : goal.returns-in-7
unfolding mnemonics
returns-in-7 c = ap rows_of_length (sym c.in-7.is)

pub returns-in-8 : goal.returns-in-8
unfolding mnemonics
returns-in-8 c = ap rows_of_length (sym c.in-8.is)

pub returns-in-9 : goal.returns-in-9
unfolding mnemonics
returns-in-9 c = ap rows_of_length (sym c.in-9.is)

pub returns-in-10 : goal.returns-in-10
unfolding mnemonics
returns-in-10 c = ap rows_of_length (sym c.in-10.is)

pub returns-in-11 : goal.returns-in-11
unfolding mnemonics
returns-in-11 c = ap rows_of_length (sym c.in-11.is)

pub returns-in-12 : goal.returns-in-12
unfolding mnemonics
returns-in-12 c = ap rows_of_length (sym c.in-12.is)

pub returns-in-13 : goal.returns-in-13
unfolding mnemonics
returns-in-13 c = ap rows_of_length (sym c.in-13.is)

pub returns-in-14 : goal.returns-in-14
unfolding mnemonics
returns-in-14 c = ap rows_of_length (sym c.in-14.is)

pub returns-in-15 : goal.returns-in-15
unfolding mnemonics
returns-in-15 c = ap rows_of_length (sym c.in-15.is)

pub returns-in_default : goal.returns-in_default
returns-in_default c =
    sym (no_rows c.args.length (elim (cases_lt c.args.length 3) [ inl h ↦ inl h | inr h ↦ elim (cases_lt 15 c.args.length) [ inl k ↦ inr k | inr k ↦ absurd (omega arith) ] ]))
