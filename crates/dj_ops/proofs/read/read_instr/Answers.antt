use Rattle.std.proofs.Common.{ap, sym, subst, ◌∙◌, arith}
use Rattle.std.proofs.lemmas.Result.{err_from_is_err_and}
use Rattle.dj_cursor.specs.Steps.{Fails}
use Rattle.dj_cursor.specs.Reading.{Cursor}
use Rattle.dj_cursor.specs.Views.{cursor_of}
use Rattle.dj_ops.specs.declared.instruction.Instr.TheVariants.{Simple}
use Rattle.dj_ops.specs.Reading.{is_memory, instr_at}
use Rattle.dj_ops.proofs.Whole.{what_is_read, read_all_read, read_all_refused, failed_all_read, failed_refused, failed_all_refused}
use Rattle.dj_ops.proofs.read.read_instr.Goals as goal

pub returns-clause-read : goal.returns-clause-read
returns-clause-read c =
    what_is_read c.args.code.now c.args.at (c.in_ok-instr.instr, cursor_of c.in_ok-instr.after) (λ i. omega (arith, c.type_inv.code i)) c.requires.within (ap instr_at (sym c.at-cursor.ensures) ∙ c.in_ok-instr.ensures)

pub returns-clause-all_read : goal.returns-clause-all_read
returns-clause-all_read c =
    read_all_read c.args.code.now c.args.at (c.in_ok-instr.instr, cursor_of c.in_ok-instr.after) (ap instr_at (sym c.at-cursor.ensures) ∙ c.in_ok-instr.ensures)

pub returns-clause-all_refused : goal.returns-clause-all_refused
returns-clause-all_refused c =
    read_all_refused c.args.code.now c.args.at (c.in_ok-instr.instr, cursor_of c.in_ok-instr.after) (λ i. omega (arith, c.type_inv.code i)) c.requires.within (ap instr_at (sym c.at-cursor.ensures) ∙ c.in_ok-instr.ensures)

pub returns-in_err-instr-clause-all_read : goal.returns-in_err-instr-clause-all_read
returns-in_err-instr-clause-all_read c =
    let p = err_from_is_err_and c.from_residual.result c.from_residual.ensures.1 in
    rw (p.1, p.2) (failed_all_read c.args.code.now c.args.at c.in_err-instr.field-0.0 (subst (λ (k : Cursor). Fails (is_memory c.in_err-instr.field-0.0) c.in_err-instr.field-0.0 (instr_at k)) c.at-cursor.ensures c.in_err-instr.ensures))

pub returns-in_err-instr-clause-refused : goal.returns-in_err-instr-clause-refused
returns-in_err-instr-clause-refused c =
    let p = err_from_is_err_and c.from_residual.result c.from_residual.ensures.1 in
    rw (p.1, p.2) (failed_refused c.args.code.now c.args.at c.in_err-instr.field-0.0 (λ i. omega (arith, c.type_inv.code i)) c.requires.within (subst (λ (k : Cursor). Fails (is_memory c.in_err-instr.field-0.0) c.in_err-instr.field-0.0 (instr_at k)) c.at-cursor.ensures c.in_err-instr.ensures))

pub returns-in_err-instr-clause-all_refused : goal.returns-in_err-instr-clause-all_refused
returns-in_err-instr-clause-all_refused c =
    let p = err_from_is_err_and c.from_residual.result c.from_residual.ensures.1 in
    rw (p.1, p.2) (failed_all_refused c.args.code.now c.args.at c.in_err-instr.field-0.0 (λ i. omega (arith, c.type_inv.code i)) c.requires.within (subst (λ (k : Cursor). Fails (is_memory c.in_err-instr.field-0.0) c.in_err-instr.field-0.0 (instr_at k)) c.at-cursor.ensures c.in_err-instr.ensures))

pub returns-in-Some-clause-read : goal.returns-in-Some-clause-read
returns-in-Some-clause-read c =
    what_is_read c.args.code.now c.args.at (Simple c.in-Some.op, cursor_of c.in-Some.after) (λ i. omega (arith, c.type_inv.code i)) c.requires.within (ap instr_at (sym c.at-cursor.ensures) ∙ c.in-Some.ensures)

pub returns-in-Some-clause-all_read : goal.returns-in-Some-clause-all_read
returns-in-Some-clause-all_read c =
    read_all_read c.args.code.now c.args.at (Simple c.in-Some.op, cursor_of c.in-Some.after) (ap instr_at (sym c.at-cursor.ensures) ∙ c.in-Some.ensures)

pub returns-in-Some-clause-all_refused : goal.returns-in-Some-clause-all_refused
returns-in-Some-clause-all_refused c =
    read_all_refused c.args.code.now c.args.at (Simple c.in-Some.op, cursor_of c.in-Some.after) (λ i. omega (arith, c.type_inv.code i)) c.requires.within (ap instr_at (sym c.at-cursor.ensures) ∙ c.in-Some.ensures)
