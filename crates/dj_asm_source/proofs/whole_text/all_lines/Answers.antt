use Rattle.std.proofs.Common.{Bool, true, Ok, sym, subst}
use Rattle.std.proofs.lemmas.Result.{err_from_is_err_and}
use Rattle.dj_asm_source.specs.Unread.{UnreadLines}
use Rattle.dj_asm_source.specs.SourceLines.{TextLines}
use Rattle.dj_asm_source.specs.Readings.{no_lines, IsReading, GoesOn}
use Rattle.dj_asm_source.proofs.ReadingLaws.{starts}
use Rattle.dj_asm_source.proofs.whole_text.all_lines.Goals as goal

pub loop-read-init : goal.loop-read-init
loop-read-init c =
    subst (λ (read : TextLines). IsReading c.args.text.now read c.new-unread.result) (sym c.in_ok-read.ensures)
    (subst (λ (left : UnreadLines). IsReading c.args.text.now no_lines left) (sym c.new-unread.ensures) (starts c.args.text.now))

pub returns-in_err-put_row-clause-refused : goal.returns-in_err-put_row-clause-refused
returns-in_err-put_row-clause-refused c =
    let p = err_from_is_err_and c.from_residual-in_err-put_row.result c.from_residual-in_err-put_row.ensures.1 in
    rw (p.1, p.2) (c.in_err-put_row.ensures c.args.text.now c.loop-read.invariant)

pub loop-read-smaller : goal.loop-read-smaller
loop-read-smaller c =
    let goes : GoesOn c.args.text.now c.put_row.new.read c.loop-read.unread c.put_row.new.unread (Ok true) =
    subst (λ (more : Bool). GoesOn c.args.text.now c.put_row.new.read c.loop-read.unread c.put_row.new.unread (Ok more)) c.if-branch.true
    (c.in_ok-put_row.ensures c.args.text.now c.loop-read.invariant) in
    goes.1

pub loop-read-preserved : goal.loop-read-preserved
loop-read-preserved c =
    let goes : GoesOn c.args.text.now c.put_row.new.read c.loop-read.unread c.put_row.new.unread (Ok true) =
    subst (λ (more : Bool). GoesOn c.args.text.now c.put_row.new.read c.loop-read.unread c.put_row.new.unread (Ok more)) c.if-branch.true
    (c.in_ok-put_row.ensures c.args.text.now c.loop-read.invariant) in
    goes.0

pub returns-clause-read : goal.returns-clause-read
returns-clause-read c =
    subst (λ (more : Bool). GoesOn c.args.text.now c.put_row.new.read c.loop-read.unread c.put_row.new.unread (Ok more)) c.if-branch.false
    (c.in_ok-put_row.ensures c.args.text.now c.loop-read.invariant)
