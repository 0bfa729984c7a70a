use Rattle.std.proofs.Common.{ℕ, List, [], sym, subst, arith}
use Rattle.std.proofs.lemmas.Result.{err_from_is_err_and}
use Rattle.dj_ops.specs.declared.instruction.Instr.{Instr}
use Rattle.dj_labels.proofs.Steps.{ReadUpTo, read_none, read_more, read_all, read_fault}
use Rattle.dj_labels.proofs.starts.read_code.Goals as goal

pub loop-at-init : goal.loop-at-init
loop-at-init c =
    subst (λ (starts : List ℕ). ReadUpTo c.args.code.now starts c.new-instrs.result.items 0) (sym c.new-starts.ensures.items)
    (subst (λ (instrs : List Instr). ReadUpTo c.args.code.now [] instrs 0) (sym c.new-instrs.ensures.items) (read_none c.args.code.now))

pub returns-in_err-instr-clause-refused : goal.returns-in_err-instr-clause-refused
returns-in_err-instr-clause-refused c =
    let p = err_from_is_err_and c.from_residual.result c.from_residual.ensures.1 in
    rw (p.1, p.2) (read_fault c.args.code.now c.loop-at.starts.items c.loop-at.instrs.items c.loop-at.at c.in_err-instr.field-0.0 c.loop-at.invariant c.loop-at-test.true c.in_err-instr.ensures.refused)

pub loop-at-smaller : goal.loop-at-smaller
loop-at-smaller c = omega (arith, c.loop-at-test.true, c.in_ok-instr.ensures.stands.later, c.in_ok-instr.ensures.stands.within)

pub loop-at-preserved : goal.loop-at-preserved
loop-at-preserved c =
    rw (c.in_ok-push.ensures.items, c.in_ok-push-2.ensures.items)
    (read_more c.args.code.now c.loop-at.starts.items c.loop-at.instrs.items c.loop-at.at c.in_ok-instr.next c.in_ok-instr.instr c.loop-at.invariant c.in_ok-instr.ensures.stands)

pub returns-clause-read : goal.returns-clause-read
returns-clause-read c = rw (c.shrink_to_fit.ensures.items, c.shrink_to_fit-2.ensures.items) (read_all c.args.code.now c.loop-at.starts.items c.loop-at.instrs.items c.loop-at.at c.loop-at.invariant c.loop-at-test.false)
