use Rattle.std.proofs.Common.{◌<◌, length, sym, subst, arith}
use Rattle.std.proofs.lemmas.Result.{err_from_is_err_and}
use Rattle.dj_labels.specs.Passes.{AreNumbered}
use Rattle.dj_labels.proofs.InstrLaws.{numbered_none, numbered_more, numbered_fault, numbered_all}
use Rattle.dj_labels.proofs.labelling.number_instrs.Goals as goal

pub loop-number-init : goal.loop-number-init
loop-number-init c = numbered_none c.args.table.now.starts.items c.args.instrs.items

pub returns-in_err-renumber-clause-refused : goal.returns-in_err-renumber-clause-refused
returns-in_err-renumber-clause-refused c =
    let p = err_from_is_err_and c.from_residual.result c.from_residual.ensures.1 in
    let starts = c.args.table.now.starts.items in
    let lt : c.loop-number.number < length c.args.instrs.items = omega (arith, c.loop-number-test.true, c.len-number-end.ensures) in
    rw (p.1, p.2) (numbered_fault starts c.args.instrs.items c.loop-number.numbered.items c.loop-number.number c.index-at.result.now c.index_mut.result.now c.in_err-renumber.field-0.0 (omega (arith, lt, c.requires.many)) c.index-at.ensures lt
    c.index_mut.ensures.value c.loop-number.invariant c.in_err-renumber.ensures.refused)

pub loop-number-preserved : goal.loop-number-preserved
loop-number-preserved c =
    let lt : c.loop-number.number < length c.args.instrs.items = omega (arith, c.loop-number-test.true, c.len-number-end.ensures) in
    numbered_more c.args.table.now.starts.items c.args.instrs.items c.loop-number.numbered.items c.loop-number.number c.index_mut.result.now c.renumber.new.instr lt c.index_mut.ensures.value c.loop-number.invariant c.in_ok-renumber.ensures.found

pub returns-clause-numbered : goal.returns-clause-numbered
returns-clause-numbered c =
    let past = c.loop-number-test.false in
    let end = c.len-number-end.ensures in
    subst (AreNumbered c.args.table.now.starts.items c.args.instrs.items) (sym c.from_vec.ensures)
    (numbered_all c.args.table.now.starts.items c.args.instrs.items c.loop-number.numbered.items c.loop-number.number (omega (arith, past, end)) c.loop-number.invariant)
