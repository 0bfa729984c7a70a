use Rattle.std.proofs.Common.{subst, sym}
use Rattle.dj_step.specs.Running.{GoesOn}
use Rattle.dj_step.proofs.BeginLaws.{begun_now, heap_full, is_machine, too_deep}
use Rattle.dj_step.proofs.machine.begin.Goals as goal
use Rattle.dj_step.proofs.machine.begin.Goals.{in-Ready, in-Waits}

pub returns-in-TooDeep-clause-ends : goal.returns-in-TooDeep-clause-ends
returns-in-TooDeep-clause-ends c =
    too_deep c.args.image.now c.args.entry.number c.args.input.now c.args.heap_limit c.args.limits c.args.heap c.args.frames c.requires.heap c.requires.frames c.in_ok-run.run'
    c.in_ok-run.prepared c.in_ok-run.ensures c.in-TooDeep.is

pub returns-in-HeapFull-clause-ends : goal.returns-in-HeapFull-clause-ends
returns-in-HeapFull-clause-ends c =
    heap_full c.args.image.now c.args.entry.number c.args.input.now c.args.heap_limit c.args.limits c.args.heap c.args.frames c.requires.heap c.requires.frames c.in_ok-run.run'
    c.in_ok-run.prepared c.in_ok-run.ensures c.in-HeapFull.used c.in-HeapFull.size c.in-HeapFull.is

pub invariant_of-result : goal.invariant_of-result
invariant_of-result c =
    let on : GoesOn c.in_ok-run.prepared = elim c.match-prepared.branch [
      | in-Ready w ↦ subst GoesOn (sym w.in-Ready.is) tt
      | in-Waits w ↦ subst GoesOn (sym w.in-Waits.is) tt
    ] in
    is_machine c.args.image.now c.args.entry.number c.args.input.now c.args.heap_limit c.args.limits c.args.heap c.args.frames c.requires.heap c.requires.frames c.in_ok-run.run'
    c.in_ok-run.prepared c.in_ok-run.ensures c.in_ok-tables.tables c.in_ok-tables.ensures c.requires.entry on

pub returns-clause-begins : goal.returns-clause-begins
returns-clause-begins c =
    let on : GoesOn c.in_ok-run.prepared = elim c.match-prepared.branch [
      | in-Ready w ↦ subst GoesOn (sym w.in-Ready.is) tt
      | in-Waits w ↦ subst GoesOn (sym w.in-Waits.is) tt
    ] in
    begun_now c.args.image.now c.args.entry.number c.args.input.now c.args.heap_limit c.args.limits c.args.heap c.args.frames c.requires.heap c.requires.frames c.in_ok-run.run'
    c.in_ok-run.prepared c.in_ok-run.ensures on
