use Rattle.std.proofs.Common.{ℕ, ◌<◌, List, length, arith}
use Rattle.std.proofs.lemmas.Result.{err_from_is_err_and}
use Rattle.dj_ops.specs.declared.instruction.Instr.{Instr}
use Rattle.dj_labels.specs.trusted.Labels.{address_of}
use Rattle.dj_layout.proofs.Passing.{starts_many, placed_there, written_more, written_whole, first_far}
use Rattle.dj_layout.proofs.bytes.write_instrs.Goals as goal

pub returns-in_err-write_nth-clause-refused : goal.returns-in_err-write_nth-clause-refused
returns-in_err-write_nth-clause-refused c =
    let starts : List ℕ = c.args.starts.now in
    let instrs : List Instr = c.args.instrs.now in
    let bound : c.loop-i.i < length starts = omega (arith, c.loop-i-test.true, starts_many instrs starts c.requires.starts) in
    let there = placed_there (address_of starts) starts instrs c.loop-i.i bound c.loop-i-test.true in
    let p = err_from_is_err_and c.from_residual.result c.from_residual.ensures.1 in
    rw (p.1, p.2) (first_far starts instrs c.loop-i.i c.loop-i.out.items c.write_nth.new.out.items there.0 c.in_err-write_nth.field-0.0 there.1 c.loop-i.invariant (c.in_err-write_nth.ensures there.0 there.1))

pub loop-i-preserved : goal.loop-i-preserved
loop-i-preserved c =
    let starts : List ℕ = c.args.starts.now in
    let instrs : List Instr = c.args.instrs.now in
    let bound : c.loop-i.i < length starts = omega (arith, c.loop-i-test.true, starts_many instrs starts c.requires.starts) in
    let there = placed_there (address_of starts) starts instrs c.loop-i.i bound c.loop-i-test.true in
    let one = c.in_ok-write_nth.ensures there.0 there.1 in
    written_more starts instrs c.loop-i.i c.loop-i.out.items c.write_nth.new.out.items there.0 there.1 c.loop-i.invariant one.0 one.1

pub returns-clause-bytes : goal.returns-clause-bytes
returns-clause-bytes c =
    written_whole c.args.starts.now c.args.instrs.now c.loop-i.i c.loop-i.out.items (starts_many c.args.instrs.now c.args.starts.now c.requires.starts) c.loop-i-test.false c.loop-i.invariant
