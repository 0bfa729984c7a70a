use Rattle.std.proofs.Common.{◌+◌, ◌≤◌, length, refl, arith}
use Rattle.std.proofs.lemmas.Result.{err_from_is_err_and}
use Rattle.dj_pool.specs.Answers.{last_index}
use Rattle.dj_rename.proofs.Accounting.{room_after, accounter_grown, full_there, counted, failed}
use Rattle.dj_rename.proofs.accounter.append_accounter.Goals as goal

pub returns-then-as_slice : goal.returns-then-as_slice
returns-then-as_slice c = (refl, full_there c.args.now.now (omega (arith, c.if-as_slice.true, counted _ c.as_slice.result.now c.args.now.now c.as_slice.ensures)))

pub append_methods-requires-clause-room : goal.append_methods-requires-clause-room
append_methods-requires-clause-room c =
    let room : length c.args.now.now + 26 ≤ last_index = omega (arith, c.if-as_slice.false, counted _ c.as_slice.result.now c.args.now.now c.as_slice.ensures) in
    room_after c.args.now.now c.append_class.new.now c.next_index-first.result c.accounter_methods.result.now c.accounter_methods.ensures.count room c.in_ok-append_class.ensures.ok

pub append_methods-requires-clause-class : goal.append_methods-requires-clause-class
append_methods-requires-clause-class c = c.in_ok-append_class.ensures.class

pub returns : goal.returns
returns c = (
  c.next_index-first.ensures,
  accounter_grown c.args.now.now c.append_class.new.now c.append_methods.new.now c.next_index-first.result c.accounter_methods.result.now c.accounter_methods.ensures.constants
      c.next_index-first.ensures c.in_ok-append_class.ensures.ok c.in_ok-append_methods.ensures.ok,
  c.in_ok-append_methods.ensures.pool,
)

pub returns-in_err-append_class : goal.returns-in_err-append_class
returns-in_err-append_class c =
    let p = err_from_is_err_and c.from_residual.result c.from_residual.ensures.1 in
    failed c.args.now.now c.append_class.new.now c.from_residual.result p.0 _ p.1 p.2 c.in_err-append_class.ensures.err

pub returns-in_err-append_methods : goal.returns-in_err-append_methods
returns-in_err-append_methods c =
    let p = err_from_is_err_and c.from_residual-in_err-append_methods.result c.from_residual-in_err-append_methods.ensures.1 in
    failed c.args.now.now c.append_methods.new.now c.from_residual-in_err-append_methods.result p.0 _ p.1 p.2 c.in_err-append_methods.ensures.err
