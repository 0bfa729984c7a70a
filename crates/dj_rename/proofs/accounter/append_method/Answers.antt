use Rattle.dj_rename.proofs.Accounting.{names_good, call_good, call_ends}
use Rattle.dj_rename.proofs.accounter.append_method.Goals as goal

pub append_one-requires-3-clause-valid : goal.append_one-requires-3-clause-valid
append_one-requires-3-clause-valid c =
    names_good c.args.now.now c.append_one.new.now c.append_one-2.new.now c.args.method c.next_index-at.result c.requires.texts c.requires.room c.next_index-at.ensures
    c.in_ok-append_one.ensures.ok c.in_ok-append_one-2.ensures.ok

pub append_one-requires-4-clause-valid : goal.append_one-requires-4-clause-valid
append_one-requires-4-clause-valid c =
    call_good c.args.now.now c.append_one.new.now c.append_one-2.new.now c.append_one-3.new.now c.args.method c.args.class c.next_index-at.result c.requires.texts c.requires.room
    c.next_index-at.ensures c.ranges.class.fits c.requires.class c.in_ok-append_one.ensures.ok c.in_ok-append_one-2.ensures.ok c.in_ok-append_one-3.ensures.ok

pub returns-clause-ok : goal.returns-clause-ok
returns-clause-ok c =
    call_ends c.append_one-4.result c.args.now.now c.append_one.new.now c.append_one-2.new.now c.append_one-3.new.now c.append_one-4.new.now c.args.method c.args.class
    c.next_index-at.result c.next_index-at.ensures c.in_ok-append_one.ensures.ok c.in_ok-append_one-2.ensures.ok c.in_ok-append_one-3.ensures.ok c.append_one-4.ensures.ok
