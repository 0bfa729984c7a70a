use Rattle.dj_rename.proofs.Accounting.{name_good, class_good, class_ends, class_names}
use Rattle.dj_rename.proofs.accounter.append_class.Goals as goal

pub append_one-requires-clause-valid : goal.append_one-requires-clause-valid
append_one-requires-clause-valid c = name_good c.args.now.now

pub append_one-requires-2-clause-valid : goal.append_one-requires-2-clause-valid
append_one-requires-2-clause-valid c = class_good c.args.now.now c.append_one.new.now c.args.first c.requires.room c.requires.first c.in_ok-append_one.ensures.ok

pub returns-clause-ok : goal.returns-clause-ok
returns-clause-ok c = class_ends c.append_one-2.result c.args.now.now c.append_one.new.now c.append_one-2.new.now c.args.first c.in_ok-append_one.ensures.ok c.append_one-2.ensures.ok

pub returns-clause-class : goal.returns-clause-class
returns-clause-class c =
    class_names c.append_one-2.result c.args.now.now c.append_one.new.now c.append_one-2.new.now c.args.first c.requires.first c.in_ok-append_one.ensures.ok c.append_one-2.ensures.ok
