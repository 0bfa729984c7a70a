use Rattle.dj_rules.specs.Late.{HasLent}
use Rattle.dj_rules.proofs.FileLaws.{reported_file}
use Rattle.dj_rules.proofs.files.judge_in_order.Goals as goal

pub returns : goal.returns
returns c =
    reported_file c.args.file.now (HasLent c.args.lent) c.judge_file.new.found (record { early = c.new.result; late = c.new-2.result }) c.args.found.now (record { early = c.add_in_order.new.found; late = c.add_in_order-2.new.found }) c.in_ok-good.good
    c.new.ensures.items c.new-2.ensures.items c.in_ok-good.ensures c.in_ok-add_in_order.ensures c.in_ok-add_in_order-2.ensures
