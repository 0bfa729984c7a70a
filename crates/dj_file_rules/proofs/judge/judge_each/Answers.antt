use Rattle.dj_file_rules.proofs.Faulty.{only_none}
use Rattle.dj_file_rules.proofs.judge.judge_each.Goals as goal

pub returns : goal.returns
returns c = record { violations = c.in_ok-rules.ensures; only = only_none c.args.files.now c.requires.not_one }
