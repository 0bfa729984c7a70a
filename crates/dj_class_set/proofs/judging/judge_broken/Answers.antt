use Rattle.std.proofs.Common.{map}
use Rattle.dj_file_rules.specs.Views.{path_file_view}
use Rattle.dj_class_set.proofs.LateLaws.{early_alone}
use Rattle.dj_class_set.proofs.judging.judge_broken.Goals as goal

pub returns : goal.returns
returns c = λ library. record {
  lines = early_alone library (map path_file_view c.args.files.now) c.in_ok-early.field-0.early.items c.in_ok-early.ensures.early c.requires.broken;
  linked = c.requires.broken;
}
