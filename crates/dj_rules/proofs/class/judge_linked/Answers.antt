use Rattle.std.proofs.Common.{◌∙◌, Some}
use Rattle.dj_edge.proofs.Lists.{ok_so}
use Rattle.dj_class.specs.Views.{class_of}
use Rattle.dj_rules.specs.Late.{HasLent}
use Rattle.dj_rules.proofs.ClassLaws.{methods_by}
use Rattle.dj_rules.proofs.class.judge_linked.Goals as goal

pub returns : goal.returns
returns c =
    ok_so c.judge_methods.result _ _
    (λ judged reported. methods_by (class_of c.args.view.now) (HasLent (Some c.args.lent)) _ c.args.texts.now judged (λ program has. c.classes-table.ensures ∙ has) reported)
    c.judge_methods.ensures
