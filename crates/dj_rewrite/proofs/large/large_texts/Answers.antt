use Rattle.std.proofs.Common.{List, subst}
use Rattle.dj_names.specs.trusted.Types.{Name}
use Rattle.dj_class.specs.Views.{class_of}
use Rattle.dj_report.specs.Lines.{Gains}
use Rattle.dj_rewrite.specs.Steps.{AreLargeTexts}
use Rattle.dj_rewrite.proofs.LargeTexts.{texts_tell}
use Rattle.dj_rewrite.proofs.large.large_texts.Goals as goal

pub returns : goal.returns
returns c =
    texts_tell (class_of c.args.view.now) c.args.class c.args.answers.now c.add_texts.new.texts.items
    (subst (λ (start : List Name). Gains (AreLargeTexts (class_of c.args.view.now) c.args.answers.now) start c.add_texts.new.texts.items) c.in_ok-texts.ensures c.in_ok-add_texts.ensures)
