use Rattle.std.proofs.Common.{List, [], ◌∙◌, sym, subst}
use Rattle.dj_class.specs.Views.{class_of}
use Rattle.dj_report.specs.Lines.{Gains}
use Rattle.dj_early_rules.specs.declared.judged.JudgedText.{JudgedText}
use Rattle.dj_early_rules.specs.Judged.{AreTexts}
use Rattle.dj_early_rules.specs.Marks.{AreMarksOf}
use Rattle.dj_early_rules.specs.trusted.Methods.{MethodViolates}
use Rattle.dj_rules.specs.Late.{HasLent}
use Rattle.dj_rules.specs.Reported.{AreJudgedMethods}
use Rattle.dj_rules.proofs.ClassLaws.{not_faulty, own_lines_by}
use Rattle.dj_rules.proofs.class.judge_class.Goals as goal

pub add_lines-requires-clause-marks : goal.add_lines-requires-clause-marks
add_lines-requires-clause-marks c =
    let class = class_of c.args.view.now in
    let reported = subst (AreJudgedMethods class (HasLent c.args.lent) c.deref.result.now) c.in-Some.is c.in_ok-marks.ensures in
    subst (λ (ts : List JudgedText). Gains (AreMarksOf ts (MethodViolates class) class.methods) [] c.in-Some.marks.early.items) (c.deref.ensures.value ∙ sym c.deref-in-Some.ensures.value) reported.early

pub returns-in-Some : goal.returns-in-Some
returns-in-Some c =
    let class = class_of c.args.view.now in
    let reported = subst (AreJudgedMethods class (HasLent c.args.lent) c.deref.result.now) c.in-Some.is c.in_ok-marks.ensures in
    let are = subst (AreTexts class.pool) (sym c.deref.ensures.value) c.in_ok-texts.ensures.texts in (
      not_faulty class c.in_ok-faulty.faulty c.in_ok-faulty.ensures c.if-faulty.false reported.sound,
      (
        c.in_ok-good_file-in-Some.ensures,
        own_lines_by c.args.path.now class (HasLent c.args.lent) c.deref.result.now c.in-Some.marks c.args.found.now c.add_lines.new.found are reported c.in_ok-add_lines-in-Some.ensures.early c.in_ok-add_lines-in-Some.ensures.late,
      ),
    )
