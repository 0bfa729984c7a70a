use Rattle.std.proofs.Common.{List, [], subst}
use Rattle.dj_class.specs.Views.{class_of}
use Rattle.dj_report.specs.Lines.{Gains}
use Rattle.dj_model.specs.trusted.Program.{Program}
use Rattle.dj_early_rules.specs.declared.judged.JudgedText.{JudgedText}
use Rattle.dj_early_rules.specs.declared.marks.Mark.{Mark}
use Rattle.dj_early_rules.specs.Marks.{AreMarksOf}
use Rattle.dj_link_rules.specs.trusted.Lines.{MethodLinkViolates}
use Rattle.dj_link_rules.proofs.FileLaws.{mark_lines}
use Rattle.dj_link_rules.proofs.class.add_class_lines.Goals as goal

pub returns : goal.returns
returns c =
    let class = class_of c.args.view.now in
    let program = c.args.linker.now.program in
    let texts = c.in_ok-texts.texts.items in
    let none = c.new-marks.result.items in
    let marks = c.add_method_marks.new.marks.items in
    let gains : Gains (AreMarksOf texts (MethodLinkViolates program class) class.methods) [] marks =
    subst (λ (old : List Mark). Gains (AreMarksOf texts (MethodLinkViolates program class) class.methods) old marks) c.new-marks.ensures.items
    (subst (λ (p : Program). Gains (AreMarksOf texts (MethodLinkViolates p class) class.methods) none marks) c.classes.ensures
    (subst (λ (ts : List JudgedText). Gains (AreMarksOf ts (MethodLinkViolates c.classes.result.now class) class.methods) none marks) c.deref-2.ensures.value c.in_ok-add_method_marks.ensures)) in
    mark_lines texts (MethodLinkViolates program class) c.args.path.now class marks c.args.found.now.items c.add_mark_lines.new.found.items c.in_ok-texts.ensures.texts gains c.in_ok-add_mark_lines.ensures
