use Rattle.std.proofs.Common.{◌≡◌, List, OnOk, subst}
use Rattle.std.proofs.lemmas.Result.{on_ok_weaker}
use Rattle.dj_names.specs.trusted.Types.{Name}
use Rattle.dj_class.specs.Views.{class_of}
use Rattle.dj_image.specs.Imaged.{program_of}
use Rattle.dj_report.specs.Lines.{Adds, IsLineAmong}
use Rattle.dj_rewrite.specs.Answers.{AnswersFile}
use Rattle.dj_rewrite.specs.Rule.{line_of}
use Rattle.dj_rewrite.proofs.TooLarges.{no_lines, lines_told}
use Rattle.dj_rewrite.proofs.lines.add_lines.Goals as goal

pub returns-in-Written : goal.returns-in-Written
returns-in-Written c =
    no_lines (program_of c.args.image.now) (class_of c.args.view.now) c.in-Written.field-0 c.args.found.now.items
    (subst (AnswersFile (program_of c.args.image.now) (class_of c.args.view.now)) c.in-Written.is c.in_ok-answer.ensures)

pub returns : goal.returns
returns c =
    let program = program_of c.args.image.now in
    let file = class_of c.args.view.now in
    let large = subst (AnswersFile program file) c.in-TooLarge.is c.in_ok-answer.ensures in
    on_ok_weaker c.add_member_lines.result (lines_told program file c.in-TooLarge.members.items c.args.found.now.items c.add_member_lines.new.found.items large)
    (subst (λ (members : List Name). OnOk c.add_member_lines.result (Adds (IsLineAmong (λ member v. v ≡ line_of file member) members) c.args.found.now.items c.add_member_lines.new.found.items))
    c.deref.ensures.value c.add_member_lines.ensures)
