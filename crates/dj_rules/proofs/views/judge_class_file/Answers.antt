use Rattle.std.proofs.Common.{◌≡◌, Option, ap, subst}
use Rattle.dj_class.specs.Views.{class_of}
use Rattle.dj_report.specs.trusted.Lines.{file_line}
use Rattle.dj_report.specs.Lines.{Adds}
use Rattle.dj_early_rules.specs.declared.good.GoodFile.{GoodFile}
use Rattle.dj_rules.specs.declared.files.JudgedFiles.{JudgedFiles}
use Rattle.dj_rules.specs.Late.{HasLent}
use Rattle.dj_rules.specs.Reported.{IsJudgedClass}
use Rattle.dj_rules.proofs.FileLaws.{faulty_class}
use Rattle.dj_rules.proofs.views.judge_class_file.Goals as goal

pub returns-in_ok-add_file_line-in-None : goal.returns-in_ok-add_file_line-in-None
returns-in_ok-add_file_line-in-None c =
    let class = class_of c.args.class.now in
    let path = c.args.file.now.path.now in
    let judged = subst (λ (part : Option GoodFile). IsJudgedClass path class (HasLent c.args.lent) c.args.found.now c.judge_class.new.found part) c.in-None.is c.in_ok-judged.ensures in
    record {
      refused = faulty_class c.args.file.now.bytes.now class c.requires.class judged.0;
      line = subst (λ (old : JudgedFiles). Adds (λ v. v ≡ file_line path 1) old.early.items c.add_file_line.new.found.items) judged.1 c.in_ok-add_file_line-in-None.ensures;
      nothing = ap (λ (f : JudgedFiles). f.late.items) judged.1;
    }
