use Rattle.std.proofs.Common.{subst, inr}
use Rattle.dj_class.specs.trusted.ClassFile.{IsClassFile}
use Rattle.dj_class.specs.Views.{class_of}
use Rattle.dj_report.proofs.Adding.{on_ok}
use Rattle.dj_file_rules.specs.declared.view.FileView.{FileView}
use Rattle.dj_file_rules.specs.Reads.{IsViewOf}
use Rattle.dj_early_rules.specs.trusted.Malformed.{IsGood}
use Rattle.dj_link_rules.proofs.FileLaws.{file_lines}
use Rattle.dj_link_rules.proofs.class.add_view_lines.Goals as goal

pub returns : goal.returns
returns c =
    let class = class_of c.in-Class.class in
    let bytes = c.args.file.now.bytes.now in
    let file : IsClassFile bytes class = subst (λ (view : FileView). IsViewOf bytes view) c.in-Class.is c.requires.view in
    let good : IsGood bytes class = record { file = file; whole = λ faulty. c.requires.whole (inr (class, file, faulty)) } in
    on_ok c.add_class_lines.result
    (file_lines c.args.linker.now.program c.args.file.now.path.now bytes class c.args.found.now.items c.add_class_lines.new.found.items good)
    c.add_class_lines.ensures
