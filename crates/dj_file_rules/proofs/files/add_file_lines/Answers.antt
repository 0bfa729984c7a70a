use Rattle.std.proofs.Common.{subst}
use Rattle.dj_class.specs.Views.{class_of}
use Rattle.dj_report.proofs.Adding.{on_ok}
use Rattle.dj_file_rules.specs.Reads.{IsViewOf}
use Rattle.dj_file_rules.proofs.FileLines.{adds_class_file, adds_no_class_file}
use Rattle.dj_file_rules.proofs.Faulty.{short_name}
use Rattle.dj_file_rules.proofs.files.add_file_lines.Goals as goal

pub add_class_lines-requires : goal.add_class_lines-requires
add_class_lines-requires c =
    short_name c.args.file.now.bytes.now (class_of c.in-Class.class) (subst (IsViewOf c.args.file.now.bytes.now) c.in-Class.is c.requires)

pub returns-in-Class : goal.returns-in-Class
returns-in-Class c =
    on_ok c.add_class_lines.result
    (adds_class_file c.args.file.now.path.now c.args.file.now.bytes.now (class_of c.in-Class.class) c.args.found.now.items c.add_class_lines.new.found.items
    (subst (IsViewOf c.args.file.now.bytes.now) c.in-Class.is c.requires))
    c.add_class_lines.ensures

pub returns-in_ok-add_file_line-in-Malformed : goal.returns-in_ok-add_file_line-in-Malformed
returns-in_ok-add_file_line-in-Malformed c =
    adds_no_class_file c.args.file.now.path.now c.args.file.now.bytes.now c.args.found.now.items c.add_file_line.new.found.items
    (subst (IsViewOf c.args.file.now.bytes.now) c.in-Malformed.is c.requires) c.in_ok-add_file_line-in-Malformed.ensures
