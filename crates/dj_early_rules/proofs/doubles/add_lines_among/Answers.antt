use Rattle.std.proofs.Common.{List, subst}
use Rattle.std.proofs.lemmas.List.{take_all}
use Rattle.dj_report.specs.Lines.{Adds, IsLineAmong}
use Rattle.dj_report.proofs.Adding.{adds_one_more}
use Rattle.dj_early_rules.specs.declared.doubles.NamedFile.{NamedFile}
use Rattle.dj_early_rules.specs.Doubles.{texts_in, IsLineAmongNames}
use Rattle.dj_early_rules.proofs.DoubleLaws.{line_by_name}
use Rattle.dj_early_rules.proofs.doubles.add_lines_among.Goals as goal

pub loop-file-preserved : goal.loop-file-preserved
loop-file-preserved c =
    let names = texts_in c.args.names.now in
    adds_one_more (IsLineAmongNames names) c.args.files.now c.loop-file.file-index _ c.args.found.now.items c.loop-file.found.items c.add_file_line_if.new.found.items
    c.loop-file-test.true c.loop-file.invariant
    (line_by_name names _ c.is_named_among-double.result c.loop-file.found.items c.add_file_line_if.new.found.items c.is_named_among-double.ensures c.in_ok-add_file_line_if.ensures)

pub returns : goal.returns
returns c =
    let names = texts_in c.args.names.now in
    subst (λ (files : List NamedFile). Adds (IsLineAmong (IsLineAmongNames names) files) c.args.found.now.items c.loop-file.found.items)
    (take_all c.loop-file.file-index c.args.files.now c.loop-file-test.false) c.loop-file.invariant
