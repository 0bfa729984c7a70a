use Rattle.dj_report.proofs.Adding.{adds_one_more}
use Rattle.dj_link_rules.proofs.FileLaws.{IsOwnLinkLine, all_link_lines}
use Rattle.dj_link_rules.proofs.files.add_lines_by.Goals as goal

pub add_file_lines-requires-clause-whole : goal.add_file_lines-requires-clause-whole
add_file_lines-requires-clause-whole c = c.requires.whole c.loop-file.file-index _ c.loop-file-test.true

pub loop-file-preserved : goal.loop-file-preserved
loop-file-preserved c =
    adds_one_more (IsOwnLinkLine c.args.linker.now.program) c.args.files.now c.loop-file.file-index _ c.args.found.now.items c.loop-file.found.items c.add_file_lines.new.found.items
    c.loop-file-test.true c.loop-file.invariant c.in_ok-add_file_lines.ensures

pub returns : goal.returns
returns c = all_link_lines c.args.linker.now.program c.args.files.now c.loop-file.file-index c.args.found.now.items c.loop-file.found.items c.loop-file-test.false c.loop-file.invariant
