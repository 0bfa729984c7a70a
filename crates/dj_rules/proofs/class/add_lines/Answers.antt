use Rattle.std.proofs.Common.{arith}
use Rattle.dj_pool.proofs.ShortTexts.{class_name_short}
use Rattle.dj_class.specs.Views.{class_of}
use Rattle.dj_report.proofs.Adding.{on_ok}
use Rattle.dj_rules.proofs.FileLaws.{all_mark_lines, own_lines}
use Rattle.dj_rules.proofs.class.add_lines.Goals as goal

pub add_class_lines-requires : goal.add_class_lines-requires
add_class_lines-requires c =
    let short = class_name_short c.args.view.now.pool c.args.view.now.this_class c.requires.valid.pool in
    omega (arith, short)

pub returns-clause-early : goal.returns-clause-early
returns-clause-early c =
    let class = class_of c.args.view.now in
    let path = c.args.path.now in
    let x0 = c.args.found.now.early.items in
    let x1 = c.add_class_lines.new.found.items in
    let x2 = c.add_naming_lines.new.found.items in
    let x3 = c.add_mark_lines.new.found.items in
    on_ok c.add_mark_lines-2.result
    (λ last. own_lines path class x0 x1 x2 x3 c.in_ok-add_class_lines.ensures c.in_ok-add_naming_lines.ensures
    (all_mark_lines c.args.texts.now path class c.args.marks.early.items c.add_field_marks.new.marks.items x2 x3 c.requires.texts c.requires.marks c.in_ok-add_field_marks.ensures c.in_ok-add_mark_lines.ensures))
    c.add_mark_lines-2.ensures
