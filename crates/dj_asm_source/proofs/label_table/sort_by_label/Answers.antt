use Rattle.std.proofs.Common.{rules}
use Rattle.dj_asm_source.specs.LabelViews.{is_label_before}
use Rattle.dj_asm_source.proofs.LabelTables.{compares_labels}
use Rattle.dj_asm_source.proofs.label_table.sort_by_label.Goals as goal

pub returns-clause-sorted : goal.returns-clause-sorted
returns-clause-sorted c =
    let order = compares_labels c.args.lines.now (λ a r q k. search rules) in
    c.in_ok-sort_by.ensures.sorted (is_label_before c.args.lines.now) order.0 order.1

pub returns-clause-stable : goal.returns-clause-stable
returns-clause-stable c =
    let order = compares_labels c.args.lines.now (λ a r q k. search rules) in
    c.sort_by.ensures.stable (is_label_before c.args.lines.now) order.0 order.1
