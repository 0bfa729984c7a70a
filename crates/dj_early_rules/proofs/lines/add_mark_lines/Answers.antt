use Rattle.std.proofs.Common.{List, subst}
use Rattle.dj_report.specs.Lines.{Adds, IsLineAmong}
use Rattle.dj_report.proofs.Adding.{on_ok, adds_same}
use Rattle.dj_early_rules.specs.declared.marks.Mark.{Mark}
use Rattle.dj_early_rules.specs.Marks.{IsMarkLine}
use Rattle.dj_early_rules.proofs.lines.add_mark_lines.Goals as goal

pub returns : goal.returns
returns c =
    let IsOwn = IsMarkLine c.args.path.now c.args.pool.now in
    on_ok c.add_each_line.result
    (λ added. adds_same (IsLineAmong IsOwn c.each_once-once.result.items) (IsLineAmong IsOwn c.args.marks.items) c.args.found.now.items c.add_each_line.new.found.items
    (λ v. (
      λ any. (any.0, (c.each_once-once.ensures any.0).0 any.1, any.2),
      λ any. (any.0, (c.each_once-once.ensures any.0).1 any.1, any.2),
    ))
    (subst (λ (marks : List Mark). Adds (IsLineAmong IsOwn marks) c.args.found.now.items c.add_each_line.new.found.items) c.deref.ensures.value added))
    c.add_each_line.ensures
