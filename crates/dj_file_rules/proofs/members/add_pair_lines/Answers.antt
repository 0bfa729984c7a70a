use Rattle.std.proofs.Common.{ℕ, List, subst}
use Rattle.dj_report.specs.Lines.{Adds, IsLineAmong}
use Rattle.dj_report.proofs.Adding.{on_ok}
use Rattle.dj_file_rules.specs.Lines.{IsPairLine}
use Rattle.dj_file_rules.proofs.PairTexts.{adds_same_texts}
use Rattle.dj_file_rules.proofs.members.add_pair_lines.Goals as goal

pub returns : goal.returns
returns c =
    on_ok c.add_each_line.result
    (λ adds. adds_same_texts c.args.lines.now.pool.now c.args.lines.now.path.now c.args.lines.now.rule c.in_ok-once.once.items c.args.pairs.items c.args.found.now.items c.add_each_line.new.found.items
    c.in_ok-once.ensures
    (subst (λ (pairs : List (ℕ × ℕ)). Adds (IsLineAmong (IsPairLine c.args.lines.now.path.now c.args.lines.now.rule c.args.lines.now.pool.now) pairs) c.args.found.now.items c.add_each_line.new.found.items) c.deref.ensures.value adds))
    c.add_each_line.ensures
