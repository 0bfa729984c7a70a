use Rattle.std.proofs.Common.{◌≡◌, ◌⊎◌, IsTrue}
use Rattle.dj_report.specs.trusted.Lines.{file_line}
use Rattle.dj_report.proofs.Adding.{on_ok, adds_same}
use Rattle.dj_early_rules.proofs.hierarchy.add_marked_line.Goals as goal

pub returns : goal.returns
returns c =
    let owner = c.args.owner.now in
    let reported = c.is_marked-violated.ensures in
    on_ok c.add_file_line_if.result
    (adds_same (λ v. IsTrue c.is_marked-violated.result × (v ≡ file_line owner.path.now 6)) (λ v. (IsTrue c.args.mark ⊎ IsTrue owner.repeats) × (v ≡ file_line owner.path.now 6)) c.args.found.now.items c.add_file_line_if.new.found.items
    (λ v. ((λ is. (reported.0 is.0, is.1)), (λ is. (reported.1 is.0, is.1)))))
    c.add_file_line_if.ensures
