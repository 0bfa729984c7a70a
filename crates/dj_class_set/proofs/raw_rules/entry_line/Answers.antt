use Rattle.std.proofs.Common.{◌≡◌, ◌++◌, ◌∙◌, ℕ, List, None, codes, ap}
use Rattle.dj_class_set.proofs.raw_rules.entry_line.Goals as goal

pub returns : goal.returns
returns c =
    let path : c.extend.new.self ≡ c.args.entry.now ++ codes ".class" =
    c.in_ok-extend.ensures.ok ∙ ap (λ (x : List ℕ). x ++ codes ".class") c.in_ok-path.ensures in
    λ i. record { path = path i; member = c.new-member.ensures i; number = None; rule = 20 }
