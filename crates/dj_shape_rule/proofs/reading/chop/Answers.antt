use Rattle.std.proofs.Common.{◌≡◌, ◌∙◌, ◌-◌, ◌≤◌, ℕ, take, length, ap, arith}
use Rattle.dj_shape_rule.proofs.Entries.{chopped}
use Rattle.dj_shape_rule.proofs.reading.chop.Goals as goal

pub returns : goal.returns
returns c = λ code.
    let old = c.args.entries.now.items in
    let first : c.len.result ≡ length old = omega (arith, c.len.ensures, c.args.entries.now.ok.0) in
    let count : c.len-2.result ≡ length old = omega (arith, c.len-2.ensures, c.args.entries.now.ok.0) in
    let within : c.args.count ≤ length old = omega arith in
    chopped c.args.count old c.truncate.new.self.items c.new.result.items within (c.truncate.ensures.items ∙ ap (λ (n : ℕ). take (n - c.args.count) old) count) c.new.ensures.items
