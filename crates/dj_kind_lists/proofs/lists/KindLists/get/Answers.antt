use Rattle.std.proofs.Common.{◌∙◌, ◌<◌, ◌≤◌, sym, ap, arith}
use Rattle.std.proofs.lemmas.Bool.Decides.{nat_tests}
use Rattle.dj_kind_trees.specs.Nodes.{listed}
use Rattle.dj_kind_lists.specs.Lists.{Lists}
use Rattle.dj_kind_lists.proofs.Listing.{kind_listed, past_listed}
use Rattle.dj_kind_lists.proofs.lists.KindLists.get.Goals as goal

pub returns-then-from-slot : goal.returns-then-from-slot
returns-then-from-slot c =
    let past : c.self.inside.count ≤ c.args.slot = grind (arith, nat_tests, c.if-from-slot.true, c.from.ensures) in
    sym (sym (ap (λ (v : Lists). listed v.current c.args.slot) c.self.view_is) ∙ past_listed c.self.inside.trees c.self.inside.count c.self.inside.current c.args.slot past)

pub returns : goal.returns
returns c =
    let less : c.args.slot < c.self.inside.count = grind (arith, nat_tests, c.if-from-slot.false, c.from.ensures) in
    c.get.ensures ∙ sym (kind_listed c.self.inside.trees c.self.inside.count c.self.inside.current c.args.slot less) ∙ ap (λ (v : Lists). listed v.current c.args.slot) c.self.view_is
