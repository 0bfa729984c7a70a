use Rattle.std.proofs.Common.{Some, sym, subst}
use Rattle.dj_natives.specs.declared.accounter.Charged.TheVariants as charged
use Rattle.dj_natives.specs.Counting.{Adds}
use Rattle.dj_natives.proofs.Charges.{counter, adds_nothing, adds_fine, adds_over}
use Rattle.dj_natives.proofs.accounter.Accounter.add.Goals as goal

pub returns-in_default : goal.returns-in_default
returns-in_default c =
    subst (λ k. Adds c.args.charge c.args.amount k k charged.Stop) c.self.view_is
    (adds_nothing c.self.inside.limits c.self.inside.costs c.self.inside.exceeded c.in_default.field-0 c.args.charge c.args.amount c.in_default.is)

pub returns-then-not-passes : goal.returns-then-not-passes
returns-then-not-passes c =
    subst (λ k. Adds c.args.charge c.args.amount k (counter c.self.inside.limits c.added-self-inside.result c.self.inside.exceeded) charged.Fine) c.self.view_is
    (adds_fine c.self.inside.limits c.self.inside.costs c.added-self-inside.result c.self.inside.exceeded c.args.charge c.args.amount
    c.in-None.is c.added-self-inside.ensures (sym c.if-not-passes.ensures))

pub returns : goal.returns
returns c =
    subst (λ k. Adds c.args.charge c.args.amount k (counter c.self.inside.limits c.added-self-inside.result (Some c.args.charge)) charged.Stop) c.self.view_is
    (adds_over c.self.inside.limits c.self.inside.costs c.added-self-inside.result c.self.inside.exceeded c.args.charge c.args.amount
    c.in-None.is c.added-self-inside.ensures (sym c.if-not-passes.ensures))
