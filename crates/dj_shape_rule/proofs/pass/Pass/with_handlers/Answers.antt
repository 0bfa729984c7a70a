use Rattle.std.proofs.Common.{◌∙◌, ℕ, Option, sym, subst}
use Rattle.dj_shape_rule.specs.Passing.{IsFirst}
use Rattle.dj_shape_rule.proofs.Joining.{joined}
use Rattle.dj_shape_rule.proofs.pass.Pass.with_handlers.Goals as goal

pub returns : goal.returns
returns c = λ case is first.
    subst (λ (n : Option ℕ). IsFirst case n) (sym c.first_of.ensures)
    (joined c.args.method.now case is c.args.self.now c.requires.listed c.args.fault c.in_ok-found.found c.deref.result.now c.limit_of-limit.result first c.limit_of-limit.ensures
    (c.deref.ensures.value ∙ c.in_ok-ranges.ensures) c.in_ok-found.ensures.first)
