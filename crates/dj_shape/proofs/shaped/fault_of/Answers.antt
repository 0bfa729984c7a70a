use Rattle.std.proofs.Common.{◌≡◌, Bool, Some, sym, subst}
use Rattle.dj_shape_rule.specs.trusted.Rule.{signature_at}
use Rattle.dj_shape.proofs.shaped.fault_of.Goals as goal

pub returns : goal.returns
returns c = λ pool signature kinds described signs. c.in_ok-shape.ensures pool signature kinds described
    (subst (λ (static : Bool). signature_at pool static c.args.parts.now.desc ≡ Some signature) (sym c.is_static.ensures) signs)
