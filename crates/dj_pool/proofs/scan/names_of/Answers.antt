use Rattle.std.proofs.Common.{Bool, ◌&&◌, sym, ap, ◌∙◌}
use Rattle.dj_pool.specs.Scan.{has_method_angles}
use Rattle.dj_pool.proofs.Scanned.{method_is}
use Rattle.dj_pool.proofs.scan.names_of.Goals as goal

pub returns-then-unqualified_name-clause-method_name : goal.returns-then-unqualified_name-clause-method_name
returns-then-unqualified_name-clause-method_name c =
    c.has_method_angles-angles.ensures
    ∙ ap (λ (b : Bool). b && has_method_angles c.args.text.now) (sym c.if-unqualified_name.true ∙ c.is_unqualified-unqualified_name.ensures)
    ∙ sym (method_is c.args.text.now)

pub returns-else-unqualified_name-clause-method_name : goal.returns-else-unqualified_name-clause-method_name
returns-else-unqualified_name-clause-method_name c =
    c.if-unqualified_name.false
    ∙ ap (λ (b : Bool). b && has_method_angles c.args.text.now) (sym c.if-unqualified_name.false ∙ c.is_unqualified-unqualified_name.ensures)
    ∙ sym (method_is c.args.text.now)
