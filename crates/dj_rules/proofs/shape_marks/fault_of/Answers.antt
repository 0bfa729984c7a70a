use Rattle.std.proofs.Common.{◌≡◌, Bool, Some, sym, subst}
use Rattle.dj_class.specs.Members.{member_of}
use Rattle.dj_model.specs.trusted.Program.{is_static}
use Rattle.dj_program.specs.Views.{parts_of}
use Rattle.dj_shape_rule.specs.trusted.Rule.{signature_at}
use Rattle.dj_rules.proofs.ShapeLaws.{described, signed, fault_is}
use Rattle.dj_rules.proofs.shape_marks.fault_of.Goals as goal

pub returns : goal.returns
returns c =
    let pool = c.args.pool.now in
    let method = member_of c.args.method.now in
    let signature = signed pool method c.requires.method c.requires.plain in
    fault_is pool method c.args.code (parts_of c.code_of-read.result) c.requires.code c.code_of-read.ensures.code signature.0 signature.1 c.in_ok-shape.field-0
    (c.in_ok-shape.ensures pool signature.0 c.requires.kinds (described pool method c.requires.method)
    (subst (λ (static : Bool). signature_at pool static method.desc ≡ Some signature.0) (sym c.is_static.ensures) signature.1))
