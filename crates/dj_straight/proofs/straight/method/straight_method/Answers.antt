use Rattle.std.proofs.Common.{List, subst, sym}
use Rattle.dj_class.specs.trusted.ClassFile.{AttributeInfo}
use Rattle.dj_straight.specs.trusted.Straight.{HasStraightCode}
use Rattle.dj_straight.proofs.straight.method.straight_method.Goals as goal

pub returns-in-None : goal.returns-in-None
returns-in-None c =
    let none = rw c.in-None.is at c.in_ok-code.ensures in
    λ y straight. none straight.code (subst (λ (attributes : List AttributeInfo). HasStraightCode c.args.pool.now attributes straight.code) (sym c.as_slice.ensures) straight.has_code)
