use Rattle.dj_class.specs.Members.{member_of}
use Rattle.dj_loader.specs.Filed.{IsCodeFor}
use Rattle.dj_loader.proofs.Sides.{side_next, side_all}
use Rattle.dj_loader.proofs.file_parts.codes_of.Goals as goal

pub loop-method-preserved : goal.loop-method-preserved
loop-method-preserved c =
    side_next member_of (IsCodeFor c.args.pool.now) c.args.methods.now c.loop-method.method-index c.method-item.result c.push.new.self.items c.loop-method.codes.items c.in_ok-code_of.field-0
    c.loop-method-test.true c.method-item.is c.loop-method.invariant c.in_ok-code_of.ensures.code c.in_ok-push.ensures.items

pub returns-clause-codes : goal.returns-clause-codes
returns-clause-codes c = side_all member_of (IsCodeFor c.args.pool.now) c.args.methods.now c.loop-method.method-index c.loop-method.codes.items c.loop-method-test.false c.loop-method.invariant
