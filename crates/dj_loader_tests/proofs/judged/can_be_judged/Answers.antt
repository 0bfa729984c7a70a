use Rattle.dj_loader_tests.proofs.Asked.{has_kinds, is_spelled}
use Rattle.dj_loader_tests.proofs.judged.can_be_judged.Goals as goal

pub returns-then-is_described-clause-kinds : goal.returns-then-is_described-clause-kinds
returns-then-is_described-clause-kinds c =
    λ t. has_kinds c.args.image.now c.args.method.number c.method-member.result c.method-member.ensures (c.is_described.ensures c.if-is_described.true)

pub returns-then-is_described-clause-spelled : goal.returns-then-is_described-clause-spelled
returns-then-is_described-clause-spelled c =
    λ t. is_spelled c.args.image.now c.args.method.number c.method-member.result c.method-member.ensures (c.is_spelled.ensures t)
