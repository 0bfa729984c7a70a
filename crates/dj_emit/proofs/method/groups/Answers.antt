use Rattle.std.proofs.Common.{subst}
use Rattle.std.specs.List.{AllByRecursion}
use Rattle.dj_emit.specs.Groups.{FitsSipush}
use Rattle.dj_emit.proofs.PartFacts.{parts_fit}
use Rattle.dj_emit.proofs.WholeFacts.{length_seen}
use Rattle.dj_emit.proofs.method.groups.Goals as goal

pub group_code-requires-clause-same : goal.group_code-requires-clause-same
group_code-requires-clause-same c =
    length_seen c.args.image.now c.args.method.number c.code_of-code.result.now.code c.code_of-code.ensures c.in_ok-parts.parts.items c.in_ok-parts.ensures

pub returns-clause-fits : goal.returns-clause-fits
returns-clause-fits c = subst (AllByRecursion FitsSipush) c.in_ok-parts.ensures (parts_fit c.in_ok-parts.parts.items)
