use Rattle.dj_invocation.proofs.References.{other_has, reference_has}
use Rattle.dj_invocation.proofs.arguments.has_object.Goals as goal

pub returns-in-Ref : goal.returns-in-Ref
returns-in-Ref c = λ reported. reference_has c.args.heap.now.heap c.args.value c.in-Ref.r c.in-Ref.is (c.is_there.ensures reported)

pub returns-in_default : goal.returns-in_default
returns-in_default c = λ reported. other_has c.args.heap.now.heap c.args.value c.in_default.not-Ref
