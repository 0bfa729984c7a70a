use Rattle.std.proofs.Common.{◌≤◌, length, arith}
use Rattle.std.proofs.lemmas.Bool.Decides.{nat_tests}
use Rattle.dj_invocation.proofs.References.{object_within}
use Rattle.dj_invocation.proofs.arguments.is_there.Goals as goal

pub returns : goal.returns
returns c = λ reported.
    let within : c.args.r ≤ length c.args.heap.now.heap.objects = grind (arith, nat_tests, reported) in
    object_within c.args.heap.now.heap c.args.r within
