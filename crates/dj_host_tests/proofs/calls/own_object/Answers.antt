use Rattle.dj_host_tests.proofs.Objects.{own_made}
use Rattle.dj_host_tests.proofs.calls.own_object.Goals as goal

pub returns-in-Ok : goal.returns-in-Ok
returns-in-Ok c = own_made c.args.heap.now c.instance.new.self c.in-Ok.r c.in-Ok.ensures.made c.requires
