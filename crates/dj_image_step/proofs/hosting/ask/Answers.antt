use Rattle.dj_image_step.proofs.HostLaws.{quietly_asked}
use Rattle.dj_image_step.proofs.hosting.ask.Goals as goal

pub returns-in-None-clause-quiet : goal.returns-in-None-clause-quiet
returns-in-None-clause-quiet g c =
    quietly_asked c.args.image.now c.args.heap.now c.call_host.new.heap (g.H.Host.given c.args.host.now) (g.H.Host.given c.call_host.new.host) c.args.id c.args.args.now c.call_host.result
    c.call_host.ensures
