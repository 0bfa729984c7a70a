use Rattle.dj_host.proofs.Taking.{hash_passed, nanos_passed, millis_passed}
use Rattle.dj_host.proofs.call.call_host.Goals as goal

pub returns-in-HostHashCode : goal.returns-in-HostHashCode
returns-in-HostHashCode g c = rw c.in-HostHashCode.is
    (hash_passed (g.C.Classes.program c.args.classes.now) (g.C.Classes.prefix c.args.classes.now) (g.C.Classes.types c.args.classes.now)
    c.args.heap.now (g.H.Host.given c.args.host.now) (g.H.Host.given c.give_word.new.host) c.args.args.now c.give_word.result c.requires.known c.give_word.ensures)

pub returns-in-NanoTime : goal.returns-in-NanoTime
returns-in-NanoTime g c = rw c.in-NanoTime.is
    (nanos_passed (g.C.Classes.program c.args.classes.now) (g.C.Classes.prefix c.args.classes.now) (g.C.Classes.types c.args.classes.now)
    c.args.heap.now (g.H.Host.given c.args.host.now) (g.H.Host.given c.give_nanos.new.host) c.args.args.now c.give_nanos.result c.requires.known c.give_nanos.ensures)

pub returns-in-CurrentTimeMillis : goal.returns-in-CurrentTimeMillis
returns-in-CurrentTimeMillis g c = rw c.in-CurrentTimeMillis.is
    (millis_passed (g.C.Classes.program c.args.classes.now) (g.C.Classes.prefix c.args.classes.now) (g.C.Classes.types c.args.classes.now)
    c.args.heap.now (g.H.Host.given c.args.host.now) (g.H.Host.given c.give_millis.new.host) c.args.args.now c.give_millis.result c.requires.known c.give_millis.ensures)
