use Rattle.std.proofs.Common.{sym, ◌∙◌}
use Rattle.dj_host.proofs.Taking.{identity_of_null, identity_passed}
use Rattle.dj_host.proofs.call.identity_hash.Goals as goal

pub returns-then-reference-eq0 : goal.returns-then-reference-eq0
returns-then-reference-eq0 g c =
    identity_of_null (g.C.Classes.program c.args.classes.now) (g.C.Classes.prefix c.args.classes.now) (g.C.Classes.types c.args.classes.now)
    c.args.heap.now (g.H.Host.given c.args.host.now) c.args.args.now c.requires.known (sym c.reference.ensures ∙ c.if-reference-eq0.true)

pub returns-else-reference-eq0 : goal.returns-else-reference-eq0
returns-else-reference-eq0 g c =
    identity_passed (g.C.Classes.program c.args.classes.now) (g.C.Classes.prefix c.args.classes.now) (g.C.Classes.types c.args.classes.now)
    c.args.heap.now (g.H.Host.given c.args.host.now) (g.H.Host.given c.give_word.new.host) c.args.args.now c.give_word.result c.requires.known
    (λ null. c.if-reference-eq0.false (c.reference.ensures ∙ null)) c.give_word.ensures
