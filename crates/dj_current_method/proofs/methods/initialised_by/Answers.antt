use Rattle.std.proofs.Common.{sym, ◌∙◌}
use Rattle.std.proofs.lemmas.Bool.{false≢true}
use Rattle.dj_current_method.proofs.Reported.{initialiser_reported, no_initialiser_reported}
use Rattle.dj_current_method.proofs.methods.initialised_by.Goals as goal

pub returns-then-are_initialisers : goal.returns-then-are_initialisers
returns-then-are_initialisers c =
    initialiser_reported c.args.image.now c.args.method.number c.method-reported.result c.method-reported.ensures (c.are_initialisers.ensures.0 c.if-are_initialisers.true)

pub returns-else-are_initialisers : goal.returns-else-are_initialisers
returns-else-are_initialisers c =
    no_initialiser_reported c.args.image.now c.args.method.number c.method-reported.result c.method-reported.ensures
    (λ texts. false≢true (sym c.if-are_initialisers.false ∙ c.are_initialisers.ensures.1 texts))
