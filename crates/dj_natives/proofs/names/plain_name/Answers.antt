use Rattle.std.proofs.Common.{◌≡◌, ℕ, List, IfOk, subst}
use Rattle.dj_natives.proofs.NameFacts.{plain_reported}
use Rattle.dj_natives.proofs.names.plain_name.Goals as goal

pub returns : goal.returns
returns g c =
    subst (λ (t : List ℕ). IfOk c.plain_text.result (λ name. name ≡ t))
    (plain_reported (g.C.Classes.types c.args.classes.now) (g.C.Classes.prefix c.args.classes.now) c.args.class c.prefix_of.result.now c.name_of.result.now
    c.are_plain.ensures c.requires c.prefix_of.ensures c.name_of.ensures)
    c.plain_text.ensures
