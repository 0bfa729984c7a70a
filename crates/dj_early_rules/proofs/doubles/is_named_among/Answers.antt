use Rattle.std.proofs.Common.{◌↔◌, Bool, IsTrue, Contains, sym, subst}
use Rattle.dj_early_rules.specs.Doubles.{texts_in}
use Rattle.dj_early_rules.proofs.Keys.{found}
use Rattle.dj_early_rules.proofs.DoubleLaws.{reported_among}
use Rattle.dj_early_rules.proofs.doubles.is_named_among.Goals as goal

pub returns-in-Some : goal.returns-in-Some
returns-in-Some c =
    reported_among (texts_in c.args.names.now) c.args.file.now c.in-Some.name c.contains.result c.in-Some.is
    (subst (λ (b : Bool). IsTrue b ↔ Contains (texts_in c.args.names.now) c.in-Some.name.now) (sym c.contains.ensures) (found c.args.names.now.keys c.in-Some.name))
