use Rattle.std.proofs.Common.{Some, codes}
use Rattle.std.proofs.lemmas.Bool.Decides.{Decides-eqb}
use Rattle.std.proofs.lemmas.Slice.Eq.{strip_suffix_is}
use Rattle.dj_file_rules.proofs.Naming.{cut_is}
use Rattle.dj_file_rules.proofs.named.is_class_of.Goals as goal

pub returns-in-Some : goal.returns-in-Some
returns-in-Some c =
    cut_is c.args.all.now c.in-Some.prefix.now c.args.units.now (codes ".class") c.eq.result
    (strip_suffix_is Decides-eqb c.args.all.now (codes ".class") (Some c.in-Some.prefix) c.in-Some.ensures.cases) c.eq.ensures
