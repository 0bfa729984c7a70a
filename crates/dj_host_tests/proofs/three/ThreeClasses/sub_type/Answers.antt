use Rattle.std.proofs.Common.{Bool, nat_eq, sym, ap, ◌∙◌}
use Rattle.std.specs.Prelude.{◌||◌}
use Rattle.std.proofs.lemmas.Bool.{eq-eqb, ne_eqb}
use Rattle.dj_host_tests.proofs.Laws.{below_is}
use Rattle.dj_host_tests.proofs.three.ThreeClasses.sub_type.Goals as goal

pub returns-then-a-b : goal.returns-then-a-b
returns-then-a-b c =
    eq-eqb c.args.a c.args.b c.if-a-b.true ∙ sym (ap (λ (same : Bool). same || nat_eq c.args.b 0) (eq-eqb c.args.a c.args.b c.if-a-b.true)) ∙ below_is c.args.a c.args.b c.requires.first c.requires.second

pub returns-else-a-b : goal.returns-else-a-b
returns-else-a-b c =
    sym (ap (λ (same : Bool). same || nat_eq c.args.b 0) (ne_eqb c.args.a c.args.b c.if-a-b.false)) ∙ below_is c.args.a c.args.b c.requires.first c.requires.second
