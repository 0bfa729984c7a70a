use Rattle.std.proofs.Common.{ℕ, Option, Some, ap, ◌∙◌, subst}
use Rattle.std.specs.Prelude.{MatchOption}
use Rattle.dj_loader.specs.Numbered.{IsFirst, IsOnCycle, NeverSo}
use Rattle.dj_loader.proofs.Reported.{least_cycle, never_cycle}
use Rattle.dj_loader.proofs.cycles.refuse_cycles.Goals as goal

pub returns-in_ok-name-in-Some-clause-refused : goal.returns-in_ok-name-in-Some-clause-refused
returns-in_ok-name-in-Some-clause-refused c =
    let table = c.args.table.now in
    least_cycle table c.requires c.in-Some.class c.in_ok-name-in-Some.name (ap Some c.in_ok-name-in-Some.ensures ∙ c.name_of.ensures)
    (subst (λ (found : Option ℕ). MatchOption found (NeverSo (IsOnCycle table)) (IsFirst (IsOnCycle table))) c.in-Some.is c.in_ok-class.ensures.first)

pub returns-in-None-clause-acyclic : goal.returns-in-None-clause-acyclic
returns-in-None-clause-acyclic c =
    let table = c.args.table.now in
    never_cycle table c.requires
    (subst (λ (found : Option ℕ). MatchOption found (NeverSo (IsOnCycle table)) (IsFirst (IsOnCycle table))) c.in-None.is c.in_ok-class.ensures.first)
