use Rattle.std.proofs.Common.{Some, ap, ◌∙◌}
use Rattle.dj_loader.proofs.Reported.{least_lacking, never_lacking}
use Rattle.dj_loader.proofs.lacking.refuse_lacking.Goals as goal

pub returns-in_ok-name-in-Some-clause-refused : goal.returns-in_ok-name-in-Some-clause-refused
returns-in_ok-name-in-Some-clause-refused c =
    least_lacking c.args.table.now c.requires c.in-Some.class c.in_ok-name-in-Some.name (ap Some c.in_ok-name-in-Some.ensures ∙ c.name_of.ensures) c.in-Some.ensures.first

pub returns-in-None-clause-whole : goal.returns-in-None-clause-whole
returns-in-None-clause-whole c = never_lacking c.args.table.now c.requires c.in-None.ensures.first
