use Rattle.std.proofs.Common.{length, sym, ap, ◌∙◌}
use Rattle.dj_pool.proofs.ChangeLaws.{one_wide, one_narrow}
use Rattle.dj_pool.proofs.append.taken.Goals as goal

pub returns-then-is_wide-clause-is : goal.returns-then-is_wide-clause-is
returns-then-is_wide-clause-is c = sym (ap length (one_wide _ (sym c.is_wide.ensures ∙ c.if-is_wide.true)))

pub returns-else-is_wide-clause-is : goal.returns-else-is_wide-clause-is
returns-else-is_wide-clause-is c = sym (ap length (one_narrow _ (sym c.is_wide.ensures ∙ c.if-is_wide.false)))
