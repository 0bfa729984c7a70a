use Rattle.std.proofs.Common.{not, sym, ap, ◌∙◌}
use Rattle.dj_pool.proofs.Scanned.{plain_is}
use Rattle.dj_pool.proofs.scan.is_utf8.Goals as goal

pub returns-then-not-has_foreign : goal.returns-then-not-has_foreign
returns-then-not-has_foreign c = ap not c.if-not-has_foreign.true ∙ sym (plain_is c.args.text.now (sym c.has_foreign.ensures ∙ c.if-not-has_foreign.true))
