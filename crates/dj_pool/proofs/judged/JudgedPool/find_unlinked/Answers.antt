use Rattle.std.proofs.Common.{sym, ◌∙◌}
use Rattle.dj_pool.proofs.Found.{unlinked-fit, unlinked-here, unlinked-end}
use Rattle.dj_pool.proofs.judged.JudgedPool.find_unlinked.Goals as goal

pub returns-then-not-is_fit : goal.returns-then-not-is_fit
returns-then-not-is_fit c =
    sym (unlinked-here c.args.self.now c.as_slice-entry-items.result.now c.loop-i.i _ c.loop-i-test.true (sym c.is_fit.ensures ∙ c.if-not-is_fit.true)) ∙ c.loop-i.invariant

pub loop-i-preserved : goal.loop-i-preserved
loop-i-preserved c =
    sym (unlinked-fit c.args.self.now c.as_slice-entry-items.result.now c.loop-i.i _ c.loop-i-test.true (sym c.is_fit.ensures ∙ c.if-not-is_fit.false)) ∙ c.loop-i.invariant

pub returns : goal.returns
returns c = sym (unlinked-end c.args.self.now c.as_slice-entry-items.result.now c.loop-i.i c.loop-i-test.false) ∙ c.loop-i.invariant
