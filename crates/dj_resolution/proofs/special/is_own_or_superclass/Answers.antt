use Rattle.std.proofs.Common.{sym, ◌∙◌}
use Rattle.dj_resolution.proofs.Listed.{up_apart, up_itself}
use Rattle.dj_resolution.proofs.special.is_own_or_superclass.Goals as goal

pub returns-then-class-other : goal.returns-then-class-other
returns-then-class-other c = sym (up_itself c.args.table.now c.args.class c.args.other c.if-class-other.true)

pub returns : goal.returns
returns c = c.is_superclass.ensures ∙ sym (up_apart c.args.table.now c.args.class c.args.other c.if-class-other.false)
