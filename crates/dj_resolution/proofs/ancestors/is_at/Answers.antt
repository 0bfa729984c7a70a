use Rattle.std.proofs.Common.{sym, ◌∙◌}
use Rattle.dj_resolution.specs.Numbers.{numbers_above}
use Rattle.dj_resolution.proofs.Lists.{has_here}
use Rattle.dj_resolution.proofs.Marks.{above_is}
use Rattle.dj_resolution.proofs.Subclasses.{among_above}
use Rattle.dj_resolution.proofs.ancestors.is_at.Goals as goal

pub returns-then-class-other : goal.returns-then-class-other
returns-then-class-other c = sym (has_here (numbers_above c.args.table.now c.args.class) c.args.class c.args.other c.if-class-other.true)

pub returns : goal.returns
returns c =
    among_above (numbers_above c.args.table.now c.args.class) c.deref.result.now c.args.class c.args.other c.is_among.result c.if-class-other.false
    (c.deref.ensures.value ∙ above_is c.args.table.now c.args.above.now c.args.class c.index-above-class.result c.requires.above c.requires.there c.index-above-class.is)
    c.is_among.ensures
