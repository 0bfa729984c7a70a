use Rattle.std.proofs.Common.{length, subst, sym, ◌∙◌, arith}
use Rattle.dj_resolution.specs.Numbers.{AreBelow}
use Rattle.dj_resolution.proofs.Marks.{above_is, once_below}
use Rattle.dj_resolution.proofs.fields.field_rows.Goals as goal

pub row_of-requires-clause-above : goal.row_of-requires-clause-above
row_of-requires-clause-above c =
    subst (AreBelow (length c.args.table.now))
    (sym (c.deref.ensures.value ∙ above_is c.args.table.now c.args.above.now c.loop-class.class c.index-above-class.result c.requires (omega (arith, c.class_count-class-end.ensures.count)) c.index-above-class.is))
    (once_below c.args.table.now c.loop-class.class)
