use Rattle.std.proofs.Common.{sym, ◌∙◌}
use Rattle.dj_labels.proofs.Whole.{refused_all_labelled}
use Rattle.dj_early_rules.proofs.Codes.{no_labels}
use Rattle.dj_early_rules.proofs.code.labelling_of.Goals as goal

pub returns-else-lacks_memory : goal.returns-else-lacks_memory
returns-else-lacks_memory c = no_labels c.args.code.now c.args.table.now c.in-Err.error (sym c.lacks_memory.ensures ∙ c.if-lacks_memory.false) (refused_all_labelled c.args.code.now c.args.table.now c.in-Err.error c.in-Err.ensures.refused)
