use Rattle.dj_class_set.proofs.LateLaws.{cycle_reported}
use Rattle.dj_class_set.proofs.late.link_table.Goals as goal

pub returns-in-Err-Cycle : goal.returns-in-Err-Cycle
returns-in-Err-Cycle c = cycle_reported c.args.table c.in-Err-Cycle.field-0 c.in-Err-Cycle.field-0-0 c.in-Err-Cycle.ensures.refused c.in-Err-Cycle.field-0-is
