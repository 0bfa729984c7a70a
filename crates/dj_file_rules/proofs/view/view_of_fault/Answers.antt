use Rattle.std.proofs.Common.{sym, ◌∙◌}
use Rattle.dj_file_rules.proofs.Faulty.{malformed_view}
use Rattle.dj_file_rules.proofs.view.view_of_fault.Goals as goal

pub returns-else-is_memory : goal.returns-else-is_memory
returns-else-is_memory c = malformed_view c.args.bytes.now c.args.error c.requires (sym c.is_memory.ensures ∙ c.if-is_memory.false)
