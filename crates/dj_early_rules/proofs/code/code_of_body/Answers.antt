use Rattle.std.proofs.Common.{sym, ◌∙◌, inl}
use Rattle.dj_early_rules.proofs.Codes.{no_code}
use Rattle.dj_early_rules.proofs.code.code_of_body.Goals as goal

pub returns-else-is_memory : goal.returns-else-is_memory
returns-else-is_memory c = inl (no_code c.args.body.now c.in-Err.error c.in-Err.ensures (sym c.is_memory.ensures ∙ c.if-is_memory.false))
