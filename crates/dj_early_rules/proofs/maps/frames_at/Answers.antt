use Rattle.std.proofs.Common.{sym, ◌∙◌}
use Rattle.dj_early_rules.proofs.MapLaws.{refused_at}
use Rattle.dj_early_rules.proofs.maps.frames_at.Goals as goal

pub returns-else-lacks_memory : goal.returns-else-lacks_memory
returns-else-lacks_memory c = refused_at c.args.starts.now c.args.body.now c.in-Err.error c.requires.rise c.in-Err.ensures.means (sym c.lacks_memory.ensures ∙ c.if-lacks_memory.false)
