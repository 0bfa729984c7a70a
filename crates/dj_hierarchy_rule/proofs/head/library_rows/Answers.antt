use Rattle.dj_library.specs.trusted.Heads.{library_heads}
use Rattle.dj_hierarchy_rule.proofs.head.library_rows.Goals as goal

pub returns : goal.returns
unfolding library_heads
returns c = c.heads.ensures.deterministic
