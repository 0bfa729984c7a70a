use Rattle.dj_pool.specs.Views.{constant_of}
use Rattle.dj_link_rules.proofs.PoolLinks.{class_text_there}
use Rattle.dj_link_rules.proofs.constants.class_of.Goals as goal

pub see_class-requires-clause-text : goal.see_class-requires-clause-text
see_class-requires-clause-text c = class_text_there c.args.pool.now (constant_of c.args.entry) c.in_ok-index.index c.requires.valid c.requires.linked c.in_ok-index.ensures
