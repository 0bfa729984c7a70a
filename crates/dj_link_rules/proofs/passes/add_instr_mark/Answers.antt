use Rattle.std.proofs.Common.{sym, ◌∙◌}
use Rattle.dj_link_rules.proofs.PassLaws.{unnamed_mark}
use Rattle.dj_link_rules.proofs.passes.add_instr_mark.Goals as goal

pub returns-in-None : goal.returns-in-None
returns-in-None c = unnamed_mark c.args.place c.args.known.now c.args.pool.now c.args.instr.now c.args.marks.now.items (sym c.index_of.ensures ∙ c.in-None.is)
