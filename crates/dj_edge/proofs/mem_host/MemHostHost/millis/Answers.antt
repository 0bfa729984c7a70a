use Rattle.std.proofs.Common.{rules, pos, w64}
use Rattle.std.proofs.lemmas.Int.{wrapping_add_is}
use Rattle.dj_edge.proofs.mem_host.MemHostHost.millis.Goals as goal

pub returns-clause-answers : goal.returns-clause-answers
returns-clause-answers c = (search rules, search rules, wrapping_add_is w64 c.args.self.now.clock (pos 1) (search rules) (search rules))
