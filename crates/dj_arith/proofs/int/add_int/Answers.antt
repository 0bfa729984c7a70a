use Rattle.std.proofs.Common.{rules}
use Rattle.std.proofs.lemmas.Int.{wraps}
use Rattle.dj_arith.proofs.int.add_int.Goals as goal

pub returns : goal.returns
returns c = search (rules, wraps)
