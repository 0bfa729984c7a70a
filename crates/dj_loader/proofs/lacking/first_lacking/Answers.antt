use Rattle.std.proofs.Common.{arith}
use Rattle.std.proofs.lemmas.Option.{slice_get_within}
use Rattle.dj_loader.specs.Numbered.{IsLacking}
use Rattle.dj_loader.proofs.Reported.{none_more, not_lacking}
use Rattle.dj_loader.proofs.lacking.first_lacking.Goals as goal

pub loop-class-preserved : goal.loop-class-preserved
loop-class-preserved c =
    none_more (IsLacking c.args.table.now) c.loop-class.class c.loop-class.invariant
    (not_lacking c.args.table.now c.loop-class.class c.lacks_above.result c.lacks_above.ensures c.if-lacks_above.false)

pub returns-clause-first : goal.returns-clause-first
returns-clause-first c k lacking = c.loop-class.invariant k (let lt = slice_get_within c.args.table.now k lacking.0 lacking.1 in omega (arith, lt)) lacking
