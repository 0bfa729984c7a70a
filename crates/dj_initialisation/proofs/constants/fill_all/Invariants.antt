use Rattle.std.proofs.Common.{drop, reverse}
use Rattle.dj_initialisation.specs.Store.{Leads, all_constants, store}
use Rattle.dj_initialisation.proofs.constants.fill_all.Given as goal

abbrev pub invariant-loop-turn : goal.invariant-loop-turn
invariant-loop-turn l =
    Leads l.image (all_constants l.image (reverse l.classes)) (all_constants l.image (drop l.turn (reverse l.classes)))
    (store l.fn.heap l.fn.statics l.fn.literals) (store l.heap l.statics l.literals)
