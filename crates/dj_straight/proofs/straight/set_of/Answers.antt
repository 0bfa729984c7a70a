use Rattle.std.proofs.Common.{arith}
use Rattle.dj_straight.proofs.Straights.{file_runnable, no_set}
use Rattle.dj_straight.proofs.straight.set_of.Goals as goal

pub returns-in-Some-2-clause-runnable : goal.returns-in-Some-2-clause-runnable
returns-in-Some-2-clause-runnable c =
    let is = rw c.in-Some-2.is at c.in_ok-class-in-Some.ensures in
    file_runnable _ c.in-Some-2.class is

pub returns-in-None-2-clause-straight : goal.returns-in-None-2-clause-straight
returns-in-None-2-clause-straight c =
    let none = rw c.in-None-2.is at c.in_ok-class-in-Some.ensures in
    no_set c.args.files.now _ (omega arith) (omega arith) none
