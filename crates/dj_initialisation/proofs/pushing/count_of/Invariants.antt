use Rattle.std.proofs.Common.{◌≡◌, ◌≤◌, take}
use Rattle.dj_initialisation.specs.Initialisers.{initialiser_count}
use Rattle.dj_initialisation.proofs.pushing.count_of.Given as goal

abbrev pub invariant-loop-class : goal.invariant-loop-class
invariant-loop-class l = record {
  is : l.count ≡ initialiser_count l.initialisers (take l.class-index l.classes);
  few : l.count ≤ l.class-index;
}
