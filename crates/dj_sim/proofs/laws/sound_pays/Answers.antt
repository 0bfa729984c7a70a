use Rattle.dj_groups.specs.Rewritten.{rewritten}
use Rattle.dj_sim.proofs.SoundTurns.{few_inserted, handlers_within, standing_pays}
use Rattle.dj_sim.proofs.laws.sound_pays.Goals as goal

pub returns : goal.returns
unfolding rewritten
returns c = record {
  pays = λ program sound base most touched s x below frames standing unpaid objects. standing_pays program sound base most touched s x below frames standing unpaid objects;
  few = few_inserted;
  handlers = handlers_within;
}
