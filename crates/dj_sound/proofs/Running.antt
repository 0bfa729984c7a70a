-- No step of a run of accepted files is ill-formed.
use Rattle.std.proofs.Common.{[]}
use Rattle.dj_model.proofs.SoundRuns.{metered_stands, plain_stands}
use Rattle.dj_class_set.specs.trusted.RawRules.{entry_of}
use Rattle.dj_sound.specs.Laws.{RunsStand}
use Rattle.dj_sound.proofs.Asking.{others_ask_nothing}
use Rattle.dj_sound.proofs.RawAccepted.{are_raw_accepted}
use Rattle.dj_sound.proofs.Whole.{accepted_is_sound, raw_accepted_is_sound}

pub runs_stand : RunsStand
runs_stand = record {
  metered = λ files classes program accepted is entry input most n e.
      metered_stands program (accepted_is_sound.deterministic files classes program accepted is) (others_ask_nothing.deterministic classes program is) entry input most n e;
  plain = λ files classes program accepted is terms entry input answers most e.
      plain_stands program [] (accepted_is_sound.raw files classes program accepted is) terms entry input answers most e;
  raw = λ files classes program accepted is terms entry input answers most e.
      plain_stands program [] (raw_accepted_is_sound files classes program accepted is) terms entry input answers most e;
  judged = λ files class classes program good silent is terms input answers most.
      let accepted = are_raw_accepted files class classes good silent in
      plain_stands program [] (accepted.sound program is) terms (entry_of class) input answers most (accepted.entry program is);
}
