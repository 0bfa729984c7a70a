use Rattle.dj_accepted.proofs.Base.{base}
use Rattle.dj_accepted.proofs.laws.accepted_meters.Goals as goal

pub returns : goal.returns
returns c = λ files classes program accepted is few entry is_entry most input.
    c.metering_theorem.ensures program (c.accepted_is_sound.ensures.deterministic files classes program accepted is) (base files classes program accepted is few)
    (c.others_ask_nothing.ensures.deterministic classes program is) entry is_entry most input
