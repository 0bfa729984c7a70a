use Rattle.dj_shape_rule.proofs.Places.{reported_none}
use Rattle.dj_shape_rule.proofs.frames.KeptFrames.new.Goals as goal

pub returns : goal.returns
returns c = λ number. reported_none _ number (c.in_ok-new.ensures.none number)
