use Rattle.dj_shape_rule.proofs.Places.{reported_none}
use Rattle.dj_shape_rule.proofs.frames.KeptFrames.may_report.Goals as goal

pub returns : goal.returns
returns c = λ none. reported_none c.args.self.now c.args.number (c.has.ensures none)
