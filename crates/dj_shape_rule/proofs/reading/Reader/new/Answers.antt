use Rattle.std.proofs.Common.{◌∙◌}
use Rattle.dj_shape_rule.proofs.Places.{reported_still}
use Rattle.dj_shape_rule.proofs.reading.Reader.new.Goals as goal

pub returns-clause-none : goal.returns-clause-none
returns-clause-none c = λ number. reported_still _ c.place_all.new.self.frames c.place_all.ensures.grows number ∙ c.in_ok-new.ensures number
