use Rattle.dj_shape_rule.proofs.frames.KeptFrames.place_of.Goals as goal

pub returns-clause-within : goal.returns-clause-within
returns-clause-within c = c.args.self.now.placed c.args.index c.by_index.result.now c.by_index.ensures
