use Rattle.dj_image_step.proofs.hosting.answer_counted.Goals as goal

pub returns : goal.returns
returns c = c.call_native.ensures
