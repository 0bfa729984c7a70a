use Rattle.dj_image_step.proofs.UsedLaws.{call_used, site_within}
use Rattle.dj_image_step.proofs.uses.used_class.Goals as goal

pub called_class-requires : goal.called_class-requires
called_class-requires c = record { there = site_within c.args.image.now c.args.method.number c.args.number c.in-Some.site c.in-Some.ensures.calls }

pub returns-in-Some-clause-used : goal.returns-in-Some-clause-used
returns-in-Some-clause-used c = λ i reported. call_used c.args.image.now c.args.method.number c.args.number c.in-Some.site c.called_class.result c.in-Some.ensures.calls c.called_class.ensures i reported
