use Rattle.dj_shape_rule.proofs.Makes.{all_make_so}
use Rattle.dj_shape_rule.proofs.reading.objects_made.Goals as goal

pub returns : goal.returns
returns c pool are = all_make_so pool c.args.kinds.now are c.args.code.now
