use Rattle.dj_names.proofs.DescLaws.{is_described, is_refused_rightly}
use Rattle.dj_names.proofs.read.read_desc.Goals as goal

pub returns-clause-ok : goal.returns-clause-ok
returns-clause-ok c = is_described c.args.text.now c.desc_of.result c.desc_of.ensures

pub returns-clause-refused : goal.returns-clause-refused
returns-clause-refused c = is_refused_rightly c.args.text.now c.desc_of.result c.desc_of.ensures
