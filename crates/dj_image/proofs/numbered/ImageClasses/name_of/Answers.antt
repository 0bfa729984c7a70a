use Rattle.dj_image.proofs.Numbering.{name_is}
use Rattle.dj_image.proofs.numbered.ImageClasses.name_of.Goals as goal

pub returns : goal.returns
returns c = name_is _ c.are_settled.ensures c.args.class c.name_of.result.now c.requires c.name_of.ensures
