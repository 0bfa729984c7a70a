use Rattle.dj_image.proofs.Numbering.{super_is}
use Rattle.dj_image.proofs.numbered.ImageClasses.super_of.Goals as goal

pub returns : goal.returns
returns c = rw c.super_of.ensures (super_is _ c.are_settled.ensures c.args.class c.requires)
