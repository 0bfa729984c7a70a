use Rattle.dj_image.proofs.Numbering.{component_is}
use Rattle.dj_image.proofs.numbered.ImageClasses.component.Goals as goal

pub returns : goal.returns
returns c = rw c.component.ensures (component_is _ c.are_settled.ensures c.args.class c.requires)
