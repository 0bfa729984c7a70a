use Rattle.dj_image.proofs.Numbering.{string_is}
use Rattle.dj_image.proofs.numbered.ImageClasses.string.Goals as goal

pub returns : goal.returns
returns c = string_is _ c.are_settled.ensures c.string.result c.string.ensures
