use Rattle.dj_image.proofs.Numbering.{chars_is}
use Rattle.dj_image.proofs.numbered.ImageClasses.chars.Goals as goal

pub returns : goal.returns
returns c = chars_is _ c.are_settled.ensures c.chars.result c.chars.ensures
