use Rattle.dj_image.proofs.Numbering.{names_plain}
use Rattle.dj_image.proofs.numbered.ImageClasses.are_plain.Goals as goal

pub returns : goal.returns
returns c = names_plain _ c.are_settled.ensures
