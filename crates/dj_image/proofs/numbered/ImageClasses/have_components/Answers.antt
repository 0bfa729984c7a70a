use Rattle.dj_image.proofs.Numbering.{have_numbers}
use Rattle.dj_image.proofs.numbered.ImageClasses.have_components.Goals as goal

pub returns : goal.returns
returns c = have_numbers _ c.are_settled.ensures
