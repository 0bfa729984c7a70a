use Rattle.dj_image.proofs.Numbering.{stop_there, stop_alone}
use Rattle.dj_image.proofs.numbered.ImageClasses.stop.Goals as goal

pub returns : goal.returns
returns c = record { there = stop_there _ c.are_settled.ensures c.stop.result c.stop.ensures; alone = stop_alone _ c.are_settled.ensures c.stop.result c.stop.ensures }
