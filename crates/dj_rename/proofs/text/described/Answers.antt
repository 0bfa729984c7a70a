use Rattle.dj_rename.proofs.TextLaws.{desc_is}
use Rattle.dj_rename.proofs.text.described.Goals as goal

pub returns-in-Ok : goal.returns-in-Ok
returns-in-Ok c = desc_is c.args.text.now c.in-Ok.desc c.in-Ok.ensures.ok
