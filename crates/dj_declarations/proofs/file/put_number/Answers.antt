use Rattle.dj_declarations.proofs.FileLaws.{numbered_more}
use Rattle.dj_declarations.proofs.file.put_number.Goals as goal

pub returns : goal.returns
returns c =
    numbered_more c.args.pool.now c.args.places.now.items c.args.index c.in_ok-number.number c.args.text.now c.args.table.now c.add.new.self
    c.requires.numbered c.in_ok-number.ensures.keeps c.requires.text c.in_ok-number.ensures.reported
