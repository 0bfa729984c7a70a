use Rattle.std.proofs.Common.{◌<◌, length, arith}
use Rattle.dj_declarations.proofs.FileLaws.{within_pool}
use Rattle.dj_declarations.proofs.ListLaws.{kept_by_added, named_by_added, copies_more}
use Rattle.dj_declarations.proofs.listed.add_copy.Goals as goal

pub returns-clause-keep : goal.returns-clause-keep
returns-clause-keep c = kept_by_added c.args.copies.now.names c.add_name.new.names c.args.text.now c.in_ok-place.ensures.added

pub returns-clause-place : goal.returns-clause-place
returns-clause-place c = named_by_added c.args.copies.now.names c.add_name.new.names c.args.text.now c.in_ok-place.place c.in_ok-place.ensures.added c.in_ok-place.ensures.place

pub returns-clause-copies : goal.returns-clause-copies
returns-clause-copies c =
    let old = c.args.copies.now in
    let within : c.args.index < length old.places.items = omega (arith, within_pool c.args.pool.now c.args.index c.args.text.now c.requires.text, c.requires.copies.rooms) in
    copies_more c.args.pool.now old.names c.add_name.new.names old.places.items c.args.index c.in_ok-place.place c.args.text.now c.requires.copies (returns-clause-keep c) within c.requires.text (returns-clause-place c)
