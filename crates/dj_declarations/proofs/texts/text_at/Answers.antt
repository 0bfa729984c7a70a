use Rattle.std.proofs.Common.{arith}
use Rattle.dj_declarations.proofs.TextLaws.{starts_before, ends_inside, text_read}
use Rattle.dj_declarations.proofs.texts.text_at.Goals as goal

pub slice_bounds-result-end : goal.slice_bounds-result-end
slice_bounds-result-end c =
    let le = starts_before c.args.ends.now c.args.bytes.now c.args.place c.start_at-start.result c.requires.ended c.requires.within c.start_at-start.ensures in
    let inside = ends_inside c.args.ends.now c.args.bytes.now c.args.place c.requires.ended c.requires.within in
    omega (arith, le, inside)

pub returns : goal.returns
returns c = text_read c.args.ends.now c.args.bytes.now c.args.place c.start_at-start.result c.requires.within c.start_at-start.ensures
