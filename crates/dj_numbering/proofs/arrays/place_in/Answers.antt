use Rattle.std.proofs.Common.{rules, sym}
use Rattle.std.proofs.lemmas.Fn.{always_returns_same}
use Rattle.dj_numbering.specs.declared.shapes.Shape.{Shape}
use Rattle.dj_numbering.specs.Kept.{text_in}
use Rattle.dj_numbering.proofs.Texts.{against, text_found, text_missing}
use Rattle.dj_numbering.proofs.arrays.place_in.Goals as goal

pub returns-in-Ok : goal.returns-in-Ok
returns-in-Ok c =
    let equal = c.in-Ok.ensures.position (λ (shape : Shape). against c.args.text.now (text_in c.args.wholes.now shape)) (always_returns_same _ _ _ (λ a r f called. search rules)) in
    sym (text_found (text_in c.args.wholes.now) c.args.shapes.now c.requires.rise c.args.text.now _ c.in-Ok.ensures.bound equal)

pub returns-in-Err : goal.returns-in-Err
returns-in-Err c =
    let parted = c.in-Err.ensures.position (λ (shape : Shape). against c.args.text.now (text_in c.args.wholes.now shape)) (always_returns_same _ _ _ (λ a r f called. search rules)) in
    sym (text_missing (text_in c.args.wholes.now) c.args.shapes.now c.requires.rise c.args.text.now _ parted)
