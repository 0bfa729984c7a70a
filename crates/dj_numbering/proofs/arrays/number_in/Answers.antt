use Rattle.std.proofs.Common.{Some, map, sym, ap, ◌+◌, ◌∙◌, arith, ℕ}
use Rattle.std.proofs.lemmas.List.{length-map}
use Rattle.dj_numbering.specs.Kept.{text_in}
use Rattle.dj_numbering.proofs.Numbers.{number_of_class, number_of_none, number_of_text, place_within}
use Rattle.dj_numbering.proofs.arrays.number_in.Goals as goal

pub returns-in-Some : goal.returns-in-Some
returns-in-Some c = sym (number_of_class c.args.table.now (map (text_in c.args.wholes.now) c.args.shapes.now) c.args.text.now c.in-Some.class (sym c.in-Some.ensures))

pub overflow_add-result : goal.overflow_add-result
overflow_add-result c =
    let within = place_within (map (text_in c.args.wholes.now) c.args.shapes.now) c.args.text.now c.in_ok-place_in-in-None.field-0 (sym c.in_ok-place_in-in-None.ensures) in
    omega (arith, within, length-map c.args.shapes.now (text_in c.args.wholes.now), c.requires.few, c.class_count.ensures.count)

pub returns-in_err-place_in-in-None : goal.returns-in_err-place_in-in-None
returns-in_err-place_in-in-None c =
    rw c.from_residual.ensures (sym (number_of_none c.args.table.now (map (text_in c.args.wholes.now) c.args.shapes.now) c.args.text.now (sym c.in-None.ensures) (sym c.in_err-place_in-in-None.ensures)))

pub returns-in_ok-place_in-in-None : goal.returns-in_ok-place_in-in-None
returns-in_ok-place_in-in-None c =
    ap (λ (n : ℕ). Some (n + c.in_ok-place_in-in-None.field-0)) c.class_count.ensures.count
    ∙ sym (number_of_text c.args.table.now (map (text_in c.args.wholes.now) c.args.shapes.now) c.args.text.now c.in_ok-place_in-in-None.field-0 (sym c.in-None.ensures) (sym c.in_ok-place_in-in-None.ensures))
