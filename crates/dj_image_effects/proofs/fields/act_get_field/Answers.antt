use Rattle.std.proofs.Common.{sym, subst}
use Rattle.dj_image_effects.specs.Acting.{ActsOnHeap}
use Rattle.dj_image_effects.proofs.FieldAccesses.{got, get_none}
use Rattle.dj_image_effects.proofs.fields.act_get_field.Goals as goal

pub returns-in_default : goal.returns-in_default
returns-in_default c = λ member found is. get_none c.args.image.now member found c.args.field.number is c.args.frames.now c.args.heap.now c.in_default.ensures

pub returns : goal.returns
returns c = λ member found is.
    subst (ActsOnHeap c.args.image.now _ c.args.frames.now c.get_field.new.frames c.args.heap.now c.args.heap.now) (sym c.flow_acted.ensures)
    (got c.args.image.now member found c.args.field.number is c.in-Some.access c.in-Some.ensures c.args.frames.now c.get_field.new.frames c.args.heap.now c.get_field.result
    c.requires.known c.get_field.ensures)
