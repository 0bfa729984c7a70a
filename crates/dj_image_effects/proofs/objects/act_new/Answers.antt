use Rattle.std.proofs.Common.{Some}
use Rattle.dj_image_effects.proofs.Families.{new_on_heap, new_keeps}
use Rattle.dj_image_effects.proofs.objects.act_new.Goals as goal

pub returns-clause-done : goal.returns-clause-done
returns-clause-done c = λ name at.
    new_on_heap c.args.image.now c.args.frames.now c.new_object.new.frames c.args.heap.now c.new_object.new.heap c.args.class c.field_count.result name _ c.flow_acted.result c.flow_acted.ensures
    at c.field_count.ensures c.in_ok-flow.ensures

pub returns-clause-known : goal.returns-clause-known
returns-clause-known c = λ name at.
    new_keeps c.args.image.now c.args.frames.now c.new_object.new.frames c.args.heap.now c.new_object.new.heap (Some c.args.heap.now.limit) c.args.class c.field_count.result name c.in_ok-flow.flow
    c.requires.known c.requires.within at c.in_ok-flow.ensures
