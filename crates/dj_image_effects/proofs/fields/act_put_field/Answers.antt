use Rattle.std.proofs.Common.{Some, None, sym, subst}
use Rattle.dj_model.specs.trusted.Instructions.{PutField}
use Rattle.dj_numbering.specs.Typed.{types_of}
use Rattle.dj_image.specs.Imaged.{typed_of}
use Rattle.dj_initialisation.specs.Store.{store}
use Rattle.dj_image_effects.specs.Acting.{ActsOnHeap, machine}
use Rattle.dj_image_effects.proofs.FieldAccesses.{put, put_none}
use Rattle.dj_image_effects.proofs.Frugal.{never_stuck}
use Rattle.dj_image_effects.proofs.KnownHeaps.{put_known}
use Rattle.dj_image_effects.proofs.fields.act_put_field.Goals as goal

pub returns-in_default-clause-done : goal.returns-in_default-clause-done
returns-in_default-clause-done c = λ member found is. put_none c.args.image.now member found c.args.field.number is c.args.frames.now c.args.heap.now c.in_default.ensures

pub returns-clause-done : goal.returns-clause-done
returns-clause-done c = λ member found is.
    subst (ActsOnHeap c.args.image.now _ c.args.frames.now c.put_field.new.frames c.args.heap.now c.put_field.new.heap) (sym c.flow_acted.ensures)
    (put c.args.image.now member found c.args.field.number is c.in-Some.access c.in-Some.ensures c.args.frames.now c.put_field.new.frames c.args.heap.now c.put_field.new.heap (Some c.in-Some-put_field.flow)
    c.requires.known c.in-Some-put_field.ensures)

pub returns-clause-known : goal.returns-clause-known
returns-clause-known c =
    put_known (types_of (typed_of c.args.image.now)) _ c.in-Some.access.kind c.in-Some.access.place c.args.frames.now c.put_field.new.frames c.args.heap.now c.put_field.new.heap
    c.in-Some-put_field.flow c.requires.known.known c.in-Some-put_field.ensures

pub returns-in_default-put_field-clause-frugal : goal.returns-in_default-put_field-clause-frugal
returns-in_default-put_field-clause-frugal c = λ member found is statics literals are frugal.
    never_stuck c.args.image.now (PutField member) (machine c.args.frames.now (store c.args.heap.now statics literals)) (machine c.put_field.new.frames (store c.put_field.new.heap statics literals)) frugal
    (put c.args.image.now member found c.args.field.number is c.in-Some.access c.in-Some.ensures c.args.frames.now c.put_field.new.frames c.args.heap.now c.put_field.new.heap None
    c.requires.known c.in_default-put_field.ensures statics literals are)
