use Rattle.dj_model.specs.trusted.Instructions as model
use Rattle.dj_effects.specs.Actions.{access_view}
use Rattle.dj_numbering.specs.Typed.{types_of}
use Rattle.dj_image.specs.Imaged.{typed_of}
use Rattle.dj_image_effects.proofs.BegunLaws.{begun_by, begun_known, left_number, left_some}
use Rattle.dj_image_effects.proofs.OperandFacts.{heap_is}
use Rattle.dj_image_effects.proofs.unnamed.begin_store.Goals as goal

pub store_at_once-acted-requires : goal.store_at_once-acted-requires
store_at_once-acted-requires c = heap_is c.args.image.now c.args.heap.now c.requires.known

pub follow-requires-clause-some : goal.follow-requires-clause-some
follow-requires-clause-some c = left_some c.args.image.now (model.StoreElement (access_view c.args.access)) c.args.frames.now c.store_at_once-acted.new.frames c.args.heap.now c.store_at_once-acted.new.heap c.store_at_once-acted.result c.requires.store c.store_at_once-acted.ensures.done c.requires.some

pub follow-requires-clause-number : goal.follow-requires-clause-number
follow-requires-clause-number c = left_number c.args.image.now (model.StoreElement (access_view c.args.access)) c.args.frames.now c.store_at_once-acted.new.frames c.args.heap.now c.store_at_once-acted.new.heap c.store_at_once-acted.result c.requires.store c.store_at_once-acted.ensures.done c.args.number c.requires.number

pub returns-clause-begins : goal.returns-clause-begins
returns-clause-begins c = begun_by c.args.image.now (model.StoreElement (access_view c.args.access)) c.args.frames.now c.store_at_once-acted.new.frames c.follow.new.frames c.args.heap.now c.store_at_once-acted.new.heap c.store_at_once-acted.result c.follow.result c.store_at_once-acted.ensures.done c.follow.ensures

pub returns-clause-known : goal.returns-clause-known
returns-clause-known c =
    begun_known (types_of (typed_of c.args.image.now)) c.store_at_once-acted.new.heap c.store_at_once-acted.result c.store_at_once-acted.new.frames c.follow.new.frames c.follow.result c.store_at_once-acted.ensures.known c.follow.ensures
