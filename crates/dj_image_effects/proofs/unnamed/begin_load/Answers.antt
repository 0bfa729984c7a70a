use Rattle.dj_model.specs.trusted.Instructions as model
use Rattle.dj_effects.specs.Actions.{access_view}
use Rattle.dj_image_effects.proofs.BegunLaws.{begun_by, left_number, left_some}
use Rattle.dj_image_effects.proofs.unnamed.begin_load.Goals as goal

pub follow-requires-clause-some : goal.follow-requires-clause-some
follow-requires-clause-some c = left_some c.args.image.now (model.LoadElement (access_view c.args.access)) c.args.frames.now c.act_load-acted.new.frames c.args.heap.now c.args.heap.now c.act_load-acted.result c.requires.store c.act_load-acted.ensures c.requires.some

pub follow-requires-clause-number : goal.follow-requires-clause-number
follow-requires-clause-number c = left_number c.args.image.now (model.LoadElement (access_view c.args.access)) c.args.frames.now c.act_load-acted.new.frames c.args.heap.now c.args.heap.now c.act_load-acted.result c.requires.store c.act_load-acted.ensures c.args.number c.requires.number

pub returns : goal.returns
returns c = begun_by c.args.image.now (model.LoadElement (access_view c.args.access)) c.args.frames.now c.act_load-acted.new.frames c.follow.new.frames c.args.heap.now c.args.heap.now c.act_load-acted.result c.follow.result c.act_load-acted.ensures c.follow.ensures
