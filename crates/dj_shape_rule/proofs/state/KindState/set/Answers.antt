use Rattle.std.proofs.Common.{◌∙◌, slice_get, reverse, ap, subst}
use Rattle.std.proofs.lemmas.Result.{IfOk-weaker}
use Rattle.dj_shape_rule.specs.Standing.{Standing, SameRoom}
use Rattle.dj_shape_rule.proofs.Standings.{standing_of, same_room, set_so, room_after}
use Rattle.dj_shape_rule.proofs.state.KindState.set.Goals as goal

pub returns-clause-room : goal.returns-clause-room
returns-clause-room c =
    let stack = reverse c.self.inside.stack.items in
    room_after c.args.self.now (standing_of c.self.inside.max_stack c.take.new.self stack) c.set_stack.new.self
    (subst (λ (s : Standing). SameRoom s (standing_of c.self.inside.max_stack c.take.new.self stack)) c.self.view_is (same_room c.self.inside.max_stack stack c.self.inside.lists c.take.new.self c.take.ensures.same))
    c.set_stack.ensures.locals.1

pub returns-clause-set : goal.returns-clause-set
returns-clause-set c =
    let s = c.args.self.now in
    let t = standing_of c.self.inside.max_stack c.take.new.self (reverse c.self.inside.stack.items) in
    let reported = c.args.reported.now in
    let own = c.take.ensures.taken _ (ap (λ (x : Standing). slice_get x.frames reported.place) c.self.view_is ∙ c.requires.at) in
    IfOk-weaker c.set_stack.result _ _ (λ fits left.
    set_so s t c.set_stack.new.self reported.place reported.locals reported.stack.now fits c.requires own (ap (λ (x : Standing). x.max_stack) c.self.view_is) c.set_stack.ensures.locals left)
    c.set_stack.ensures.set
