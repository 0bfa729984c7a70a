use Rattle.std.proofs.Common.{reverse, subst}
use Rattle.dj_shape_rule.specs.Standing.{Standing, IsNoted, SameButStates}
use Rattle.dj_shape_rule.proofs.Standings.{standing_of, but_states, noted}
use Rattle.dj_shape_rule.proofs.state.KindState.note.Goals as goal

pub returns-in_err-note-clause-same : goal.returns-in_err-note-clause-same
returns-in_err-note-clause-same c =
    let stack = reverse c.self.inside.stack.items in
    subst (λ (s : Standing). SameButStates s (standing_of c.self.inside.max_stack c.note.new.self stack)) c.self.view_is
    (but_states c.self.inside.max_stack stack c.self.inside.lists c.note.new.self c.note.ensures.same)

pub returns-clause-same : goal.returns-clause-same
returns-clause-same c =
    let stack = reverse c.self.inside.stack.items in
    subst (λ (s : Standing). SameButStates s (standing_of c.self.inside.max_stack c.note.new.self stack)) c.self.view_is
    (but_states c.self.inside.max_stack stack c.self.inside.lists c.note.new.self c.note.ensures.same)

pub returns-clause-noted : goal.returns-clause-noted
returns-clause-noted c =
    let stack = reverse c.self.inside.stack.items in
    subst (λ (s : Standing). IsNoted s (standing_of c.self.inside.max_stack c.note.new.self stack)) c.self.view_is
    (noted c.self.inside.max_stack stack c.self.inside.lists c.note.new.self c.note.ensures.same c.in_ok-note.ensures.noted)
