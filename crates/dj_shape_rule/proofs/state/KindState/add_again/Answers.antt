use Rattle.std.proofs.Common.{◌≡◌, ◌++◌, ◌∷◌, [], List, Option, get_or, reverse, subst}
use Rattle.dj_names.specs.declared.descriptor.Kind.{Kind}
use Rattle.dj_kind_lists.specs.Lists.{IsChanged}
use Rattle.dj_shape_rule.specs.Standing.{Standing, SameButLists}
use Rattle.dj_shape_rule.proofs.Standings.{standing_of, but_lists}
use Rattle.dj_shape_rule.proofs.state.KindState.add_again.Goals as goal

pub returns-in_err-add_again-clause-same : goal.returns-in_err-add_again-clause-same
returns-in_err-add_again-clause-same c =
    let stack = reverse c.self.inside.stack.items in
    subst (λ (s : Standing). SameButLists s (standing_of c.self.inside.max_stack c.add_again.new.self stack)) c.self.view_is
    (but_lists c.self.inside.max_stack stack c.self.inside.lists c.add_again.new.self c.add_again.ensures.same)

pub returns-clause-same : goal.returns-clause-same
returns-clause-same c =
    let stack = reverse c.self.inside.stack.items in
    subst (λ (s : Standing). SameButLists s (standing_of c.self.inside.max_stack c.add_again.new.self stack)) c.self.view_is
    (but_lists c.self.inside.max_stack stack c.self.inside.lists c.add_again.new.self c.add_again.ensures.same)

pub returns-clause-added : goal.returns-clause-added
returns-clause-added c =
    subst (λ (s : Standing). (made : List (Option Kind)) × (c.add_again.new.self.frames ≡ s.frames ++ made ∷ []) × IsChanged s.max_locals (get_or s.frames c.args.base []) s.max_locals [] made) c.self.view_is
    c.in_ok-add_again.ensures.added
