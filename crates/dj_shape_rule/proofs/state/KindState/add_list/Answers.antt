use Rattle.std.proofs.Common.{◌≡◌, ◌+◌, ◌≤◌, ◌++◌, ◌∷◌, [], List, Option, length, get_or, reverse, sym, subst}
use Rattle.dj_names.specs.declared.descriptor.Kind.{Kind}
use Rattle.dj_kind_lists.specs.Lists.{IsChanged}
use Rattle.dj_shape_rule.specs.Standing.{Standing, SameButLists}
use Rattle.dj_shape_rule.proofs.Standings.{standing_of, but_lists}
use Rattle.dj_shape_rule.proofs.state.KindState.add_list.Goals as goal

pub add-requires : goal.add-requires
add-requires c = subst (λ (s : Standing). c.args.from + length c.args.kinds.now ≤ s.max_locals) (sym c.self.view_is) c.requires

pub returns-in_err-add-clause-same : goal.returns-in_err-add-clause-same
returns-in_err-add-clause-same c =
    let stack = reverse c.self.inside.stack.items in
    subst (λ (s : Standing). SameButLists s (standing_of c.self.inside.max_stack c.add.new.self stack)) c.self.view_is
    (but_lists c.self.inside.max_stack stack c.self.inside.lists c.add.new.self c.add.ensures.same)

pub returns-clause-same : goal.returns-clause-same
returns-clause-same c =
    let stack = reverse c.self.inside.stack.items in
    subst (λ (s : Standing). SameButLists s (standing_of c.self.inside.max_stack c.add.new.self stack)) c.self.view_is
    (but_lists c.self.inside.max_stack stack c.self.inside.lists c.add.new.self c.add.ensures.same)

pub returns-clause-added : goal.returns-clause-added
returns-clause-added c =
    subst (λ (s : Standing). (made : List (Option Kind)) × (c.add.new.self.frames ≡ s.frames ++ made ∷ []) × IsChanged s.max_locals (get_or s.frames c.args.base []) c.args.from c.args.kinds.now made) c.self.view_is
    c.in_ok-add.ensures.added
