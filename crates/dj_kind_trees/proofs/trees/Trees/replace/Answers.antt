use Rattle.std.proofs.Common.{ℕ, ◌+◌, ◌<◌, ◌≤◌, length, sym, subst}
use Rattle.std.proofs.lemmas.Result.{IfOk-weaker}
use Rattle.dj_kind_trees.specs.Nodes.{size_of, IsReplaced}
use Rattle.dj_kind_trees.specs.Forests.{Forest, KeepsTrees, HasReplaced}
use Rattle.dj_kind_trees.proofs.Wrapping.{forest_of, keeps_trees, has_replaced}
use Rattle.dj_kind_trees.proofs.trees.Trees.replace.Goals as goal

pub replace-requires-clause-nodes : goal.replace-requires-clause-nodes
replace-requires-clause-nodes c = c.self.invariant.nodes_are

pub replace-requires-clause-within : goal.replace-requires-clause-within
replace-requires-clause-within c = subst (λ (f : Forest). c.args.tree < length f.nodes) (sym c.self.view_is) c.requires.tree

pub replace-requires-clause-size : goal.replace-requires-clause-size
replace-requires-clause-size c = c.self.invariant.size_is

pub replace-requires-clause-room : goal.replace-requires-clause-room
replace-requires-clause-room c =
    subst (λ (n : ℕ). c.args.from + length c.args.kinds.now ≤ n) (sym c.self.invariant.size_is)
    (subst (λ (f : Forest). c.args.from + length c.args.kinds.now ≤ size_of f.height) (sym c.self.view_is) c.requires.room)

pub invariant_of-self : goal.invariant_of-self
invariant_of-self c = record { nodes_are = c.replace.ensures.nodes; size_is = c.self.invariant.size_is }

pub returns-clause-keeps : goal.returns-clause-keeps
returns-clause-keeps c =
    subst (λ (f : Forest). KeepsTrees f (forest_of c.self.inside.height c.replace.new.nodes.items)) c.self.view_is
    (keeps_trees c.self.inside.height c.self.inside.nodes.items c.replace.new.nodes.items c.replace.ensures.keeps)

pub returns-clause-replaced : goal.returns-clause-replaced
returns-clause-replaced c =
    IfOk-weaker c.replace.result (λ (made : ℕ). IsReplaced c.self.inside.nodes.items c.replace.new.nodes.items c.self.inside.height c.args.tree c.args.from c.args.kinds.now made)
    (λ (made : ℕ). HasReplaced c.args.self.now (forest_of c.self.inside.height c.replace.new.nodes.items) c.args.tree c.args.from c.args.kinds.now made)
    (λ made is. subst (λ (f : Forest). HasReplaced f (forest_of c.self.inside.height c.replace.new.nodes.items) c.args.tree c.args.from c.args.kinds.now made) c.self.view_is
    (has_replaced c.self.inside.height c.self.inside.nodes.items c.replace.new.nodes.items c.args.tree c.args.from c.args.kinds.now made is)) c.replace.ensures.replaced
