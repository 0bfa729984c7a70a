use Rattle.std.proofs.Common.{ℕ, ◌<◌, length, sym, subst}
use Rattle.std.proofs.lemmas.Result.{IfOk-weaker}
use Rattle.dj_kind_trees.specs.Nodes.{size_of, IsPut}
use Rattle.dj_kind_trees.specs.Forests.{Forest, KeepsTrees, HasPut}
use Rattle.dj_kind_trees.proofs.Wrapping.{forest_of, keeps_trees, has_put}
use Rattle.dj_kind_trees.proofs.trees.Trees.put.Goals as goal

pub put_kind-requires-clause-nodes : goal.put_kind-requires-clause-nodes
put_kind-requires-clause-nodes c = c.self.invariant.nodes_are

pub put_kind-requires-clause-within : goal.put_kind-requires-clause-within
put_kind-requires-clause-within c = subst (λ (f : Forest). c.args.tree < length f.nodes) (sym c.self.view_is) c.requires.tree

pub put_kind-requires-clause-size : goal.put_kind-requires-clause-size
put_kind-requires-clause-size c = c.self.invariant.size_is

pub put_kind-requires-clause-slot : goal.put_kind-requires-clause-slot
put_kind-requires-clause-slot c =
    subst (λ (n : ℕ). c.args.slot < n) (sym c.self.invariant.size_is) (subst (λ (f : Forest). c.args.slot < size_of f.height) (sym c.self.view_is) c.requires.slot)

pub invariant_of-self : goal.invariant_of-self
invariant_of-self c = record { nodes_are = c.put_kind.ensures.nodes; size_is = c.self.invariant.size_is }

pub returns-clause-keeps : goal.returns-clause-keeps
returns-clause-keeps c =
    subst (λ (f : Forest). KeepsTrees f (forest_of c.self.inside.height c.put_kind.new.nodes.items)) c.self.view_is
    (keeps_trees c.self.inside.height c.self.inside.nodes.items c.put_kind.new.nodes.items c.put_kind.ensures.keeps)

pub returns-clause-put : goal.returns-clause-put
returns-clause-put c =
    IfOk-weaker c.put_kind.result (λ (made : ℕ). IsPut c.self.inside.nodes.items c.put_kind.new.nodes.items c.self.inside.height c.args.tree c.args.slot c.args.kind made)
    (λ (made : ℕ). HasPut c.args.self.now (forest_of c.self.inside.height c.put_kind.new.nodes.items) c.args.tree c.args.slot c.args.kind made)
    (λ made is. subst (λ (f : Forest). HasPut f (forest_of c.self.inside.height c.put_kind.new.nodes.items) c.args.tree c.args.slot c.args.kind made) c.self.view_is
    (has_put c.self.inside.height c.self.inside.nodes.items c.put_kind.new.nodes.items c.args.tree c.args.slot c.args.kind made is)) c.put_kind.ensures.put
