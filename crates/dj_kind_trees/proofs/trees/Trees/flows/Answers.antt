use Rattle.std.proofs.Common.{◌≡◌, ◌<◌, ◌++◌, List, length, take, drop, sym, ap, subst, ◌∙◌, arith}
use Rattle.std.specs.Prelude.{Decides}
use Rattle.dj_kind_trees.specs.declared.node.Node.{Node}
use Rattle.dj_kind_trees.specs.Nodes.{AreNodes, Keeps, Meets}
use Rattle.dj_kind_trees.specs.Forests.{Forest, KeepsTrees, FlowsInto}
use Rattle.dj_kind_trees.proofs.Wrapping.{forest_of, keeps_trees, flows_into, in_place}
use Rattle.dj_kind_trees.proofs.trees.Trees.flows.Goals as goal

pub flows-requires-clause-nodes : goal.flows-requires-clause-nodes
flows-requires-clause-nodes c = subst AreNodes (sym c.deref_mut.ensures.value) c.self.invariant.nodes_are

pub flows-requires-clause-left : goal.flows-requires-clause-left
flows-requires-clause-left c =
    subst (λ (l : List Node). c.args.first < length l) (sym c.deref_mut.ensures.value) (subst (λ (f : Forest). c.args.first < length f.nodes) (sym c.self.view_is) c.requires.first)

pub flows-requires-clause-right : goal.flows-requires-clause-right
flows-requires-clause-right c =
    subst (λ (l : List Node). c.args.second < length l) (sym c.deref_mut.ensures.value) (subst (λ (f : Forest). c.args.second < length f.nodes) (sym c.self.view_is) c.requires.second)

pub invariant_of-self : goal.invariant_of-self
invariant_of-self c =
    let count : length c.flows.new.nodes ≡ length c.self.inside.nodes.items = c.flows.auto.nodes ∙ ap length c.deref_mut.ensures.value in
    let len : c.self.inside.nodes.len ≡ length c.self.inside.nodes.items = omega (arith, c.self.inside.nodes.ok.0) in
    let same = in_place c.self.inside.nodes.len c.self.inside.nodes.items c.flows.new.nodes len count in
    record { nodes_are = subst AreNodes (sym same) c.flows.ensures.nodes; size_is = c.self.invariant.size_is }

pub returns-clause-decides : goal.returns-clause-decides
returns-clause-decides c =
    subst (λ (f : Forest). Decides c.flows.result (FlowsInto f c.args.first c.args.second)) c.self.view_is
    (flows_into c.self.inside.height c.self.inside.nodes.items c.args.first c.args.second c.flows.result
    (subst (λ (l : List Node). Decides c.flows.result (Meets l c.self.inside.height c.args.first c.args.second)) c.deref_mut.ensures.value c.flows.ensures.decides))

pub returns-clause-keeps : goal.returns-clause-keeps
returns-clause-keeps c =
    let count : length c.flows.new.nodes ≡ length c.self.inside.nodes.items = c.flows.auto.nodes ∙ ap length c.deref_mut.ensures.value in
    let len : c.self.inside.nodes.len ≡ length c.self.inside.nodes.items = omega (arith, c.self.inside.nodes.ok.0) in
    let same = in_place c.self.inside.nodes.len c.self.inside.nodes.items c.flows.new.nodes len count in
    let keeps = subst (λ (l : List Node). Keeps l c.flows.new.nodes) c.deref_mut.ensures.value c.flows.ensures.keeps in
    subst (λ (f : Forest). KeepsTrees f (forest_of c.self.inside.height (take c.self.inside.nodes.len (c.flows.new.nodes ++ drop (length c.flows.new.nodes) c.self.inside.nodes.items)))) c.self.view_is
    (subst (λ (l : List Node). KeepsTrees (forest_of c.self.inside.height c.self.inside.nodes.items) (forest_of c.self.inside.height l)) (sym same)
    (keeps_trees c.self.inside.height c.self.inside.nodes.items c.flows.new.nodes keeps))
