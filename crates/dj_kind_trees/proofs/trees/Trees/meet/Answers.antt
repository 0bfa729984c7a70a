use Rattle.std.proofs.Common.{ℕ, ◌<◌, length, sym, subst}
use Rattle.std.proofs.lemmas.Result.{IfOk-weaker}
use Rattle.dj_kind_trees.specs.Nodes.{IsMeet}
use Rattle.dj_kind_trees.specs.Forests.{Forest, KeepsTrees, HasMet}
use Rattle.dj_kind_trees.proofs.Wrapping.{forest_of, keeps_trees, has_met}
use Rattle.dj_kind_trees.proofs.trees.Trees.meet.Goals as goal

pub meet-requires-clause-nodes : goal.meet-requires-clause-nodes
meet-requires-clause-nodes c = c.self.invariant.nodes_are

pub meet-requires-clause-left : goal.meet-requires-clause-left
meet-requires-clause-left c = subst (λ (f : Forest). c.args.first < length f.nodes) (sym c.self.view_is) c.requires.first

pub meet-requires-clause-right : goal.meet-requires-clause-right
meet-requires-clause-right c = subst (λ (f : Forest). c.args.second < length f.nodes) (sym c.self.view_is) c.requires.second

pub invariant_of-self : goal.invariant_of-self
invariant_of-self c = record { nodes_are = c.meet.ensures.nodes; size_is = c.self.invariant.size_is }

pub returns-clause-keeps : goal.returns-clause-keeps
returns-clause-keeps c =
    subst (λ (f : Forest). KeepsTrees f (forest_of c.self.inside.height c.meet.new.nodes.items)) c.self.view_is
    (keeps_trees c.self.inside.height c.self.inside.nodes.items c.meet.new.nodes.items c.meet.ensures.keeps)

pub returns-clause-met : goal.returns-clause-met
returns-clause-met c =
    IfOk-weaker c.meet.result (λ (made : ℕ). IsMeet c.self.inside.nodes.items c.meet.new.nodes.items c.self.inside.height c.args.first c.args.second made)
    (λ (made : ℕ). HasMet c.args.self.now (forest_of c.self.inside.height c.meet.new.nodes.items) c.args.first c.args.second made)
    (λ made is. subst (λ (f : Forest). HasMet f (forest_of c.self.inside.height c.meet.new.nodes.items) c.args.first c.args.second made) c.self.view_is
    (has_met c.self.inside.height c.self.inside.nodes.items c.meet.new.nodes.items c.args.first c.args.second made is)) c.meet.ensures.meet
