use Rattle.std.proofs.Common.{List, ap, ◌∙◌}
use Rattle.dj_kind_trees.specs.declared.node.Node.{Node}
use Rattle.dj_kind_trees.specs.Nodes.{kind_at}
use Rattle.dj_kind_trees.specs.Forests.{Forest, kind_in}
use Rattle.dj_kind_trees.proofs.trees.Trees.get.Goals as goal

pub get-requires : goal.get-requires
get-requires c = c.self.invariant.size_is

pub returns : goal.returns
returns c =
    c.get.ensures ∙ ap (λ (l : List Node). kind_at l c.self.inside.height c.args.tree c.args.slot) c.deref.ensures.value
    ∙ ap (λ (f : Forest). kind_in f c.args.tree c.args.slot) c.self.view_is
