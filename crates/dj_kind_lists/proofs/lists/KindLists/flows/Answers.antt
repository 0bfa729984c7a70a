use Rattle.std.proofs.Common.{◌≡◌, ◌∙◌, ℕ, List, Option, slice_get, Decides, ap, subst}
use Rattle.dj_names.specs.declared.descriptor.Kind.{Kind}
use Rattle.dj_kind_trees.specs.Forests.{FlowsInto}
use Rattle.dj_kind_lists.specs.Lists.{Lists, ListFlows, kinds_of, tree_at}
use Rattle.dj_kind_lists.proofs.Listing.{whole_kept, tree_got, decides_lists}
use Rattle.dj_kind_lists.proofs.lists.KindLists.flows.Goals as goal

pub returns-clause-same : goal.returns-clause-same
returns-clause-same c =
    whole_kept c.self.inside.trees c.flows.new.self c.flows.ensures.keeps c.self.inside.count c.self.inside.current c.self.inside.frames.items c.self.inside.states.items c.self.invariant ∙ c.self.view_is

pub returns-clause-flows : goal.returns-clause-flows
returns-clause-flows c = λ list at.
    let trees = c.self.inside.trees in
    let count = c.self.inside.count in
    let are = c.self.invariant in
    let tree = tree_at c.self.inside.frames.items c.args.number in
    let got = tree_got trees count c.self.inside.frames.items c.args.number list (ap (λ (v : Lists). slice_get v.frames c.args.number) c.self.view_is ∙ at) in
    let is : c.tree_at-frame.result ≡ tree = c.tree_at-frame.ensures ∙ ap (λ (l : List ℕ). tree_at l c.args.number) c.deref.ensures.value in
    let decides = subst (λ (n : ℕ). Decides c.flows.result (FlowsInto trees c.self.inside.current n)) is c.flows.ensures.decides in
    let lists = decides_lists trees count c.self.inside.current tree are.room are.current_is (are.frames_are c.args.number) c.flows.result decides in
    subst (λ (v : Lists). Decides c.flows.result (ListFlows v.current list)) c.self.view_is
    (subst (λ (l : List (Option Kind)). Decides c.flows.result (ListFlows (kinds_of trees count c.self.inside.current) l)) got lists)
