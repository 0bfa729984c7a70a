use Rattle.std.proofs.Common.{ℕ, List, length, map, sym, subst}
use Rattle.std.specs.Global.{Vec}
use Rattle.std.proofs.lemmas.List.{length-map}
use Rattle.dj_graph.specs.Graphs.{edges_of, IsInside, AreComponents}
use Rattle.dj_hierarchy_rule.specs.Views.{seen_view}
use Rattle.dj_hierarchy_rule.proofs.Climbing.{joined, all_inside}
use Rattle.dj_hierarchy_rule.proofs.edges.join.Goals as goal

pub components-requires-clause-inside : goal.components-requires-clause-inside
components-requires-clause-inside c =
    subst (λ (edges : List (Vec ℕ)). IsInside (edges_of edges)) (sym c.deref.ensures.value)
    (all_inside (map seen_view c.args.heads.now) c.args.names.now c.requires.known (length c.args.heads.now) (edges_of c.in_ok-edges.edges.items) c.in_ok-edges.ensures (sym (length-map c.args.heads.now seen_view)))

pub returns : goal.returns
returns c =
    joined (map seen_view c.args.heads.now) c.args.names.now c.requires.known (length c.args.heads.now) (edges_of c.in_ok-edges.edges.items) c.in_ok-edges.ensures c.in_ok-numbers.numbers.items
    (sym (length-map c.args.heads.now seen_view))
    (subst (λ (edges : List (Vec ℕ)). AreComponents (edges_of edges) c.in_ok-numbers.numbers.items) c.deref.ensures.value c.in_ok-numbers.ensures)
