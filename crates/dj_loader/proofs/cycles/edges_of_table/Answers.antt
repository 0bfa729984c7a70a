use Rattle.std.proofs.Common.{◌≡◌, ℕ, ◌+◌, List, map, take, sym, subst, arith}
use Rattle.std.specs.Global.{Vec}
use Rattle.dj_graph.specs.Graphs.{edges_of}
use Rattle.dj_loader.specs.Numbered.{above_numbers}
use Rattle.dj_loader.proofs.Components.{edges_more, all_edges, few_edges}
use Rattle.dj_loader.proofs.cycles.edges_of_table.Goals as goal

pub loop-class-preserved : goal.loop-class-preserved
loop-class-preserved c =
    let table = c.args.table.now in
    let class = c.loop-class.class in
    subst (λ (lists : List (Vec ℕ)). edges_of lists ≡ map (above_numbers table) (take (class + 1) table)) (sym {A = List (Vec ℕ)} c.in_ok-push.ensures.items)
    (edges_more table class c.loop-class.edges.items c.in_ok-above_of.field-0 (omega arith) c.loop-class.invariant c.in_ok-above_of.ensures.numbers)

pub returns-clause-edges : goal.returns-clause-edges
returns-clause-edges c = all_edges c.args.table.now c.loop-class.class c.loop-class.edges.items (omega arith) c.loop-class.invariant

pub returns-clause-few : goal.returns-clause-few
returns-clause-few c =
    few_edges c.args.table.now c.loop-class.edges.items (all_edges c.args.table.now c.loop-class.class c.loop-class.edges.items (omega arith) c.loop-class.invariant) c.class_count-class-end.ensures.few
