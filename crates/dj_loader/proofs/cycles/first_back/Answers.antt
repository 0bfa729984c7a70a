use Rattle.std.proofs.Common.{arith}
use Rattle.std.proofs.lemmas.Option.{slice_get-get_or}
use Rattle.dj_graph.specs.Graphs.{edges_of}
use Rattle.dj_loader.specs.Numbered.{LeadsBack}
use Rattle.dj_loader.proofs.Components.{targets_there, node_within, leads_within}
use Rattle.dj_loader.proofs.Reported.{none_more, not_back}
use Rattle.dj_loader.proofs.cycles.first_back.Goals as goal

pub loop-node-preserved : goal.loop-node-preserved
loop-node-preserved c =
    let lists = c.args.edges.now in
    let numbers = c.args.numbers.now in
    let node = c.loop-node.node in
    none_more (LeadsBack (edges_of lists) numbers) node c.loop-node.invariant
    (not_back (edges_of lists) numbers node _ c.deref.result.now c.leads_back.result (slice_get-get_or numbers node _ (node_within lists numbers node c.requires.components (omega arith)))
    (targets_there lists node c.index-edges-node.result c.deref.result.now (omega arith) c.index-edges-node.is c.deref.ensures.value) c.leads_back.ensures c.if-leads_back.false)

pub returns : goal.returns
returns c k leads = c.loop-node.invariant k (let lt = leads_within c.args.edges.now c.args.numbers.now k leads in omega (arith, lt)) leads
