use Rattle.std.proofs.Common.{◌<◌, length, get_or}
use Rattle.std.proofs.lemmas.Option.{slice_get-get_or}
use Rattle.dj_graph.proofs.Marks.{numbers_more}
use Rattle.dj_graph.proofs.Lists.{At}
use Rattle.dj_graph.proofs.mark.number_nodes.Goals as goal

pub loop-node-preserved : goal.loop-node-preserved
loop-node-preserved c =
    let lt : c.loop-node.node-index < length c.args.nodes.now = c.loop-node-test.true in
    let here : At c.args.nodes.now c.loop-node.node-index (get_or c.args.nodes.now c.loop-node.node-index 0) = slice_get-get_or c.args.nodes.now c.loop-node.node-index 0 lt in
    numbers_more c.args.nodes.now c.loop-node.node-index (get_or c.args.nodes.now c.loop-node.node-index 0) c.args.number c.args.marks.now c.loop-node.marks c.loop-node.invariant here (c.requires c.loop-node.node-index (get_or c.args.nodes.now c.loop-node.node-index 0) here)
