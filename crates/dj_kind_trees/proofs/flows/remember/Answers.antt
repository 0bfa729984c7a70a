use Rattle.dj_kind_trees.proofs.Growing.{are_reminded, keeps_reminded}
use Rattle.dj_kind_trees.proofs.flows.remember.Goals as goal

pub returns-then-node-height-clause-nodes : goal.returns-then-node-height-clause-nodes
returns-then-node-height-clause-nodes c =
    are_reminded c.args.nodes.now c.args.f c.args.s c.if-at-nodes.true c.args.height c.requires.nodes c.requires.meets c.if-node-height.true c.requires.some c.requires.within

pub returns-then-node-height-clause-keeps : goal.returns-then-node-height-clause-keeps
returns-then-node-height-clause-keeps c = keeps_reminded c.args.nodes.now c.args.f c.args.s c.if-at-nodes.true
