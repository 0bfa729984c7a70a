use Rattle.std.proofs.Common.{◌≡◌, ℕ, suc, ◌-◌, ◌/◌, ◌<◌, ◌≤◌, length, sym, subst, arith, rules}
use Rattle.std.proofs.lemmas.Bool.Decides.{nat_tests}
use Rattle.std.proofs.lemmas.Result.{IfOk-weaker}
use Rattle.dj_kind_trees.specs.declared.node.Node.{Node}
use Rattle.dj_kind_trees.specs.Nodes.{node_at, size_of, IsNode, IsPut}
use Rattle.dj_kind_trees.proofs.Halves.{half_size}
use Rattle.dj_kind_trees.proofs.Making.{low_put, left_put, right_put}
use Rattle.dj_kind_trees.proofs.put.+put.Goals as goal

pub returns-then-height-eq0-clause-put : goal.returns-then-height-eq0-clause-put
returns-then-height-eq0-clause-put t c =
    low_put c.args.nodes.now.items c.args.height c.args.id c.args.slot c.args.kind c.number_of.result (grind (arith, nat_tests, c.if-height-eq0.true)) c.requires.nodes c.number_of.ensures.number c.number_of.ensures.low
    (subst (λ (n : ℕ). c.args.slot < n) c.requires.size c.requires.slot)

pub put-requires : goal.put-requires
put-requires t c =
    let high : c.args.height ≡ suc (c.args.height - 1) = grind (arith, nat_tests, c.if-height-eq0.false) in
    let double = half_size c.args.height (c.args.height - 1) c.args.size high c.requires.size in
    let at : c.node_of-node.result ≡ node_at c.args.nodes.now.items c.args.id = cc in
    (search rules, (c.requires.nodes, (subst (λ (n : Node). n.left < length c.args.nodes.now.items) (sym at) (c.requires.nodes.closed c.args.id).0, (omega (arith, double), c.if-slot-half.true))))

pub put-requires-else-slot-half : goal.put-requires-else-slot-half
put-requires-else-slot-half t c =
    let high : c.args.height ≡ suc (c.args.height - 1) = grind (arith, nat_tests, c.if-height-eq0.false) in
    let double = half_size c.args.height (c.args.height - 1) c.args.size high c.requires.size in
    let at : c.node_of-node.result ≡ node_at c.args.nodes.now.items c.args.id = cc in
    let slot = c.requires.slot in
    let past = c.if-slot-half.false in
    (search rules, (c.requires.nodes, (subst (λ (n : Node). n.right < length c.args.nodes.now.items) (sym at) (c.requires.nodes.closed c.args.id).1, (omega (arith, double), omega (arith, double, slot, past)))))

pub returns-in_ok-left-clause-put : goal.returns-in_ok-left-clause-put
returns-in_ok-left-clause-put t c =
    let high : c.args.height ≡ suc (c.args.height - 1) = grind (arith, nat_tests, c.if-height-eq0.false) in
    let double = half_size c.args.height (c.args.height - 1) c.args.size high c.requires.size in
    let at : c.node_of-node.result ≡ node_at c.args.nodes.now.items c.args.id = cc in
    let less : c.args.slot < size_of (c.args.height - 1) = omega (arith, double, c.if-slot-half.true) in
    IfOk-weaker c.add_node.result (λ (made : ℕ). IsNode c.add_node.new.nodes.items c.in_ok-left.left c.node_of-node.result.right made)
    (λ (made : ℕ). IsPut c.args.nodes.now.items c.add_node.new.nodes.items c.args.height c.args.id c.args.slot c.args.kind made)
    (λ made node. left_put c.args.nodes.now.items c.put.new.nodes.items c.add_node.new.nodes.items c.args.height (c.args.height - 1) c.args.id c.node_of-node.result c.args.slot c.args.kind c.in_ok-left.left made high c.requires.nodes at
    c.in_ok-left.ensures.keeps c.add_node.ensures.keeps less c.in_ok-left.ensures.put node) c.add_node.ensures.added

pub returns-in_ok-right-clause-put : goal.returns-in_ok-right-clause-put
returns-in_ok-right-clause-put t c =
    let high : c.args.height ≡ suc (c.args.height - 1) = grind (arith, nat_tests, c.if-height-eq0.false) in
    let double = half_size c.args.height (c.args.height - 1) c.args.size high c.requires.size in
    let half : c.args.size / 2 ≡ size_of (c.args.height - 1) = omega (arith, double) in
    let at : c.node_of-node.result ≡ node_at c.args.nodes.now.items c.args.id = cc in
    let past : size_of (c.args.height - 1) ≤ c.args.slot = omega (arith, half, c.if-slot-half.false) in
    let lower = subst (λ (n : ℕ). IsPut c.args.nodes.now.items c.put-else-slot-half.new.nodes.items (c.args.height - 1) c.node_of-node.result.right (c.args.slot - n) c.args.kind c.in_ok-right.right) half c.in_ok-right.ensures.put in
    IfOk-weaker c.add_node-else-slot-half.result (λ (made : ℕ). IsNode c.add_node-else-slot-half.new.nodes.items c.node_of-node.result.left c.in_ok-right.right made)
    (λ (made : ℕ). IsPut c.args.nodes.now.items c.add_node-else-slot-half.new.nodes.items c.args.height c.args.id c.args.slot c.args.kind made)
    (λ made node. right_put c.args.nodes.now.items c.put-else-slot-half.new.nodes.items c.add_node-else-slot-half.new.nodes.items c.args.height (c.args.height - 1) c.args.id c.node_of-node.result c.args.slot c.args.kind c.in_ok-right.right made high
    c.requires.nodes at c.in_ok-right.ensures.keeps c.add_node-else-slot-half.ensures.keeps past lower node) c.add_node-else-slot-half.ensures.added
