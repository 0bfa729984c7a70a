use Rattle.std.proofs.Common.{◌≡◌, ℕ, suc, ◌-◌, ◌/◌, ◌<◌, ◌≤◌, List, Option, None, length, sym, ap, subst, arith, rules}
use Rattle.std.proofs.lemmas.Bool.Decides.{nat_tests}
use Rattle.std.proofs.lemmas.List.{nil_from_length}
use Rattle.std.proofs.lemmas.Result.{IfOk-weaker}
use Rattle.dj_names.specs.declared.descriptor.Kind.{Kind}
use Rattle.dj_kind_trees.specs.declared.node.Node.{Node}
use Rattle.dj_kind_trees.specs.Nodes.{node_at, size_of, IsNode, IsReplaced}
use Rattle.dj_kind_trees.proofs.Halves.{half_size}
use Rattle.dj_kind_trees.proofs.Making.{all_replaced, low_replaced, right_replaced, left_replaced, both_replaced}
use Rattle.dj_kind_trees.proofs.replace.+replace.Goals as goal

pub returns-then-is_empty-clause-replaced : goal.returns-then-is_empty-clause-replaced
returns-then-is_empty-clause-replaced t c =
    let empty : length c.args.kinds.now ≡ 0 = grind (arith, nat_tests, c.is_empty.ensures, c.if-is_empty.true) in
    all_replaced c.args.nodes.now.items c.args.height c.args.id c.args.from c.args.kinds.now c.requires.nodes (grind (arith, nat_tests, c.if-from-eq0.true)) (nil_from_length c.args.kinds.now empty)

pub returns-then-height-eq0-clause-replaced : goal.returns-then-height-eq0-clause-replaced
returns-then-height-eq0-clause-replaced t c =
    low_replaced c.args.nodes.now.items c.args.height c.args.id c.args.from c.args.size c.args.kinds.now c.number_of.result c.first_of.result c.requires.nodes (grind (arith, nat_tests, c.if-height-eq0.true)) c.requires.size c.if-size-from.false
    c.number_of.ensures.number c.number_of.ensures.low c.first_of.ensures

pub replace-requires : goal.replace-requires
replace-requires t c =
    let high : c.args.height ≡ suc (c.args.height - 1) = grind (arith, nat_tests, c.if-height-eq0.false) in
    let double = half_size c.args.height (c.args.height - 1) c.args.size high c.requires.size in
    let at : c.node_of-node.result ≡ node_at c.args.nodes.now.items c.args.id = cc in
    let room = c.requires.room in
    let past = c.if-half-from.true in
    (search rules, (c.requires.nodes, (subst (λ (n : Node). n.right < length c.args.nodes.now.items) (sym at) (c.requires.nodes.closed c.args.id).1, (omega (arith, double), omega (arith, double, room, past)))))

pub returns-then-half-from-clause-replaced : goal.returns-then-half-from-clause-replaced
returns-then-half-from-clause-replaced t c =
    let high : c.args.height ≡ suc (c.args.height - 1) = grind (arith, nat_tests, c.if-height-eq0.false) in
    let double = half_size c.args.height (c.args.height - 1) c.args.size high c.requires.size in
    let half : c.args.size / 2 ≡ size_of (c.args.height - 1) = omega (arith, double) in
    let at : c.node_of-node.result ≡ node_at c.args.nodes.now.items c.args.id = cc in
    let past : size_of (c.args.height - 1) ≤ c.args.from = omega (arith, half, c.if-half-from.true) in
    let lower = subst (λ (n : ℕ). IsReplaced c.args.nodes.now.items c.replace.new.nodes.items (c.args.height - 1) c.node_of-node.result.right (c.args.from - n) c.args.kinds.now c.in_ok-right.right) half c.in_ok-right.ensures.replaced in
    IfOk-weaker c.add_node.result (λ (made : ℕ). IsNode c.add_node.new.nodes.items c.node_of-node.result.left c.in_ok-right.right made)
    (λ (made : ℕ). IsReplaced c.args.nodes.now.items c.add_node.new.nodes.items c.args.height c.args.id c.args.from c.args.kinds.now made)
    (λ made node. right_replaced c.args.nodes.now.items c.replace.new.nodes.items c.add_node.new.nodes.items c.args.height (c.args.height - 1) c.args.id c.node_of-node.result 0 None c.in_ok-right.right made high c.requires.nodes at
    c.in_ok-right.ensures.keeps c.add_node.ensures.keeps c.args.from c.args.kinds.now past lower node) c.add_node.ensures.added

pub replace-requires-then-kinds-room : goal.replace-requires-then-kinds-room
replace-requires-then-kinds-room t c =
    let high : c.args.height ≡ suc (c.args.height - 1) = grind (arith, nat_tests, c.if-height-eq0.false) in
    let double = half_size c.args.height (c.args.height - 1) c.args.size high c.requires.size in
    let at : c.node_of-node.result ≡ node_at c.args.nodes.now.items c.args.id = cc in
    let few = c.if-kinds-room.true in
    let less = c.if-half-from.false in
    (search rules, (c.requires.nodes, (subst (λ (n : Node). n.left < length c.args.nodes.now.items) (sym at) (c.requires.nodes.closed c.args.id).0, (omega (arith, double), omega (arith, double, few, less)))))

pub returns-then-kinds-room-clause-replaced : goal.returns-then-kinds-room-clause-replaced
returns-then-kinds-room-clause-replaced t c =
    let high : c.args.height ≡ suc (c.args.height - 1) = grind (arith, nat_tests, c.if-height-eq0.false) in
    let double = half_size c.args.height (c.args.height - 1) c.args.size high c.requires.size in
    let half : c.args.size / 2 ≡ size_of (c.args.height - 1) = omega (arith, double) in
    let at : c.node_of-node.result ≡ node_at c.args.nodes.now.items c.args.id = cc in
    let less : c.args.from < size_of (c.args.height - 1) = omega (arith, half, c.if-half-from.false) in
    let few : length c.args.kinds.now ≤ size_of (c.args.height - 1) - c.args.from = omega (arith, half, c.if-kinds-room.true) in
    IfOk-weaker c.add_node-then-kinds-room.result (λ (made : ℕ). IsNode c.add_node-then-kinds-room.new.nodes.items c.in_ok-left.left 0 made)
    (λ (made : ℕ). IsReplaced c.args.nodes.now.items c.add_node-then-kinds-room.new.nodes.items c.args.height c.args.id c.args.from c.args.kinds.now made)
    (λ made node. left_replaced c.args.nodes.now.items c.replace-then-kinds-room.new.nodes.items c.add_node-then-kinds-room.new.nodes.items c.args.height (c.args.height - 1) c.args.id c.node_of-node.result 0 None c.in_ok-left.left made high c.requires.nodes at
    c.in_ok-left.ensures.keeps c.add_node-then-kinds-room.ensures.keeps c.args.from c.args.kinds.now c.add_node-then-kinds-room.ensures.nodes less few c.in_ok-left.ensures.replaced node) c.add_node-then-kinds-room.ensures.added

pub replace-requires-2 : goal.replace-requires-2
replace-requires-2 t c =
    let high : c.args.height ≡ suc (c.args.height - 1) = grind (arith, nat_tests, c.if-height-eq0.false) in
    let double = half_size c.args.height (c.args.height - 1) c.args.size high c.requires.size in
    let half : c.args.size / 2 ≡ size_of (c.args.height - 1) = omega (arith, double) in
    let at : c.node_of-node.result ≡ node_at c.args.nodes.now.items c.args.id = cc in
    let many = c.if-kinds-room.false in
    let less = c.if-half-from.false in
    (search rules, (c.requires.nodes, (subst (λ (n : Node). n.left < length c.args.nodes.now.items) (sym at) (c.requires.nodes.closed c.args.id).0, (half, omega (arith, many, less, c.split_at.ensures.front_len)))))

pub replace-requires-3 : goal.replace-requires-3
replace-requires-3 t c =
    let high : c.args.height ≡ suc (c.args.height - 1) = grind (arith, nat_tests, c.if-height-eq0.false) in
    let double = half_size c.args.height (c.args.height - 1) c.args.size high c.requires.size in
    let half : c.args.size / 2 ≡ size_of (c.args.height - 1) = omega (arith, double) in
    let at : c.node_of-node.result ≡ node_at c.args.nodes.now.items c.args.id = cc in
    let room = c.requires.room in
    let many = c.if-kinds-room.false in
    let less = c.if-half-from.false in
    let some = c.in_ok-left-2.ensures.nodes.many in
    (search rules, (c.in_ok-left-2.ensures.nodes, (omega (arith, some), (half, omega (arith, double, room, many, less, c.split_at.ensures.back_len)))))

pub returns-clause-replaced : goal.returns-clause-replaced
returns-clause-replaced t c =
    let high : c.args.height ≡ suc (c.args.height - 1) = grind (arith, nat_tests, c.if-height-eq0.false) in
    let double = half_size c.args.height (c.args.height - 1) c.args.size high c.requires.size in
    let half : c.args.size / 2 ≡ size_of (c.args.height - 1) = omega (arith, double) in
    let at : c.node_of-node.result ≡ node_at c.args.nodes.now.items c.args.id = cc in
    let less : c.args.from < size_of (c.args.height - 1) = omega (arith, half, c.if-half-from.false) in
    let room : c.args.size / 2 - c.args.from ≡ size_of (c.args.height - 1) - c.args.from = ap (λ (n : ℕ). n - c.args.from) half in
    let left = subst (λ (l : List (Option Kind)). IsReplaced c.args.nodes.now.items c.replace-2.new.nodes.items (c.args.height - 1) c.node_of-node.result.left c.args.from l c.in_ok-left-2.left) c.split_at.ensures.front c.in_ok-left-2.ensures.replaced in
    let right = subst (λ (l : List (Option Kind)). IsReplaced c.replace-2.new.nodes.items c.replace-3.new.nodes.items (c.args.height - 1) 0 0 l c.in_ok-right-2.right) c.split_at.ensures.back c.in_ok-right-2.ensures.replaced in
    IfOk-weaker c.add_node-2.result (λ (made : ℕ). IsNode c.add_node-2.new.nodes.items c.in_ok-left-2.left c.in_ok-right-2.right made)
    (λ (made : ℕ). IsReplaced c.args.nodes.now.items c.add_node-2.new.nodes.items c.args.height c.args.id c.args.from c.args.kinds.now made)
    (λ made node. both_replaced c.args.nodes.now.items c.replace-2.new.nodes.items c.replace-3.new.nodes.items c.args.height (c.args.height - 1) c.args.id c.node_of-node.result 0 None c.in_ok-left-2.left made high c.requires.nodes at
    c.in_ok-left-2.ensures.keeps c.in_ok-right-2.ensures.keeps c.add_node-2.new.nodes.items c.args.from (c.args.size / 2 - c.args.from) c.in_ok-right-2.right c.args.kinds.now c.add_node-2.ensures.keeps less room left right node) c.add_node-2.ensures.added
