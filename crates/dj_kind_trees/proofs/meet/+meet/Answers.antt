use Rattle.std.proofs.Common.{◌≡◌, ℕ, suc, ◌-◌, refl, arith}
use Rattle.std.proofs.lemmas.Bool.Decides.{nat_tests}
use Rattle.std.proofs.lemmas.Result.{IfOk-weaker}
use Rattle.dj_kind_trees.specs.Nodes.{node_at, IsNode, IsMeet}
use Rattle.dj_kind_trees.proofs.Growing.{keeps_itself, keeps_twice}
use Rattle.dj_kind_trees.proofs.Making.{same_meet, left_none_meet, right_none_meet, low_meet, node_halves, old_halves, halves_meet}
use Rattle.dj_kind_trees.proofs.meet.+meet.Goals as goal
use Rattle.dj_kind_trees.proofs.meet.+meet.Goals.{then-a-b-via-then-a-b, then-a-b-via-else-a-b+then-a-eq0}

pub returns-then-a-b-clause-meet : goal.returns-then-a-b-clause-meet
returns-then-a-b-clause-meet t c = elim c.then-a-b.branch [
  | then-a-b-via-then-a-b w ↦ same_meet c.args.nodes.now.items c.args.height c.args.a c.args.b c.requires.left w.if-a-b.true
  | then-a-b-via-else-a-b+then-a-eq0 w ↦
      let none : c.args.a ≡ 0 = grind (arith, nat_tests, w.if-a-eq0.true) in
      left_none_meet c.args.nodes.now.items c.args.height c.args.a c.args.b c.args.a c.requires.nodes none none
]

pub returns-then-b-eq0-clause-meet : goal.returns-then-b-eq0-clause-meet
returns-then-b-eq0-clause-meet t c = right_none_meet c.args.nodes.now.items c.args.height c.args.a c.args.b 0 c.requires.nodes (grind (arith, nat_tests, c.if-b-eq0.true)) refl

pub returns-then-height-eq0-clause-meet : goal.returns-then-height-eq0-clause-meet
returns-then-height-eq0-clause-meet t c =
    let many = c.requires.nodes.many in
    let in_a = c.requires.left in
    low_meet c.args.nodes.now.items c.args.height c.args.a c.args.b c.low_meet.result (grind (arith, nat_tests, c.if-height-eq0.true)) (grind (arith, c.low_meet.ensures.number)) c.low_meet.ensures.meet

pub returns-then-right-x-clause-meet : goal.returns-then-right-x-clause-meet
returns-then-right-x-clause-meet t c =
    let high : c.args.height ≡ suc (c.args.height - 1) = grind (arith, nat_tests, c.if-height-eq0.false) in
    let at : c.node_of-x.result ≡ node_at c.args.nodes.now.items c.args.a = cc in
    let bt : c.node_of-y.result ≡ node_at c.args.nodes.now.items c.args.b = cc in
    halves_meet c.args.nodes.now.items c.meet.new.nodes.items c.meet-2.new.nodes.items c.meet-2.new.nodes.items c.args.height (c.args.height - 1) c.args.a c.args.b c.node_of-x.result c.node_of-y.result c.in_ok-left.left c.in_ok-right.right c.args.a
    high c.requires.nodes at bt c.in_ok-left.ensures.keeps c.in_ok-right.ensures.keeps (keeps_itself c.meet-2.new.nodes.items) c.in_ok-left.ensures.meet c.in_ok-right.ensures.meet
    (old_halves c.args.nodes.now.items c.meet-2.new.nodes.items (c.args.height - 1) c.args.a c.in_ok-left.left c.in_ok-right.right c.node_of-x.result c.requires.nodes
    (keeps_twice _ _ _ c.in_ok-left.ensures.keeps c.in_ok-right.ensures.keeps) c.requires.left at c.if-left-x.true c.if-right-x.true)

pub returns-then-right-y-clause-meet : goal.returns-then-right-y-clause-meet
returns-then-right-y-clause-meet t c =
    let high : c.args.height ≡ suc (c.args.height - 1) = grind (arith, nat_tests, c.if-height-eq0.false) in
    let at : c.node_of-x.result ≡ node_at c.args.nodes.now.items c.args.a = cc in
    let bt : c.node_of-y.result ≡ node_at c.args.nodes.now.items c.args.b = cc in
    halves_meet c.args.nodes.now.items c.meet.new.nodes.items c.meet-2.new.nodes.items c.meet-2.new.nodes.items c.args.height (c.args.height - 1) c.args.a c.args.b c.node_of-x.result c.node_of-y.result c.in_ok-left.left c.in_ok-right.right c.args.b
    high c.requires.nodes at bt c.in_ok-left.ensures.keeps c.in_ok-right.ensures.keeps (keeps_itself c.meet-2.new.nodes.items) c.in_ok-left.ensures.meet c.in_ok-right.ensures.meet
    (old_halves c.args.nodes.now.items c.meet-2.new.nodes.items (c.args.height - 1) c.args.b c.in_ok-left.left c.in_ok-right.right c.node_of-y.result c.requires.nodes
    (keeps_twice _ _ _ c.in_ok-left.ensures.keeps c.in_ok-right.ensures.keeps) c.requires.right bt c.if-left-y.true c.if-right-y.true)

pub returns-clause-meet : goal.returns-clause-meet
returns-clause-meet t c =
    let high : c.args.height ≡ suc (c.args.height - 1) = grind (arith, nat_tests, c.if-height-eq0.false) in
    let at : c.node_of-x.result ≡ node_at c.args.nodes.now.items c.args.a = cc in
    let bt : c.node_of-y.result ≡ node_at c.args.nodes.now.items c.args.b = cc in
    IfOk-weaker c.add_node.result (λ (made : ℕ). IsNode c.add_node.new.nodes.items c.in_ok-left.left c.in_ok-right.right made)
    (λ (made : ℕ). IsMeet c.args.nodes.now.items c.add_node.new.nodes.items c.args.height c.args.a c.args.b made)
    (λ made node.
    halves_meet c.args.nodes.now.items c.meet.new.nodes.items c.meet-2.new.nodes.items c.add_node.new.nodes.items c.args.height (c.args.height - 1) c.args.a c.args.b c.node_of-x.result c.node_of-y.result c.in_ok-left.left c.in_ok-right.right made
    high c.requires.nodes at bt c.in_ok-left.ensures.keeps c.in_ok-right.ensures.keeps c.add_node.ensures.keeps c.in_ok-left.ensures.meet c.in_ok-right.ensures.meet
    (node_halves c.add_node.new.nodes.items (c.args.height - 1) c.in_ok-left.left c.in_ok-right.right made node)) c.add_node.ensures.added
