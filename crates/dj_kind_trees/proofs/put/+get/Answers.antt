use Rattle.std.proofs.Common.{◌≡◌, ℕ, suc, ◌-◌, ◌/◌, ◌<◌, ◌≤◌, refl, sym, ap, ◌∙◌, arith, rules}
use Rattle.std.proofs.lemmas.Bool.Decides.{nat_tests}
use Rattle.dj_kind_trees.specs.declared.node.Node.{Node}
use Rattle.dj_kind_trees.specs.Nodes.{node_at, kind_at, size_of}
use Rattle.dj_kind_trees.proofs.Halves.{half_size, kind_low, left_slot, right_slot}
use Rattle.dj_kind_trees.proofs.put.+get.Goals as goal

pub returns-then-height-eq0 : goal.returns-then-height-eq0
returns-then-height-eq0 t c =
    let low : c.args.height ≡ 0 = grind (arith, nat_tests, c.if-height-eq0.true) in
    c.kind_of.ensures ∙ sym (kind_low c.args.nodes.now c.args.id c.args.slot) ∙ ap (λ (h : ℕ). kind_at c.args.nodes.now h c.args.id c.args.slot) (sym low)

pub get-requires : goal.get-requires
get-requires t c =
    let high : c.args.height ≡ suc (c.args.height - 1) = grind (arith, nat_tests, c.if-height-eq0.false) in
    let double = half_size c.args.height (c.args.height - 1) c.args.size high c.requires in
    (search rules, omega (arith, double))

pub get-requires-else-slot-half : goal.get-requires-else-slot-half
get-requires-else-slot-half t c =
    let high : c.args.height ≡ suc (c.args.height - 1) = grind (arith, nat_tests, c.if-height-eq0.false) in
    let double = half_size c.args.height (c.args.height - 1) c.args.size high c.requires in
    (search rules, omega (arith, double))

pub returns-then-slot-half : goal.returns-then-slot-half
returns-then-slot-half t c =
    let high : c.args.height ≡ suc (c.args.height - 1) = grind (arith, nat_tests, c.if-height-eq0.false) in
    let double = half_size c.args.height (c.args.height - 1) c.args.size high c.requires in
    let low : c.args.height - 1 ≡ c.args.height - 1 = refl in
    let less : c.args.slot < size_of (c.args.height - 1) = omega (arith, double, c.if-slot-half.true) in
    c.get.ensures ∙ ap (λ (n : Node). kind_at c.args.nodes.now (c.args.height - 1) n.left c.args.slot) c.node_of-node.ensures
    ∙ sym (left_slot c.args.nodes.now (c.args.height - 1) c.args.id c.args.slot less) ∙ ap (λ (h : ℕ). kind_at c.args.nodes.now h c.args.id c.args.slot) (sym high)

pub returns-else-slot-half : goal.returns-else-slot-half
returns-else-slot-half t c =
    let high : c.args.height ≡ suc (c.args.height - 1) = grind (arith, nat_tests, c.if-height-eq0.false) in
    let double = half_size c.args.height (c.args.height - 1) c.args.size high c.requires in
    let half : c.args.size / 2 ≡ size_of (c.args.height - 1) = omega (arith, double) in
    let past : size_of (c.args.height - 1) ≤ c.args.slot = omega (arith, half, c.if-slot-half.false) in
    c.get-else-slot-half.ensures ∙ ap (λ (n : Node). kind_at c.args.nodes.now (c.args.height - 1) n.right (c.args.slot - c.args.size / 2)) c.node_of-node.ensures
    ∙ ap (λ (k : ℕ). kind_at c.args.nodes.now (c.args.height - 1) (node_at c.args.nodes.now c.args.id).right (c.args.slot - k)) half
    ∙ sym (right_slot c.args.nodes.now (c.args.height - 1) c.args.id c.args.slot past) ∙ ap (λ (h : ℕ). kind_at c.args.nodes.now h c.args.id c.args.slot) (sym high)
