use Rattle.std.proofs.Common.{◌≡◌, ℕ, suc, ◌+◌, ◌-◌, ◌/◌, ◌++◌, ◌∷◌, [], length, refl, sym, ap, subst, ◌∙◌, arith, rules}
use Rattle.std.proofs.lemmas.Bool.Decides.{nat_tests}
use Rattle.std.proofs.lemmas.Result.{IfOk-weaker}
use Rattle.dj_kind_trees.specs.Nodes.{size_of}
use Rattle.dj_kind_trees.specs.Forests.{IsTree, HasMet}
use Rattle.dj_kind_trees.proofs.Halves.{half_size, size_low}
use Rattle.dj_kind_lists.specs.Blocks.{meet_of, IsBlock}
use Rattle.dj_kind_lists.proofs.Meeting.{states_kept, block_kept, of_block, new_block, low_block}
use Rattle.dj_kind_lists.proofs.block.+build.Goals as goal

pub overflow_cast-result : goal.overflow_cast-result
overflow_cast-result t c =
    let low : c.args.height ≡ 0 = grind (arith, nat_tests, c.if-height-eq0.true) in
    let one : c.args.size ≡ 1 = c.requires.size ∙ ap size_of low ∙ size_low in
    let few = c.requires.few in
    omega (arith, one, few)

pub returns-then-height-eq0-clause-built : goal.returns-then-height-eq0-clause-built
returns-then-height-eq0-clause-built t c =
    low_block c.args.trees.now c.args.states.now c.args.blocks.now.items c.args.height c.args.from c.args.from (grind (arith, nat_tests, c.if-height-eq0.true)) refl

pub build-requires : goal.build-requires
build-requires t c =
    let high : c.args.height ≡ suc (c.args.height - 1) = grind (arith, nat_tests, c.if-height-eq0.false) in
    let double = half_size c.args.height (c.args.height - 1) c.args.size high c.requires.size in
    let half : c.args.size / 2 ≡ size_of (c.args.height - 1) = omega (arith, double) in
    let few = c.requires.few in
    (search rules, (c.requires.states, (half, omega (arith, double, few))))

pub build-requires-2 : goal.build-requires-2
build-requires-2 t c =
    let high : c.args.height ≡ suc (c.args.height - 1) = grind (arith, nat_tests, c.if-height-eq0.false) in
    let double = half_size c.args.height (c.args.height - 1) c.args.size high c.requires.size in
    let half : c.args.size / 2 ≡ size_of (c.args.height - 1) = omega (arith, double) in
    let few = c.requires.few in
    (search rules, (states_kept c.args.trees.now c.build.new.trees c.args.states.now c.in_ok-left.ensures.keeps c.requires.states, (half, omega (arith, double, few))))

pub meet-requires-clause-first : goal.meet-requires-clause-first
meet-requires-clause-first t c =
    let high : c.args.height ≡ suc (c.args.height - 1) = grind (arith, nat_tests, c.if-height-eq0.false) in
    let double = half_size c.args.height (c.args.height - 1) c.args.size high c.requires.size in
    let half : c.args.size / 2 ≡ size_of (c.args.height - 1) = omega (arith, double) in
    let states1 = states_kept c.args.trees.now c.build.new.trees c.args.states.now c.in_ok-left.ensures.keeps c.requires.states in
    let states2 = states_kept c.build.new.trees c.build-2.new.trees c.args.states.now c.in_ok-right.ensures.keeps states1 in
    let left = block_kept c.build.new.trees c.build-2.new.trees c.args.states.now c.build.new.blocks.items c.build-2.new.blocks.items (c.args.height - 1) c.args.from c.in_ok-left.left c.in_ok-right.ensures.keeps states1
    c.in_ok-right.ensures.blocks c.in_ok-left.ensures.built in
    let right = subst (λ (n : ℕ). IsBlock c.build-2.new.trees c.args.states.now c.build-2.new.blocks.items (c.args.height - 1) (c.args.from + n) c.in_ok-right.right) half c.in_ok-right.ensures.built in
    let first : c.meet_of-first.result ≡ meet_of c.args.states.now c.build-2.new.blocks.items (c.args.height - 1) c.in_ok-left.left = cc in
    let second : c.meet_of-second.result ≡ meet_of c.args.states.now c.build-2.new.blocks.items (c.args.height - 1) c.in_ok-right.right = cc in
    subst (IsTree c.build-2.new.trees) (sym first) (of_block c.build-2.new.trees c.args.states.now c.build-2.new.blocks.items (c.args.height - 1) c.args.from c.in_ok-left.left states2 left).tree_is

pub meet-requires-clause-second : goal.meet-requires-clause-second
meet-requires-clause-second t c =
    let high : c.args.height ≡ suc (c.args.height - 1) = grind (arith, nat_tests, c.if-height-eq0.false) in
    let double = half_size c.args.height (c.args.height - 1) c.args.size high c.requires.size in
    let half : c.args.size / 2 ≡ size_of (c.args.height - 1) = omega (arith, double) in
    let states1 = states_kept c.args.trees.now c.build.new.trees c.args.states.now c.in_ok-left.ensures.keeps c.requires.states in
    let states2 = states_kept c.build.new.trees c.build-2.new.trees c.args.states.now c.in_ok-right.ensures.keeps states1 in
    let left = block_kept c.build.new.trees c.build-2.new.trees c.args.states.now c.build.new.blocks.items c.build-2.new.blocks.items (c.args.height - 1) c.args.from c.in_ok-left.left c.in_ok-right.ensures.keeps states1
    c.in_ok-right.ensures.blocks c.in_ok-left.ensures.built in
    let right = subst (λ (n : ℕ). IsBlock c.build-2.new.trees c.args.states.now c.build-2.new.blocks.items (c.args.height - 1) (c.args.from + n) c.in_ok-right.right) half c.in_ok-right.ensures.built in
    let first : c.meet_of-first.result ≡ meet_of c.args.states.now c.build-2.new.blocks.items (c.args.height - 1) c.in_ok-left.left = cc in
    let second : c.meet_of-second.result ≡ meet_of c.args.states.now c.build-2.new.blocks.items (c.args.height - 1) c.in_ok-right.right = cc in
    subst (IsTree c.build-2.new.trees) (sym second)
    (of_block c.build-2.new.trees c.args.states.now c.build-2.new.blocks.items (c.args.height - 1) (c.args.from + size_of (c.args.height - 1)) c.in_ok-right.right states2 right).tree_is

pub returns-clause-built : goal.returns-clause-built
returns-clause-built t c =
    let high : c.args.height ≡ suc (c.args.height - 1) = grind (arith, nat_tests, c.if-height-eq0.false) in
    let double = half_size c.args.height (c.args.height - 1) c.args.size high c.requires.size in
    let half : c.args.size / 2 ≡ size_of (c.args.height - 1) = omega (arith, double) in
    let states1 = states_kept c.args.trees.now c.build.new.trees c.args.states.now c.in_ok-left.ensures.keeps c.requires.states in
    let states2 = states_kept c.build.new.trees c.build-2.new.trees c.args.states.now c.in_ok-right.ensures.keeps states1 in
    let left = block_kept c.build.new.trees c.build-2.new.trees c.args.states.now c.build.new.blocks.items c.build-2.new.blocks.items (c.args.height - 1) c.args.from c.in_ok-left.left c.in_ok-right.ensures.keeps states1
    c.in_ok-right.ensures.blocks c.in_ok-left.ensures.built in
    let right = subst (λ (n : ℕ). IsBlock c.build-2.new.trees c.args.states.now c.build-2.new.blocks.items (c.args.height - 1) (c.args.from + n) c.in_ok-right.right) half c.in_ok-right.ensures.built in
    let first : c.meet_of-first.result ≡ meet_of c.args.states.now c.build-2.new.blocks.items (c.args.height - 1) c.in_ok-left.left = cc in
    let second : c.meet_of-second.result ≡ meet_of c.args.states.now c.build-2.new.blocks.items (c.args.height - 1) c.in_ok-right.right = cc in
    let met = subst (λ (n : ℕ). HasMet c.build-2.new.trees c.meet.new.self n (meet_of c.args.states.now c.build-2.new.blocks.items (c.args.height - 1) c.in_ok-right.right) c.in_ok-meet.meet) first
    (subst (λ (n : ℕ). HasMet c.build-2.new.trees c.meet.new.self c.meet_of-first.result n c.in_ok-meet.meet) second c.in_ok-meet.ensures.met) in
    IfOk-weaker c.add_block.result
    (λ (id : ℕ). (id ≡ length c.build-2.new.blocks.items)
    × (c.add_block.new.blocks.items ≡ c.build-2.new.blocks.items ++ record { meet = c.in_ok-meet.meet; left = c.in_ok-left.left; right = c.in_ok-right.right } ∷ []))
    (λ (id : ℕ). IsBlock c.meet.new.self c.args.states.now c.add_block.new.blocks.items c.args.height c.args.from id)
    (λ id added. subst (λ (n : ℕ). IsBlock c.meet.new.self c.args.states.now c.add_block.new.blocks.items c.args.height c.args.from n) (sym added.0)
    (new_block c.build-2.new.trees c.meet.new.self c.args.states.now c.build-2.new.blocks.items c.add_block.new.blocks.items c.args.height (c.args.height - 1) c.args.from c.in_ok-left.left c.in_ok-right.right c.in_ok-meet.meet high
    c.in_ok-meet.ensures.keeps states2 left right met added.1)) c.add_block.ensures.added
