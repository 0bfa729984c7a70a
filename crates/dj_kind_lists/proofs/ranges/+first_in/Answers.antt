use Rattle.std.proofs.Common.{◌≡◌, ◌+◌, ◌-◌, ◌/◌, ℕ, suc, length, sym, ap, subst, arith, rules}
use Rattle.std.proofs.lemmas.Bool.Decides.{nat_tests}
use Rattle.std.proofs.lemmas.Result.{IfOk-weaker}
use Rattle.dj_kind_trees.specs.Nodes.{size_of}
use Rattle.dj_kind_trees.proofs.Halves.{half_size}
use Rattle.dj_kind_lists.specs.Blocks.{HasAll, IsBlock}
use Rattle.dj_kind_lists.proofs.Meeting.{keeps_twice, states_kept, block_kept, blocks_themselves, of_block, block_halves, first_inside}
use Rattle.dj_kind_lists.proofs.Ranging.{no_ranges, none_inside, low_first, some_found, none_found, of_rest, match_before, right_first, same_ranges, all_inside_before}
use Rattle.dj_kind_lists.proofs.ranges.+first_in.Goals as goal

pub left_over-requires-clause-meet : goal.left_over-requires-clause-meet
left_over-requires-clause-meet t c =
    let search' = c.args.search.now in
    subst (HasAll c.args.trees.now search'.states.now c.args.part.height c.args.part.from) (sym c.meet_of-meet.ensures)
    (of_block c.args.trees.now search'.states.now search'.blocks.now c.args.part.height c.args.part.from c.args.part.id c.requires.states c.requires.block)

pub returns-then-count-eq0-clause-first : goal.returns-then-count-eq0-clause-first
returns-then-count-eq0-clause-first t c =
    let search' = c.args.search.now in
    let zero : c.len-count.result ≡ 0 = grind (arith, nat_tests, c.if-count-eq0.true) in
    let none : length c.in_ok-rest.rest.items ≡ 0 = omega (arith, zero, c.len-count.ensures, c.in_ok-rest.rest.ok.0) in
    none_inside c.args.trees.now search'.states.now search'.frames.now c.args.part.height c.args.part.from c.args.ranges.now c.in_ok-rest.rest.items c.in_ok-rest.ensures.left (no_ranges c.in_ok-rest.rest.items none)

pub returns-then-height-eq0-clause-first : goal.returns-then-height-eq0-clause-first
returns-then-height-eq0-clause-first t c =
    let search' = c.args.search.now in
    let low : c.args.part.height ≡ 0 = grind (arith, nat_tests, c.if-height-eq0.true) in
    low_first c.args.trees.now search'.states.now search'.frames.now c.args.part.height c.args.part.from c.args.ranges.now c.in_ok-rest.rest.items low (first_inside c.args.part.height c.args.part.from) c.in_ok-rest.ensures.left
    (λ none.
    let empty : length c.in_ok-rest.rest.items ≡ 0 = ap length none in
    let zero : c.len-count.result ≡ 0 = omega (arith, empty, c.len-count.ensures, c.in_ok-rest.rest.ok.0) in
    absurd (grind (arith, nat_tests, c.if-count-eq0.false, zero)))

pub first_in-requires : goal.first_in-requires
first_in-requires t c =
    let s = c.args.search.now in
    let part = c.args.part in
    let low = part.height - 1 in
    let high : part.height ≡ suc low = grind (arith, nat_tests, c.if-height-eq0.false) in
    let double = half_size part.height low part.size high c.requires.size in
    let half : part.size / 2 ≡ size_of low = omega (arith, double) in
    let keeps = c.left_over.ensures.keeps in
    let states1 = states_kept c.args.trees.now c.left_over.new.trees s.states.now keeps c.requires.states in
    let frames1 = states_kept c.args.trees.now c.left_over.new.trees s.frames.now keeps c.requires.frames in
    let block1 = block_kept c.args.trees.now c.left_over.new.trees s.states.now s.blocks.now s.blocks.now part.height part.from part.id keeps c.requires.states (blocks_themselves s.blocks.now) c.requires.block in
    let halves = block_halves c.left_over.new.trees s.states.now s.blocks.now part.height low part.from part.id c.block_of-block.result high c.block_of-block.ensures block1 in
    let few = c.requires.few in
    (search rules, (states1, (frames1, (half, (omega (arith, double, few), halves.0)))))

pub returns-then-is_some-clause-first : goal.returns-then-is_some-clause-first
returns-then-is_some-clause-first t c =
    let s = c.args.search.now in
    let part = c.args.part in
    let low = part.height - 1 in
    let high : part.height ≡ suc low = grind (arith, nat_tests, c.if-height-eq0.false) in
    some_found c.args.trees.now s.states.now s.frames.now c.args.ranges.now c.in_ok-rest.rest.items part.height low part.from c.in_ok-found.found high (sym c.if-is_some.ensures) c.in_ok-rest.ensures.left
    (match_before c.args.trees.now c.left_over.new.trees s.states.now s.frames.now c.in_ok-rest.rest.items low part.from c.in_ok-found.found c.left_over.ensures.keeps c.requires.states c.requires.frames
    (same_ranges c.left_over.new.trees s.states.now s.frames.now c.deref.result.now c.in_ok-rest.rest.items low part.from c.in_ok-found.found c.deref.ensures.value c.in_ok-found.ensures.first))

pub returns-then-is_some-clause-keeps : goal.returns-then-is_some-clause-keeps
returns-then-is_some-clause-keeps t c = keeps_twice c.args.trees.now c.left_over.new.trees c.first_in.new.trees c.left_over.ensures.keeps c.in_ok-found.ensures.keeps

pub first_in-requires-2 : goal.first_in-requires-2
first_in-requires-2 t c =
    let s = c.args.search.now in
    let part = c.args.part in
    let low = part.height - 1 in
    let high : part.height ≡ suc low = grind (arith, nat_tests, c.if-height-eq0.false) in
    let double = half_size part.height low part.size high c.requires.size in
    let half : part.size / 2 ≡ size_of low = omega (arith, double) in
    let keeps = keeps_twice c.args.trees.now c.left_over.new.trees c.first_in.new.trees c.left_over.ensures.keeps c.in_ok-found.ensures.keeps in
    let states2 = states_kept c.args.trees.now c.first_in.new.trees s.states.now keeps c.requires.states in
    let frames2 = states_kept c.args.trees.now c.first_in.new.trees s.frames.now keeps c.requires.frames in
    let block2 = block_kept c.args.trees.now c.first_in.new.trees s.states.now s.blocks.now s.blocks.now part.height part.from part.id keeps c.requires.states (blocks_themselves s.blocks.now) c.requires.block in
    let halves = block_halves c.first_in.new.trees s.states.now s.blocks.now part.height low part.from part.id c.block_of-block.result high c.block_of-block.ensures block2 in
    let right = subst (λ (n : ℕ). IsBlock c.first_in.new.trees s.states.now s.blocks.now low (part.from + n) c.block_of-block.result.right) (sym half) halves.1 in
    let few = c.requires.few in
    (search rules, (states2, (frames2, (half, (omega (arith, double, few), right)))))

pub returns-clause-first : goal.returns-clause-first
returns-clause-first t c =
    let s = c.args.search.now in
    let part = c.args.part in
    let low = part.height - 1 in
    let high : part.height ≡ suc low = grind (arith, nat_tests, c.if-height-eq0.false) in
    let double = half_size part.height low part.size high c.requires.size in
    let half : part.size / 2 ≡ size_of low = omega (arith, double) in
    let rest = c.in_ok-rest.rest.items in
    let keeps = keeps_twice c.args.trees.now c.left_over.new.trees c.first_in.new.trees c.left_over.ensures.keeps c.in_ok-found.ensures.keeps in
    let left = all_inside_before c.args.trees.now c.left_over.new.trees s.states.now s.frames.now c.left_over.ensures.keeps c.requires.states c.requires.frames rest low part.from
    (none_found c.left_over.new.trees s.states.now s.frames.now rest low part.from c.in_ok-found.found (sym c.if-is_some.ensures)
    (same_ranges c.left_over.new.trees s.states.now s.frames.now c.deref.result.now rest low part.from c.in_ok-found.found c.deref.ensures.value c.in_ok-found.ensures.first)) in
    IfOk-weaker c.first_in-2.result _ _ (λ found first.
    of_rest c.args.trees.now s.states.now s.frames.now c.args.ranges.now rest part.height part.from found c.in_ok-rest.ensures.left
    (right_first c.args.trees.now s.states.now s.frames.now rest part.height low part.from high (part.size / 2) found half left
    (match_before c.args.trees.now c.first_in.new.trees s.states.now s.frames.now rest low (part.from + part.size / 2) found keeps c.requires.states c.requires.frames
    (same_ranges c.first_in.new.trees s.states.now s.frames.now c.deref-2.result.now rest low (part.from + part.size / 2) found c.deref-2.ensures.value first))))
    c.first_in-2.ensures.first
