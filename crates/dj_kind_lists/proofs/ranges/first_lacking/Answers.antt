use Rattle.std.proofs.Common.{◌≡◌, List, length, sym, subst, arith}
use Rattle.std.proofs.lemmas.Bool.Decides.{nat_tests}
use Rattle.dj_kind_lists.specs.declared.block.Block.{Block}
use Rattle.dj_kind_lists.specs.Blocks.{IsBlock}
use Rattle.dj_kind_lists.proofs.Meeting.{states_kept}
use Rattle.dj_kind_lists.proofs.Ranging.{no_ranges, none_below, first_below, below_before}
use Rattle.dj_kind_lists.proofs.ranges.first_lacking.Goals as goal

pub returns-then-is_empty-clause-first : goal.returns-then-is_empty-clause-first
returns-then-is_empty-clause-first c =
    let empty : length c.args.ranges.now ≡ 0 = grind (arith, nat_tests, c.is_empty.ensures, c.if-is_empty.true) in
    none_below c.args.trees.now c.args.states.now c.args.frames.now c.args.ranges.now c.args.limit (no_ranges c.args.ranges.now empty)

pub first_in-requires-clause-states : goal.first_in-requires-clause-states
first_in-requires-clause-states c = states_kept c.args.trees.now c.build.new.trees c.args.states.now c.build.ensures.keeps c.requires.states

pub first_in-requires-clause-frames : goal.first_in-requires-clause-frames
first_in-requires-clause-frames c = states_kept c.args.trees.now c.build.new.trees c.args.frames.now c.build.ensures.keeps c.requires.frames

pub first_in-requires-clause-block : goal.first_in-requires-clause-block
first_in-requires-clause-block c =
    subst (λ (l : List Block). IsBlock c.build.new.trees c.args.states.now l c.height_for-height.result.0 0 c.in_ok-id.id) (sym c.deref.ensures.value) c.in_ok-id.ensures.built

pub returns-clause-first : goal.returns-clause-first
returns-clause-first c =
    below_before c.args.trees.now c.build.new.trees c.args.states.now c.args.frames.now c.args.ranges.now c.args.limit c.below.result c.build.ensures.keeps c.requires.states c.requires.frames
    (first_below c.build.new.trees c.args.states.now c.args.frames.now c.args.ranges.now c.height_for-height.result.0 c.height_for-height.result.1 c.args.limit c.in_ok-found.found c.below.result
    c.height_for-height.ensures.size c.height_for-height.ensures.room c.in_ok-found.ensures.first c.below.ensures)
