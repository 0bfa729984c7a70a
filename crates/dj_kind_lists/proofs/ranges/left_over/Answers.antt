use Rattle.std.proofs.Common.{rules, ◌≡◌, [], List, take, sym, subst}
use Rattle.std.proofs.lemmas.List.{take_more, take_all}
use Rattle.dj_kind_lists.specs.declared.ranges.KindRange.{KindRange}
use Rattle.dj_kind_lists.specs.Ranges.{AreLeft}
use Rattle.dj_kind_lists.proofs.Meeting.{keeps_itself, keeps_twice, states_kept, all_kept}
use Rattle.dj_kind_lists.proofs.Ranging.{none_left, left_kept, left_before}
use Rattle.dj_kind_lists.proofs.ranges.left_over.Goals as goal

pub loop-range-init : goal.loop-range-init
loop-range-init c =
    let none : c.new-rest.result.items ≡ [] = search rules in
    record {
      keeps = keeps_itself c.args.trees.now;
      left = subst (AreLeft c.args.trees.now c.args.search.now.states.now c.args.search.now.frames.now c.args.part.height c.args.part.from []) (sym none)
          (none_left c.args.trees.now c.args.search.now.states.now c.args.search.now.frames.now c.args.part.height c.args.part.from);
    }

pub returns-in_err-add_left-clause-keeps : goal.returns-in_err-add_left-clause-keeps
returns-in_err-add_left-clause-keeps c = keeps_twice c.args.trees.now c.loop-range.trees c.add_left.new.trees c.loop-range.invariant.keeps c.add_left.ensures.keeps

pub add_left-requires-clause-states : goal.add_left-requires-clause-states
add_left-requires-clause-states c = states_kept c.args.trees.now c.loop-range.trees c.args.search.now.states.now c.loop-range.invariant.keeps c.requires.states

pub add_left-requires-clause-frames : goal.add_left-requires-clause-frames
add_left-requires-clause-frames c = states_kept c.args.trees.now c.loop-range.trees c.args.search.now.frames.now c.loop-range.invariant.keeps c.requires.frames

pub add_left-requires-clause-meet : goal.add_left-requires-clause-meet
add_left-requires-clause-meet c =
    all_kept c.args.trees.now c.loop-range.trees c.args.search.now.states.now c.args.part.height c.args.part.from c.args.meet c.loop-range.invariant.keeps c.requires.states c.requires.meet

pub loop-range-preserved : goal.loop-range-preserved
loop-range-preserved c =
    let old = c.args.trees.now in
    let mid = c.loop-range.trees in
    let states = c.args.search.now.states.now in
    let frames = c.args.search.now.frames.now in
    let h = c.args.part.height in
    let from = c.args.part.from in
    let i = c.loop-range.range-index in
    let none : KindRange = record { from = 0; to = 0; frame = 0 } in
    let keeps = c.loop-range.invariant.keeps in
    let left = left_kept old mid states frames keeps c.requires.states c.requires.frames h from (take i c.args.ranges.now) c.loop-range.rest.items c.loop-range.invariant.left in
    let more = c.in_ok-add_left.ensures.left (take i c.args.ranges.now) left in
    let all = left_before old mid states frames keeps c.requires.states c.requires.frames h from _ c.add_left.new.rest.items more in
    record {
      keeps = keeps_twice old mid c.add_left.new.trees keeps c.add_left.ensures.keeps;
      left = subst (λ (l : List KindRange). AreLeft old states frames h from l c.add_left.new.rest.items) (sym (take_more c.args.ranges.now i none c.loop-range-test.true)) all;
    }

pub returns-clause-left : goal.returns-clause-left
returns-clause-left c =
    subst (λ (l : List KindRange). AreLeft c.args.trees.now c.args.search.now.states.now c.args.search.now.frames.now c.args.part.height c.args.part.from l c.loop-range.rest.items)
    (take_all c.loop-range.range-index c.args.ranges.now c.loop-range-test.false) c.loop-range.invariant.left
