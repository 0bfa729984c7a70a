use Rattle.std.proofs.Common.{◌≡◌, ◌∙◌, ◌+◌, ◌≤◌, ℕ, length, refl, sym, subst, arith}
use Rattle.dj_shape_rule.specs.Listed.{AreFew, AreListedBelow}
use Rattle.dj_shape_rule.proofs.KeptLists.{none_below, none_last, all_listed}
use Rattle.dj_shape_rule.proofs.listing.list_frames.Goals as goal

pub loop-index-init : goal.loop-index-init
loop-index-init c = record {
  same = (refl, refl, refl, refl);
  below = none_below c.args.frames.now c.args.state.now c.requires.one;
  last = none_last c.args.frames.now c.args.state.now c.requires.one;
}

pub returns-in_err-last-clause-same : goal.returns-in_err-last-clause-same
returns-in_err-last-clause-same c =
    let old = c.loop-index.invariant.same in
    let new = c.list_frame.ensures.same in
    (new.0 ∙ old.0, new.1 ∙ old.1, new.2 ∙ old.2, new.3 ∙ old.3)

pub loop-index-preserved : goal.loop-index-preserved
loop-index-preserved c =
    let old = c.loop-index.invariant.same in
    let new = c.list_frame.ensures.same in
    let next : c.loop-index.index + 2 ≡ c.loop-index.index + 1 + 1 = omega arith in
    record {
      same = (new.0 ∙ old.0, new.1 ∙ old.1, new.2 ∙ old.2, new.3 ∙ old.3);
      below = subst (λ (n : ℕ). AreListedBelow c.args.frames.now c.list_frame.new.state n) next c.in_ok-last.ensures.listed;
      last = c.in_ok-last.ensures.last;
    }

pub returns-clause-listed : goal.returns-clause-listed
returns-clause-listed c =
    let frames = c.args.frames.now in
    let state = c.loop-index.state in
    let most : length frames.reported.kept.items + 1 ≤ c.loop-index.index + 1 = omega (arith, c.loop-index-test.false, c.count-index-end.ensures) in
    all_listed frames state (c.loop-index.index + 1) most c.loop-index.invariant.below (subst (AreFew frames) (sym c.loop-index.invariant.same.1) c.requires.few)
