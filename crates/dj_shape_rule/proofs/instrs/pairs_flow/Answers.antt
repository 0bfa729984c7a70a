use Rattle.std.proofs.Common.{rules, ℤ, List, All, get_or, pos, w64, SFits, subst, refl, ◌∙◌}
use Rattle.std.proofs.lemmas.List.{take_all}
use Rattle.std.proofs.lemmas.List.Elements.{All-more}
use Rattle.std.proofs.lemmas.Int.{to_z-of_z}
use Rattle.dj_shape_rule.specs.Forms.{FlowsAt}
use Rattle.dj_shape_rule.proofs.Lists.{flows_of, are_still}
use Rattle.dj_shape_rule.proofs.instrs.pairs_flow.Goals as goal

pub flows_at-requires : goal.flows_at-requires
flows_at-requires c = are_still c.args.frames.now c.args.state.now c.loop-pair.state c.loop-pair.invariant.same c.requires

pub returns-then-not-flows_at-clause-flows : goal.returns-then-not-flows_at-clause-flows
returns-then-not-flows_at-clause-flows c =
    let target = (get_or c.args.pairs.now c.loop-pair.pair-index (pos 0, pos 0)).1 in
    let fits : SFits w64 target = search rules in
    let decides = flows_of c.args.frames.now c.args.state.now c.loop-pair.state target _ c.flows_at.result (to_z-of_z w64 target fits) c.loop-pair.invariant.same c.flows_at.ensures.flows in (
      λ e. absurd cc,
      λ all. absurd (let yes = decides.1 (all c.loop-pair.pair-index (pos 0, pos 0) c.loop-pair-test.true) in cc),
    )

pub loop-pair-preserved : goal.loop-pair-preserved
loop-pair-preserved c =
    let target = (get_or c.args.pairs.now c.loop-pair.pair-index (pos 0, pos 0)).1 in
    let fits : SFits w64 target = search rules in
    let decides = flows_of c.args.frames.now c.args.state.now c.loop-pair.state target _ c.flows_at.result (to_z-of_z w64 target fits) c.loop-pair.invariant.same c.flows_at.ensures.flows in
    record {
      same = c.flows_at.ensures.same ∙ c.loop-pair.invariant.same;
      flow = All-more (λ (pair : ℤ × ℤ). FlowsAt c.args.state.now.kinds c.args.frames.now pair.1) c.args.pairs.now c.loop-pair.pair-index (pos 0, pos 0) c.loop-pair-test.true c.loop-pair.invariant.flow (decides.0 c.if-not-flows_at.false);
    }

pub returns-clause-flows : goal.returns-clause-flows
returns-clause-flows c = (
  λ e. subst (λ (l : List (ℤ × ℤ)). All (λ (pair : ℤ × ℤ). FlowsAt c.args.state.now.kinds c.args.frames.now pair.1) l) (take_all c.loop-pair.pair-index c.args.pairs.now c.loop-pair-test.false) c.loop-pair.invariant.flow,
  λ all. refl,
)
