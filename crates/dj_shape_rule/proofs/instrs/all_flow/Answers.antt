use Rattle.std.proofs.Common.{rules, ℤ, List, All, get_or, pos, w64, SFits, subst, refl, ◌∙◌}
use Rattle.std.proofs.lemmas.List.{take_all}
use Rattle.std.proofs.lemmas.List.Elements.{All-more}
use Rattle.std.proofs.lemmas.Int.{to_z-of_z}
use Rattle.dj_shape_rule.specs.Forms.{FlowsAt}
use Rattle.dj_shape_rule.proofs.Lists.{flows_of, are_still}
use Rattle.dj_shape_rule.proofs.instrs.all_flow.Goals as goal

pub flows_at-requires : goal.flows_at-requires
flows_at-requires c = are_still c.args.frames.now c.args.state.now c.loop-target.state c.loop-target.invariant.same c.requires

pub returns-then-not-flows_at-clause-flows : goal.returns-then-not-flows_at-clause-flows
returns-then-not-flows_at-clause-flows c =
    let target = (get_or c.args.targets.now c.loop-target.target-index (pos 0)) in
    let fits : SFits w64 target = search rules in
    let decides = flows_of c.args.frames.now c.args.state.now c.loop-target.state target _ c.flows_at.result (to_z-of_z w64 target fits) c.loop-target.invariant.same c.flows_at.ensures.flows in (
      λ e. absurd cc,
      λ all. absurd (let yes = decides.1 (all c.loop-target.target-index (pos 0) c.loop-target-test.true) in cc),
    )

pub loop-target-preserved : goal.loop-target-preserved
loop-target-preserved c =
    let target = (get_or c.args.targets.now c.loop-target.target-index (pos 0)) in
    let fits : SFits w64 target = search rules in
    let decides = flows_of c.args.frames.now c.args.state.now c.loop-target.state target _ c.flows_at.result (to_z-of_z w64 target fits) c.loop-target.invariant.same c.flows_at.ensures.flows in
    record {
      same = c.flows_at.ensures.same ∙ c.loop-target.invariant.same;
      flow = All-more (FlowsAt c.args.state.now.kinds c.args.frames.now) c.args.targets.now c.loop-target.target-index (pos 0) c.loop-target-test.true c.loop-target.invariant.flow (decides.0 c.if-not-flows_at.false);
    }

pub returns-clause-flows : goal.returns-clause-flows
returns-clause-flows c = (
  λ e. subst (λ (l : List (ℤ)). All (FlowsAt c.args.state.now.kinds c.args.frames.now) l) (take_all c.loop-target.target-index c.args.targets.now c.loop-target-test.false) c.loop-target.invariant.flow,
  λ all. refl,
)
