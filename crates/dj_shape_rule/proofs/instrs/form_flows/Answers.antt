use Rattle.std.proofs.Common.{rules, ℤ, List, All, Decides, w64, SFits, sym, subst}
use Rattle.std.proofs.lemmas.Int.{to_z-of_z}
use Rattle.dj_ops.specs.declared.instruction.Instr.{Instr}
use Rattle.dj_shape_rule.specs.Forms.{FlowsAt, FormFlows}
use Rattle.dj_shape_rule.proofs.Lists.{are_still}
use Rattle.dj_shape_rule.proofs.instrs.form_flows.Goals as goal

pub all_flow-requires : goal.all_flow-requires
all_flow-requires c = are_still c.args.frames.now c.args.state.now c.flows_at-in-Table.new.state c.flows_at-in-Table.ensures.same c.requires

pub pairs_flow-requires : goal.pairs_flow-requires
pairs_flow-requires c = are_still c.args.frames.now c.args.state.now c.flows_at-in-Lookup.new.state c.flows_at-in-Lookup.ensures.same c.requires

pub returns-then-flows_at-clause-flows : goal.returns-then-flows_at-clause-flows
returns-then-flows_at-clause-flows c =
    let fits : SFits w64 c.in-Table.default = search rules in
    let first = subst (FlowsAt c.args.state.now.kinds c.args.frames.now) (to_z-of_z w64 c.in-Table.default fits) (c.flows_at-in-Table.ensures.flows.0 c.if-flows_at.true) in
    let all = rw c.flows_at-in-Table.ensures.same at c.all_flow.ensures.flows in
    subst (λ (i : Instr). Decides c.all_flow.result (FormFlows c.args.state.now.kinds c.args.frames.now i)) (sym c.in-Table.is) (
      λ yes. (first, subst (λ (l : List (ℤ)). All (FlowsAt c.args.state.now.kinds c.args.frames.now) l) c.as_slice.ensures (all.0 yes)),
      λ flows. all.1 (subst (λ (l : List (ℤ)). All (FlowsAt c.args.state.now.kinds c.args.frames.now) l) (sym c.as_slice.ensures) flows.1),
    )

pub returns-then-flows_at-2-clause-flows : goal.returns-then-flows_at-2-clause-flows
returns-then-flows_at-2-clause-flows c =
    let fits : SFits w64 c.in-Lookup.default = search rules in
    let first = subst (FlowsAt c.args.state.now.kinds c.args.frames.now) (to_z-of_z w64 c.in-Lookup.default fits) (c.flows_at-in-Lookup.ensures.flows.0 c.if-flows_at-2.true) in
    let all = rw c.flows_at-in-Lookup.ensures.same at c.pairs_flow.ensures.flows in
    subst (λ (i : Instr). Decides c.pairs_flow.result (FormFlows c.args.state.now.kinds c.args.frames.now i)) (sym c.in-Lookup.is) (
      λ yes. (first, subst (λ (l : List (ℤ × ℤ)). All (λ (pair : ℤ × ℤ). FlowsAt c.args.state.now.kinds c.args.frames.now pair.1) l) c.as_slice-then-flows_at-2.ensures (all.0 yes)),
      λ flows. all.1 (subst (λ (l : List (ℤ × ℤ)). All (λ (pair : ℤ × ℤ). FlowsAt c.args.state.now.kinds c.args.frames.now pair.1) l) (sym c.as_slice-then-flows_at-2.ensures) flows.1),
    )
