use Rattle.std.proofs.Common.{ℕ, List, Option, Some, Bor, ap, ◌∙◌}
use Rattle.std.specs.Prelude.{option_and_then}
use Rattle.std.specs.Option.{option_map}
use Rattle.dj_names.specs.declared.descriptor.Kind.{Kind}
use Rattle.dj_shape_rule.specs.Pools.{call_at}
use Rattle.dj_invocation.specs.Operands.{parameters_in}
use Rattle.dj_invocation.specs.Sites.{desc_index}
use Rattle.dj_invocation.proofs.site.parameters_named.Goals as goal

pub returns-in_err-desc : goal.returns-in_err-desc
returns-in_err-desc c =
    ap (option_map (λ (reported : Bor (List Kind)). reported.now)) c.from_residual.ensures
    ∙ ap (λ (o : Option ℕ). parameters_in (option_and_then (call_at c.args.kinds.now.calls) o)) (c.in_err-desc.ensures ∙ ap desc_index c.constant.ensures)

pub returns-in_err-call : goal.returns-in_err-call
returns-in_err-call c =
    ap (option_map (λ (reported : Bor (List Kind)). reported.now)) c.from_residual-in_err-call.ensures
    ∙ ap parameters_in (c.in_err-call.ensures ∙ ap (option_and_then (call_at c.args.kinds.now.calls)) (c.in_ok-desc.ensures ∙ ap desc_index c.constant.ensures))

pub returns : goal.returns
returns c =
    ap Some c.parameters.ensures
    ∙ ap parameters_in (c.in_ok-call.ensures ∙ ap (option_and_then (call_at c.args.kinds.now.calls)) (c.in_ok-desc.ensures ∙ ap desc_index c.constant.ensures))
