use Rattle.std.proofs.Common.{List, Some, Bor, ap, sym, ◌∙◌}
use Rattle.std.specs.Option.{option_map}
use Rattle.dj_names.specs.declared.descriptor.Kind.{Kind}
use Rattle.dj_invocation.specs.Operands.{parameters_in}
use Rattle.dj_invocation.proofs.SignatureFacts.{call_reported}
use Rattle.dj_invocation.proofs.signatures.parameters.Goals as goal

pub returns-in_err-parts : goal.returns-in_err-parts
returns-in_err-parts c = λ found code there runs. absurd (c.in_err-parts.ensures found code there runs)

pub returns-in_err-call : goal.returns-in_err-call
returns-in_err-call c = λ found code there runs.
    ap (option_map (λ (kinds : Bor (List Kind)). kinds.now)) c.from_residual-in_err-call.ensures
    ∙ ap parameters_in (c.in_err-call.ensures ∙ sym (call_reported c.args.image.now c.args.method found c.in_ok-parts.parts c.in_ok-parts.ensures there))

pub returns : goal.returns
returns c = λ found code there runs.
    ap Some c.parameters.ensures ∙ ap parameters_in (c.in_ok-call.ensures ∙ sym (call_reported c.args.image.now c.args.method found c.in_ok-parts.parts c.in_ok-parts.ensures there))
