use Rattle.std.proofs.Common.{◌&&◌, ◌+◌, Bool, ap, sym, ◌∙◌, arith, reverse, drop}
use Rattle.std.proofs.lemmas.List.{length-reverse}
use Rattle.dj_names.specs.declared.descriptor.Kind.TheVariants as kinds
use Rattle.dj_stack.specs.Frames.{top_operands}
use Rattle.dj_invocation.specs.Operands.{fit}
use Rattle.dj_invocation.proofs.OperandFacts.{too_few, one_more, kind_at, none_left}
use Rattle.dj_invocation.proofs.operands.fit.Goals as goal

pub returns-then-from-count-clause-fits : goal.returns-then-from-count-clause-fits
returns-then-from-count-clause-fits c =
    let long = length-reverse c.args.kinds.now in
    sym (too_few (reverse c.args.kinds.now) (top_operands c.args.frames.now) (omega (arith, long)))

pub returns-then-not-is_of_kind-clause-fits : goal.returns-then-not-is_of_kind-clause-fits
returns-then-not-is_of_kind-clause-fits c =
    let rest : Bool = fit (drop (c.loop-at.at + 1) (reverse c.args.kinds.now)) (drop (c.loop-at.at + 1) (top_operands c.args.frames.now)) in
    let looked = one_more (reverse c.args.kinds.now) (top_operands c.args.frames.now) c.loop-at.at _ c.operand.result
    (kind_at c.args.kinds.now c.loop-at.at kinds.Int (omega arith)) c.operand.ensures in
    ap (λ (b : Bool). b && rest) (sym c.if-not-is_of_kind.true ∙ c.is_of_kind.ensures) ∙ (sym looked ∙ c.loop-at.invariant)

pub loop-at-preserved : goal.loop-at-preserved
loop-at-preserved c =
    let rest : Bool = fit (drop (c.loop-at.at + 1) (reverse c.args.kinds.now)) (drop (c.loop-at.at + 1) (top_operands c.args.frames.now)) in
    let looked = one_more (reverse c.args.kinds.now) (top_operands c.args.frames.now) c.loop-at.at _ c.operand.result
    (kind_at c.args.kinds.now c.loop-at.at kinds.Int (omega arith)) c.operand.ensures in
    ap (λ (b : Bool). b && rest) (sym c.if-not-is_of_kind.false ∙ c.is_of_kind.ensures) ∙ (sym looked ∙ c.loop-at.invariant)

pub returns-clause-fits : goal.returns-clause-fits
returns-clause-fits c =
    let long = length-reverse c.args.kinds.now in
    sym (none_left (reverse c.args.kinds.now) (top_operands c.args.frames.now) c.loop-at.at (omega (arith, long))) ∙ c.loop-at.invariant
