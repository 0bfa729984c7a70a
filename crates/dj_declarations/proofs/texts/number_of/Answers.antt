use Rattle.std.proofs.Common.{◌+◌, ◌-◌, sym, ◌∙◌, arith}
use Rattle.std.specs.Prelude.{◌/◌}
use Rattle.dj_declarations.proofs.TextLaws.{between_higher, between_lower, found_nowhere}
use Rattle.dj_declarations.proofs.texts.number_of.Goals as goal

pub loop-low-preserved-in-Less : goal.loop-low-preserved-in-Less
loop-low-preserved-in-Less c =
    let low = c.loop-low.low in
    let high = c.loop-low.high in
    between_higher c.args.ends.now c.args.bytes.now c.args.text.now low high (low + (high - low) / 2) c.requires.ascend c.loop-low.invariant (omega (arith, c.loop-low-test.true)) (omega arith)
    (sym c.in-Less.is ∙ c.compare_at.ensures)

pub loop-low-preserved : goal.loop-low-preserved
loop-low-preserved c =
    let low = c.loop-low.low in
    let high = c.loop-low.high in
    between_lower c.args.ends.now c.args.bytes.now c.args.text.now low high (low + (high - low) / 2) c.requires.ascend c.loop-low.invariant (omega (arith, c.loop-low-test.true)) (omega arith)
    (sym c.in-Greater.is ∙ c.compare_at.ensures)

pub returns : goal.returns
returns c = found_nowhere c.args.ends.now c.args.bytes.now c.args.text.now c.loop-low.low c.loop-low.high c.loop-low.invariant (omega (arith, c.loop-low-test.false))
