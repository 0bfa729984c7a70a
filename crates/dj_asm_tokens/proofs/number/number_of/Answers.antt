use Rattle.std.proofs.Common.{◌∙◌}
use Rattle.std.specs.Int.{w64}
use Rattle.std.proofs.lemmas.Int.{to_z-of_z}
use Rattle.dj_asm_tokens.specs.trusted.Words.{word_units}
use Rattle.dj_asm_tokens.proofs.DigitLaws.{minus_read, plain_read}
use Rattle.dj_asm_tokens.proofs.number.number_of.Goals as goal

pub returns-in-Some-size_of : goal.returns-in-Some-size_of
returns-in-Some-size_of c =
    (rw (to_z-of_z w64 c.args.low c.ranges.low, to_z-of_z w64 c.args.high c.ranges.high) at c.minus.ensures)
    ∙ minus_read (word_units 0 c.args.bytes.now) (word_units 0 c.in-Some.after.now) c.in-Some-size_of.size c.args.low c.args.high c.in-Some.ensures c.in-Some-size_of.ensures c.ranges.low

pub returns-in-Some-size_of-2 : goal.returns-in-Some-size_of-2
returns-in-Some-size_of-2 c =
    (rw (to_z-of_z w64 c.args.low c.ranges.low, to_z-of_z w64 c.args.high c.ranges.high) at c.plain.ensures)
    ∙ plain_read (word_units 0 c.args.bytes.now) c.in-Some-size_of-2.size c.args.low c.args.high c.in-None.ensures c.in-Some-size_of-2.ensures c.ranges.high
