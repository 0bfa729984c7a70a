use Rattle.std.proofs.Common.{◌≡◌, FitsSigned, rules, arith}
use Rattle.std.specs.Int.{w64}
use Rattle.std.proofs.lemmas.Int.{to_z-of_z, ints}
use Rattle.dj_asm_tokens.specs.Numbers.{Value, number_within}
use Rattle.dj_asm_tokens.specs.WordReading.{number_in}
use Rattle.dj_asm_tokens.specs.Views.{units_of, left_of}
use Rattle.dj_asm_source.specs.Stops.{lowest, highest}
use Rattle.dj_asm_source.proofs.ReaderLaws.{value_within, number_got}
use Rattle.dj_asm_source.proofs.reader.number.Goals as goal

pub returns-in-Value-clause-read : goal.returns-in-Value-clause-read
returns-in-Value-clause-read c =
    let low_fits : FitsSigned w64 c.bounds-low.result.0 = search rules in
    let high_fits : FitsSigned w64 c.bounds-low.result.1 = search rules in
    let fits : FitsSigned w64 c.in-Value.value = search rules in
    let e : Value c.in-Value.value ≡ number_within (lowest c.args.field) (highest c.args.field) (number_in (units_of c.in_ok-spot.spot.word)) =
    rw (to_z-of_z w64 c.bounds-low.result.0 low_fits, to_z-of_z w64 c.bounds-low.result.1 high_fits, c.bounds-low.ensures.low, c.bounds-low.ensures.high) at c.in-Value.ensures in
    let w = value_within (lowest c.args.field) (highest c.args.field) c.in-Value.value (number_in (units_of c.in_ok-spot.spot.word)) e in
    rw (to_z-of_z w64 c.in-Value.value fits)
    (number_got (left_of c.args.at) (left_of c.in_ok-spot.spot.rest) c.in_ok-spot.spot.line c.in_ok-spot.spot.column (units_of c.in_ok-spot.spot.word) c.args.field c.in-Value.value c.in_ok-spot.ensures w.0 w.1 w.2)

pub returns-in-Value-clause-low : goal.returns-in-Value-clause-low
returns-in-Value-clause-low c =
    let low_fits : FitsSigned w64 c.bounds-low.result.0 = search rules in
    let high_fits : FitsSigned w64 c.bounds-low.result.1 = search rules in
    let fits : FitsSigned w64 c.in-Value.value = search rules in
    let e : Value c.in-Value.value ≡ number_within (lowest c.args.field) (highest c.args.field) (number_in (units_of c.in_ok-spot.spot.word)) =
    rw (to_z-of_z w64 c.bounds-low.result.0 low_fits, to_z-of_z w64 c.bounds-low.result.1 high_fits, c.bounds-low.ensures.low, c.bounds-low.ensures.high) at c.in-Value.ensures in
    let w = value_within (lowest c.args.field) (highest c.args.field) c.in-Value.value (number_in (units_of c.in_ok-spot.spot.word)) e in
    rw (to_z-of_z w64 c.in-Value.value fits) (grind (arith, ints))
