use Rattle.std.proofs.Common.{◌≡◌, ◌<◌, ◌^◌, ℕ, Some, sym, subst, arith}
use Rattle.std.specs.Prelude.{slice_get}
use Rattle.dj_numbering.specs.Typed.{type_at}
use Rattle.dj_image.specs.Imaged.{typed_of}
use Rattle.dj_unwinding.specs.Unwinding.{ranges_at}
use Rattle.dj_unwinding.proofs.Catching.{before_row, after_row, any_row, row_by_type, names_type}
use Rattle.dj_unwinding.proofs.ShortLaws.{row_numbered}
use Rattle.dj_unwinding.proofs.rows.handles.Goals as goal
use Rattle.dj_unwinding.proofs.rows.handles.Goals.{then-number-row-via-then-number-row, then-number-row-via-else-number-row+then-row-number}

pub returns-then-number-row-clause-says : goal.returns-then-number-row-clause-says
returns-then-number-row-clause-says c = λ range e.
    let image = c.args.image.now in
    let class = type_at (typed_of image) c.args.class in
    elim c.then-number-row.branch [
      | then-number-row-via-then-number-row w ↦ before_row image c.args.method.number c.args.at c.args.row.now c.requires.row class c.args.number range e w.if-number-row.true
      | then-number-row-via-else-number-row+then-row-number w ↦ after_row image c.args.method.number c.args.at c.args.row.now c.requires.row class c.args.number range e w.if-row-number.true
    ]

pub returns-then-row-eq0-clause-says : goal.returns-then-row-eq0-clause-says
returns-then-row-eq0-clause-says c = λ range e.
    let image = c.args.image.now in
    any_row image c.args.method.number c.args.at c.args.row.now c.requires.row (type_at (typed_of image) c.args.class) c.args.number range e
    c.if-number-row.false c.if-row-number.false c.if-row-eq0.true

pub returns-clause-says : goal.returns-clause-says
returns-clause-says c = λ range e.
    let image = c.args.image.now in
    let class = type_at (typed_of image) c.args.class in
    let same : c.args.at ≡ c.in-Ok.at = sym (c.in-Ok.ensures {u = tt}).1 in
    let there : slice_get (ranges_at image c.args.method.number) c.in-Ok.at ≡ Some range =
    subst (λ (at : ℕ). slice_get (ranges_at image c.args.method.number) at ≡ Some range) same e in
    row_by_type image c.args.method.number c.args.at c.args.row.now c.requires.row class c.args.number range e c.if-number-row.false c.if-row-number.false c.is_caught.result
    (c.is_caught.ensures range there (names_type image c.args.method.number c.args.at c.args.row.now c.requires.row class c.args.number range e c.if-row-eq0.false))

pub returns-in_default-clause-frugal : goal.returns-in_default-clause-frugal
returns-in_default-clause-frugal c = λ short.
    let fits : c.args.at < 2 ^ 32 = row_numbered c.args.image.now c.requires.sound.formed short c.args.method.number c.args.at c.args.row.now c.requires.there c.requires.row in
    let past = c.in_default.ensures {u = tt} in
    absurd (omega (arith, fits, past))
