use Rattle.std.proofs.Common.{◌≡◌, List, Option, None, map, sym, ◌∙◌, subst, rules}
use Rattle.dj_asm_source.specs.trusted.Lines.{Line}
use Rattle.dj_asm_source.specs.trusted.Sources.{Source}
use Rattle.dj_asm_source.specs.LineViews.{line_view}
use Rattle.dj_asm_source.specs.SourceLines.{AreLinesOf}
use Rattle.dj_asm_pool.specs.Room.{IsFirst}
use Rattle.dj_asm.specs.trusted.Large.{IsTooLarge}
use Rattle.dj_asm.specs.Assembling.{IsJudged, IsFirstBeside}
use Rattle.dj_asm.proofs.AssembleLaws.{first_of_both, judged, none_found, fits_or_found}
use Rattle.dj_asm.proofs.assembling.fitting_file.Goals as goal

pub file_or_fault-requires-clause-fitting : goal.file_or_fault-requires-clause-fitting
file_or_fault-requires-clause-fitting c = λ none.
    let text = c.requires.text in
    let large : (s : Source) → IsJudged s (map line_view c.lines.result.now) c.args.pool.now → IsFirstBeside s c.in_ok-large.large = search rules in (
      text.1.source,
      none_found text.0 c.args.read.now c.args.pool.now c.args.lacking c.in_ok-large.large text.1 (c.requires.pool text.1.source text.1.lines_are)
          (λ j. large text.1.source (subst (λ (ls : List Line). IsJudged text.1.source ls c.args.pool.now) (sym c.lines.ensures) j))
          (sym c.least_of.ensures ∙ none),
    )

pub returns : goal.returns
returns c = λ text is.
    let pool = c.requires.pool is.source is.lines_are in
    let large : (s : Source) → IsJudged s (map line_view c.lines.result.now) c.args.pool.now → IsFirstBeside s c.in_ok-large.large = search rules in
    let judge = λ (j : IsJudged is.source c.args.read.now.lines c.args.pool.now).
    large is.source (subst (λ (ls : List Line). IsJudged is.source ls c.args.pool.now) (sym c.lines.ensures) j) in
    c.file_or_fault.ensures text is
    (subst (IsFirst (IsTooLarge is.source)) (sym c.least_of.ensures)
    (first_of_both is.source c.args.lacking c.in_ok-large.large pool.lacking_is (judge (judged text c.args.read.now c.args.pool.now c.args.lacking is pool))))
    (fits_or_found text c.args.read.now c.args.pool.now c.args.lacking c.in_ok-large.large is pool judge c.least_of.result (sym c.least_of.ensures))
