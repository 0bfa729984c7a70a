use Rattle.std.proofs.Common.{◌+◌, Some, map, take, sym, ap, ◌∙◌, subst}
use Rattle.std.specs.List.{enumerate_from}
use Rattle.std.proofs.lemmas.Option.{slice_get-get_or}
use Rattle.dj_asm_source.specs.LineViews.{line_view}
use Rattle.dj_asm_pool.specs.trusted.Needs.{needs, needs_at}
use Rattle.dj_asm_pool.specs.Walking.{kind_entries, Walks}
use Rattle.dj_asm_pool.proofs.Walking.{needs_more, walks_then}
use Rattle.dj_asm_pool.proofs.walk.walk_kind.Goals as goal

pub loop-index-preserved : goal.loop-index-preserved
loop-index-preserved c =
    let lines = c.args.lines.now in
    let i = c.loop-index.index in
    let line = c.index-lines-index.result in
    let entries = kind_entries c.args.kind in
    subst (λ l. Walks c.args.pool.now c.args.lacking l c.walk_line.new.pool c.in_ok-next.next)
    (needs_more entries c.args.before lines i line c.loop-index-test.true (slice_get-get_or lines i line c.loop-index-test.true ∙ ap Some (sym c.index-lines-index.is)))
    (walks_then c.args.pool.now c.args.lacking (needs entries (enumerate_from c.args.before (map line_view (take i lines)))) c.loop-index.pool c.loop-index.first
    (needs_at (c.args.before + i) (entries (line_view line))) c.walk_line.new.pool c.in_ok-next.next c.loop-index.invariant c.in_ok-next.ensures)
