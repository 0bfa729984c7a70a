use Rattle.std.proofs.lemmas.Option.{slice_get-get_or}
use Rattle.dj_early_rules.proofs.PrintLaws.{one_more_noted, all_distinct}
use Rattle.dj_early_rules.proofs.prints.are_distinct.Goals as goal

pub loop-index-preserved : goal.loop-index-preserved
loop-index-preserved c =
    one_more_noted c.loop-index.prints c.note_marked.new.prints c.args.pool.now c.args.marks.now c.loop-index.index _ c.in_ok-note_marked.field-0
    (slice_get-get_or c.args.marks.now c.loop-index.index _ c.loop-index-test.true) c.if-not-branch.false c.in_ok-note_marked.ensures c.loop-index.invariant

pub returns : goal.returns
returns c = λ seen. all_distinct c.loop-index.prints c.args.pool.now c.args.marks.now c.loop-index.index c.loop-index-test.false c.loop-index.invariant
